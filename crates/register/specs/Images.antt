-- What the pages of a register hold, and what a change writes to them.
--     zero_key             22 zeros: the separator of the root's first item
--     key_of               an entry's key
--     entry, item, no_entry, no_item, write    an entry, an item and a page's write by their parts; and what stands for a place past a list's end
--     page_at              the image of a page
--     items_of, leaf_of    the items on page 0, and the entries on a page
--     node_of, tree_of     an item with the entries of its page, and so all of them
--     entries_of           all entries, leaf by leaf
--     leaf_page, root_page     the images of a leaf and of the root
--     pages_of             the pages that items name
--     seat                 the place of the item that a key belongs to: the last whose separator is not above it
--     home                 the page of the leaf that a key belongs to
--     with_entry, less_entry   a leaf's entries with one more, and without that of a key
--     zero_first           items whose first separator is zeros
--     most_items           the most items that the root may have
--     is_full              a key's leaf takes no more, and no leaf may be added
--     split_writes         the halves of a leaf of 16 entries, and the root with an item for the second
--     put_writes           what putting an entry in writes: its leaf; or two halves and the root
--     take_writes          what taking a key's entry out writes: its leaf; and the root if the leaf is empty and not the only one
use Rattle.std.specs.Prelude.{ℕ, suc, ◌-◌, min, Bool, cond, not, ◌&&◌, List, [], ◌∷◌, map, length, take, drop, replicate, ◌==◌, nat_lt, slice_index_or}
use Rattle.names.specs.Orders.{before}
use Rattle.rows.specs.Lists.{up_to, put_at, without}
use Rattle.tree.specs.Tree.{Node, node, entries, lowest}
use Rattle.pages.specs.Bytes.{page_of, records_of}
use Rattle.pages.specs.Records.{item_bytes, item_of, entry_bytes, entry_of}
use Rattle.pages.specs.Writes.{PageWrite}
use Rattle.pages.specs.declared.records.Item.{Item}
use Rattle.pages.specs.declared.records.Entry.{Entry}

unfoldable pub zero_key : List ℕ
zero_key = replicate 22 0

abbrev pub key_of : Entry → List ℕ
key_of e = e.key

abbrev pub item : List ℕ → ℕ → Item
item separator page = record { separator = separator; page = page }

abbrev pub entry : List ℕ → ℕ → ℕ → Entry
entry key start length = record { key = key; start = start; length = length }

abbrev pub no_item : Item
no_item = record { separator = []; page = 0 }

abbrev pub no_entry : Entry
no_entry = record { key = []; start = 0; length = 0 }

abbrev pub page_at : List (List ℕ) → ℕ → List ℕ
page_at images page = slice_index_or images page []

abbrev pub items_of : List (List ℕ) → List Item
items_of images = records_of item_of 24 20 (page_at images 0)

abbrev pub leaf_of : List (List ℕ) → ℕ → List Entry
leaf_of images page = records_of entry_of 32 15 (page_at images page)

abbrev pub node_of : List (List ℕ) → Item → Node (List ℕ) Entry
node_of images i = node i.separator i.page (leaf_of images i.page)

abbrev pub tree_of : List (List ℕ) → List (Node (List ℕ) Entry)
tree_of images = map (node_of images) (items_of images)

abbrev pub entries_of : List (List ℕ) → List Entry
entries_of images = entries (tree_of images)

abbrev pub leaf_page : List Entry → List ℕ
leaf_page es = page_of entry_bytes 76 es

abbrev pub root_page : List Item → List ℕ
root_page is = page_of item_bytes 82 is

abbrev pub pages_of : List Item → List ℕ
pages_of is = map (λ i. i.page) is

abbrev pub seat : List Item → List ℕ → ℕ
seat is k = up_to before k (map (λ i. i.separator) is) - 1

abbrev pub home : List (List ℕ) → List ℕ → ℕ
home images k = (slice_index_or (items_of images) (seat (items_of images) k) no_item).page

abbrev pub with_entry : List Entry → Entry → List Entry
with_entry es e = put_at es (up_to before e.key (map key_of es)) e

abbrev pub less_entry : List Entry → List ℕ → List Entry
less_entry es k = without es (up_to before k (map key_of es) - 1)

abbrev pub zero_first : List Item → List Item
zero_first [] = []
zero_first (i ∷ is) = item zero_key i.page ∷ is

abbrev pub write : ℕ → List ℕ → PageWrite
write page image = record { page = page; image = image }

abbrev pub most_items : ℕ → ℕ
most_items P = min 20 (P - 1)

abbrev pub is_full : ℕ → List (List ℕ) → List ℕ → Bool
is_full P images k = not (nat_lt (length (leaf_of images (home images k))) 15) && not (nat_lt (length (items_of images)) (most_items P))

-- the halves of a leaf of 16 entries on the pages p and q, and the root with an item for the second one after place i
abbrev pub split_writes : ℕ → ℕ → ℕ → List Item → List Entry → List PageWrite
split_writes i p q is es =
    write p (leaf_page (take 8 es)) ∷ write q (leaf_page (drop 8 es)) ∷ write 0 (root_page (put_at is (suc i) (item (slice_index_or es 8 no_entry).key q))) ∷ []

unfoldable pub put_writes : ℕ → Entry → List (List ℕ) → List PageWrite
put_writes P e images =
    let is = items_of images in
    let p = home images e.key in
    let es = leaf_of images p in
    cond (nat_lt (length es) 15) (write p (leaf_page (with_entry es e)) ∷ [])
    (split_writes (seat is e.key) p (lowest (P - 1) 1 (pages_of is)) is (with_entry es e))

unfoldable pub take_writes : List ℕ → List (List ℕ) → List PageWrite
take_writes k images =
    let is = items_of images in
    let p = home images k in
    let es = less_entry (leaf_of images p) k in
    cond (nat_lt 1 (length is) && length es == 0)
    (write p (leaf_page es) ∷ write 0 (root_page (zero_first (without is (seat is k)))) ∷ [])
    (write p (leaf_page es) ∷ [])
