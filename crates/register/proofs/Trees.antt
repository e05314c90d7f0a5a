-- A tree and the pages that hold it.
--     item_for, items_for     the item of a node, and those of a tree
--     Held                    the pages are what the tree makes: the root of its items, each leaf of its entries
--     Good                    the rules of a tree, its separators and keys are good, and its entries fit
--     register-tree           a register's pages hold its tree, and that is good
--     items-tree              the items of that tree are the root's
--     items-fit               items with good separators and pages of leaves fit
--     all-entries             of all entries of a tree, and so of those of each node
--     tree-register           pages that hold a good tree are a register, and that is its tree
--     register-after          the same after writes to a register
use Rattle.std.proofs.Common.{◌≡◌, ℕ, ◌<◌, ◌≤◌, true, List, [], ◌∷◌, ◌++◌, map, length, sym, refl, ap, ◌∙◌, subst, arith}
use Rattle.std.specs.List.{AllByRecursion}
use Rattle.std.proofs.ByRecursion.{All-map}
use Rattle.std.proofs.lemmas.List.{length-map, map-append}
use Rattle.names.specs.Names.{is_byte_key}
use Rattle.names.specs.Orders.{before}
use Rattle.names.proofs.Stored.{byte-key-long}
use Rattle.rows.proofs.Sorting.{all-parts}
use Rattle.tree.specs.Tree.{Node, node, pages, entries, Shape}
use Rattle.pages.specs.Bytes.{records_of}
use Rattle.pages.specs.Records.{item_bytes, item_of, ItemFit, entry_bytes, entry_of, EntryFit}
use Rattle.pages.proofs.Reread.{page-back}
use Rattle.pages.specs.Fields.{entry-long, entry-back, item-long, item-back}
use Rattle.pages.specs.Writes.{PageWrite, imaged}
use Rattle.pages.specs.declared.records.Item.{Item}
use Rattle.pages.specs.declared.records.Entry.{Entry}
use Rattle.register.specs.Images.{zero_key, key_of, item, page_at, items_of, leaf_of, node_of, tree_of, entries_of, leaf_page, root_page, pages_of}
use Rattle.register.specs.Registers.{Separators, IsRegister}
use Rattle.register.proofs.ZeroKey.{zero_key-long}
use Rattle.register.proofs.Written.{length-imaged}

abbrev pub Tree : Type 0
Tree = List (Node (List ℕ) Entry)

abbrev pub item_for : Node (List ℕ) Entry → Item
item_for n = item n.sep n.page

abbrev pub items_for : Tree → List Item
items_for t = map item_for t

-- the image of its page is what a node's entries make
abbrev pub OnPage : List (List ℕ) → Node (List ℕ) Entry → Type 0
OnPage images n = page_at images n.page ≡ leaf_page n.entries

pub record Held (images : List (List ℕ)) (t : Tree) : Type 0 where
  pub root : page_at images 0 ≡ root_page (items_for t)
  pub leaves : AllByRecursion (OnPage images) t

pub record Good (P : ℕ) (t : Tree) : Type 0 where
  pub shape : Shape key_of before zero_key P t
  pub separators : Separators (items_for t)
  pub keys : AllByRecursion (λ e. is_byte_key e.key ≡ true) (entries t)
  pub fit : AllByRecursion EntryFit (entries t)

-- the entries of a node do not show in its item
pub items-alike : (left right : Tree) (m : Node (List ℕ) Entry) (es : List Entry) → items_for (left ++ m ∷ right) ≡ items_for (left ++ node m.sep m.page es ∷ right)
items-alike left right m es = map-append item_for left (m ∷ right) ∙ sym (map-append item_for left (node m.sep m.page es ∷ right))

pub pages-items : (t : Tree) → pages_of (items_for t) ≡ pages t
pages-items [] = refl
pages-items (n ∷ t) = ap (λ ps. n.page ∷ ps) (pages-items t)

pub items-tree : (images : List (List ℕ)) (is : List Item) → items_for (map (node_of images) is) ≡ is
items-tree images [] = refl
items-tree images (i ∷ is) = ap (λ is. i ∷ is) (items-tree images is)

pub register-tree : (P : ℕ) (images : List (List ℕ)) → IsRegister P images → Held images (tree_of images) × Good P (tree_of images)
register-tree P images r =
    let e = sym (items-tree images (items_of images)) in (
      record { root = r.root ∙ ap root_page e; leaves = r.leaves },
      record { shape = r.shape; separators = subst Separators e r.separators; keys = r.keys; fit = r.entries_fit },
    )

keys-fit : (P : ℕ) (is : List Item) → P ≤ 21 → AllByRecursion (λ i. is_byte_key i.separator ≡ true) is → AllByRecursion (λ i. (1 ≤ i.page) × (i.page < P)) is → AllByRecursion ItemFit is
keys-fit P [] m s r = tt
keys-fit P (i ∷ is) m s r = ((byte-key-long i.separator s.0, omega (arith, r.0)), keys-fit P is m s.1 r.1)

pub items-fit : (P : ℕ) (is : List Item) → P ≤ 21 → Separators is → AllByRecursion (λ i. (1 ≤ i.page) × (i.page < P)) is → AllByRecursion ItemFit is
items-fit P [] m s r = tt
items-fit P (i ∷ is) m s r = ((ap length s.0 ∙ zero_key-long, omega (arith, r.0)), keys-fit P is m s.1 r.1)

pub all-entries : {E K : Type 0} (Q : E → Type 0) (t : List (Node K E)) → AllByRecursion Q (entries t) → AllByRecursion (λ n. AllByRecursion Q n.entries) t
all-entries Q [] a = tt
all-entries Q (n ∷ t) a = let h = all-parts Q n.entries (entries t) a in (h.0, all-entries Q t h.1)

leaves-read : (images : List (List ℕ)) (t : Tree) → AllByRecursion (OnPage images) t → AllByRecursion (λ n. AllByRecursion EntryFit n.entries) t → AllByRecursion (λ n. length n.entries ≤ 15) t → AllByRecursion (λ n. leaf_of images n.page ≡ n.entries) t
leaves-read images [] a f s = tt
leaves-read images (n ∷ t) a f s = (
  ap (records_of entry_of 32 15) a.0 ∙ page-back entry_bytes entry_of 32 EntryFit entry-long entry-back 76 15 n.entries f.0 s.0 (omega arith) (omega arith),
  leaves-read images t a.1 f.1 s.1,
)

nodes-read : (images : List (List ℕ)) (t : Tree) → AllByRecursion (λ n. leaf_of images n.page ≡ n.entries) t → map (node_of images) (items_for t) ≡ t
nodes-read images [] a = refl
nodes-read images (n ∷ t) a = ap (λ es. node n.sep n.page es ∷ map (node_of images) (items_for t)) a.0 ∙ ap (λ t. n ∷ t) (nodes-read images t a.1)

pub tree-register : (P : ℕ) (images : List (List ℕ)) (t : Tree) → 2 ≤ P → P ≤ 21 → length images ≡ P → Held images t → Good P t → IsRegister P images × (tree_of images ≡ t)
tree-register P images t least most all h g =
    let f = items-fit P (items_for t) most g.separators (All-map (λ i. (1 ≤ i.page) × (i.page < P)) item_for t g.shape.range) in
    let few : length (items_for t) ≤ 20 = omega (arith, g.shape.few, length-map t item_for) in
    let is : items_of images ≡ items_for t = ap (records_of item_of 24 20) h.root ∙ page-back item_bytes item_of 24 ItemFit item-long item-back 82 20 (items_for t) f few (omega arith) (omega arith) in
    let e : tree_of images ≡ t = ap (map (node_of images)) is ∙ nodes-read images t (leaves-read images t h.leaves (all-entries EntryFit t g.fit) g.shape.sizes) in (
      record {
        least = least;
        most = most;
        all = all;
        shape = subst (Shape key_of before zero_key P) (sym e) g.shape;
        root = h.root ∙ ap root_page (sym is);
        leaves = subst (AllByRecursion (OnPage images)) (sym e) h.leaves;
        separators = subst Separators (sym is) g.separators;
        keys = subst (λ t. AllByRecursion (λ e. is_byte_key e.key ≡ true) (entries t)) (sym e) g.keys;
        items_fit = subst (AllByRecursion ItemFit) (sym is) f;
        entries_fit = subst (λ t. AllByRecursion EntryFit (entries t)) (sym e) g.fit;
      },
      e,
    )

pub register-after : (P : ℕ) (ws : List PageWrite) (images : List (List ℕ)) (t : Tree) → IsRegister P images → Held (imaged ws images) t → Good P t → IsRegister P (imaged ws images) × (entries_of (imaged ws images) ≡ entries t)
register-after P ws images t r h g = let s = tree-register P (imaged ws images) t r.least r.most (length-imaged ws images ∙ r.all) h g in (s.0, ap entries s.1)
