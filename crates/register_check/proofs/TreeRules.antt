-- The rules of the tree and those of the root and its leaves.
--     fine-from        leaves that are right, and separators that rise, put the tree in order
--     rises-from       in a tree in order the separators rise
--     leaves-from      the leaves of a tree in order are right, if their entries are
use Rattle.std.proofs.Common.{◌≡◌, ℕ, ◌<◌, Bool, true, false, List, [], ◌∷◌, map, length, None, refl}
use Rattle.std.specs.List.{AllByRecursion}
use Rattle.std.proofs.ByRecursion.{All-weaker}
use Rattle.std.proofs.lemmas.Bool.{and_from}
use Rattle.names.specs.Names.{is_byte_key}
use Rattle.names.specs.Orders.{before}
use Rattle.rows.specs.Lists.{Sorted}
use Rattle.tree.specs.Tree.{Under, bound, Fine}
use Rattle.pages.specs.declared.records.Item.{Item}
use Rattle.pages.specs.declared.records.Entry.{Entry}
use Rattle.register.specs.Images.{key_of, page_at, leaf_of, leaf_page, node_of}
use Rattle.register_check.specs.Chains.{rising}
use Rattle.register_check.specs.Roots.{separator_of}
use Rattle.register_check.specs.Extents.{InPlace}
use Rattle.register_check.specs.Leaves.{EntryRight, limits, next_separator}
use Rattle.register_check.specs.declared.leaves.Limits.{Limits}
use Rattle.register_check.proofs.Risings.{rising-decided}
use Rattle.register_check.proofs.LeafSearch.{LeavesRight}

abbrev InTree : List (List ℕ) → List Item → Type 0
InTree images items = Fine key_of before (map (node_of images) items) None

module _ (images : List (List ℕ)) where
  rising-from : (items : List Item) → InTree images items → rising separator_of items ≡ true
  rising-from [] f = refl
  rising-from (i ∷ []) f = refl
  rising-from (i ∷ j ∷ js) f = and_from (before i.separator j.separator) (rising separator_of (j ∷ js)) f.0.next (rising-from (j ∷ js) f.1)

  pub rises-from : (items : List Item) → InTree images items → Sorted separator_of before items
  rises-from items f = (rising-decided separator_of items).0 (rising-from items f)

-- what is asked of each entry, put together
all-right : (l : Limits) (es : List Entry) → AllByRecursion (λ e. is_byte_key e.key ≡ true) es → AllByRecursion (λ e. before e.key l.separator ≡ false) es → AllByRecursion (λ e. Under key_of before l.next e.key) es → AllByRecursion (InPlace l.area.first l.area.sectors) es
    → AllByRecursion (EntryRight l) es
all-right l [] k f b p = tt
all-right l (e ∷ es) k f b p = (record { key = k.0; from = f.0; below = b.0; placed = p.0 }, all-right l es k.1 f.1 b.1 p.1)

-- where the nodes of items begin
begins-next : (images : List (List ℕ)) (items : List Item) → bound key_of before (map (node_of images) items) None ≡ next_separator items
begins-next images [] = refl
begins-next images (i ∷ is) = refl

under-next : (k : List ℕ) (items : List Item) → AllByRecursion (λ i. before k i.separator ≡ true) items → Under key_of before (next_separator items) k
under-next k [] a = tt
under-next k (i ∷ is) a = a.0

module _ (first sectors : ℕ) (single : Bool) (images : List (List ℕ)) where
  pub fine-from : (items : List Item) → LeavesRight first sectors single images items → Sorted separator_of before items → InTree images items
  fine-from [] r s = tt
  fine-from (i ∷ is) r s =
      let l = limits i.separator (next_separator is) first sectors in
      let es = leaf_of images i.page in (
        record {
          rises = r.0.rises;
          from = All-weaker (EntryRight l) (λ e. before e.key i.separator ≡ false) (λ e h. h.from) es r.0.entries;
          below = rw (begins-next images is) (All-weaker (EntryRight l) (λ e. Under key_of before (next_separator is) e.key) (λ e h. h.below) es r.0.entries);
          next = rw (begins-next images is) (under-next i.separator is s.0);
        },
        fine-from is r.1 s.1,
      )

  abbrev LeavesForm : List Item → Type 0
  LeavesForm items = AllByRecursion (λ (i : Item). page_at images i.page ≡ leaf_page (leaf_of images i.page)) items

  abbrev LeavesFilled : List Item → Type 0
  LeavesFilled items = AllByRecursion (λ (i : Item). single ≡ false → 0 < length (leaf_of images i.page)) items

  abbrev LeavesHold : (Entry → Type 0) → List Item → Type 0
  LeavesHold P items = AllByRecursion (λ (i : Item). AllByRecursion P (leaf_of images i.page)) items

  pub leaves-from : (items : List Item) → InTree images items → LeavesForm items → LeavesFilled items → LeavesHold (λ e. is_byte_key e.key ≡ true) items → LeavesHold (InPlace first sectors) items
      → LeavesRight first sectors single images items
  leaves-from [] f m n k p = tt
  leaves-from (i ∷ is) f m n k p =
      let below = rw (begins-next images is) at f.0.below in (
        record {
          form = m.0;
          filled = n.0;
          rises = f.0.rises;
          entries = all-right (limits i.separator (next_separator is) first sectors) (leaf_of images i.page) k.0 f.0.from below p.0;
        },
        leaves-from is f.1 m.1 n.1 k.1 p.1,
      )
