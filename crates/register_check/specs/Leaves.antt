-- When a leaf of a register is right.
--     limits               what bounds a leaf's entries: its separator, that of the next item if there is one, and the sectors for files
--     EntryRight           an entry's key is good with a last byte below 256, not below the separator and below the next, and its extent is in place
--     LeafRight            the page is just what its entries make; only a single leaf is empty; keys rise; each entry is right
--     under, entry_right, leaf_right   the tests
--     next_separator       the first separator of items, if there is one
--     page_of_item         the page of the item at a place
--     LeafAt               the leaf of the item at a place is right
use Rattle.std.specs.Prelude.{◌≡◌, ℕ, suc, ◌<◌, Bool, true, false, not, ◌&&◌, ◌||◌, List, [], ◌∷◌, length, drop, Some, None, Option, ◌==◌, nat_eq, slice_index_or}
use Rattle.std.specs.Cmp.Lexicographic.{pointwise}
use Rattle.std.specs.List.{list_all, AllByRecursion}
use Rattle.names.specs.Names.{is_byte_key}
use Rattle.names.specs.Orders.{before}
use Rattle.rows.specs.Lists.{Sorted}
use Rattle.tree.specs.Tree.{Under}
use Rattle.pages.specs.declared.records.Item.{Item}
use Rattle.pages.specs.declared.records.Entry.{Entry}
use Rattle.register.specs.Images.{key_of, no_item, page_at, leaf_of, leaf_page}
use Rattle.register_check.specs.Chains.{rising}
use Rattle.register_check.specs.Extents.{InPlace, in_place}
use Rattle.register_check.specs.declared.leaves.Limits.{Limits}

abbrev pub limits : List ℕ → Option (List ℕ) → ℕ → ℕ → Limits
limits separator next first sectors = record { separator = separator; next = next; area = record { first = first; sectors = sectors } }

pub record EntryRight (l : Limits) (e : Entry) : Type 0 where
  pub key : is_byte_key e.key ≡ true
  pub from : before e.key l.separator ≡ false
  pub below : Under key_of before l.next e.key
  pub placed : InPlace l.area.first l.area.sectors e

pub record LeafRight (l : Limits) (single : Bool) (page : List ℕ) (es : List Entry) : Type 0 where
  pub form : page ≡ leaf_page es
  pub filled : single ≡ false → 0 < length es
  pub rises : Sorted key_of before es
  pub entries : AllByRecursion (EntryRight l) es

abbrev pub under : Option (List ℕ) → List ℕ → Bool
under None k = true
under (Some next) k = before k next

abbrev pub entry_right : Limits → Entry → Bool
entry_right l e = is_byte_key e.key && not (before e.key l.separator) && under l.next e.key && in_place l.area.first l.area.sectors e

abbrev pub leaf_right : Limits → Bool → List ℕ → List Entry → Bool
leaf_right l single page es = pointwise nat_eq page (leaf_page es) && (single || not (length es == 0)) && rising key_of es && list_all (entry_right l) es

abbrev pub next_separator : List Item → Option (List ℕ)
next_separator [] = None
next_separator (i ∷ is) = Some i.separator

abbrev pub page_of_item : List Item → ℕ → ℕ
page_of_item items k = (slice_index_or items k no_item).page

module _ (first sectors : ℕ) (single : Bool) (images : List (List ℕ)) (items : List Item) (k : ℕ) where
  abbrev limits_at : Limits
  limits_at = limits (slice_index_or items k no_item).separator (next_separator (drop (suc k) items)) first sectors

  abbrev pub LeafAt : Type 0
  LeafAt = LeafRight limits_at single (page_at images (page_of_item items k)) (leaf_of images (page_of_item items k))
