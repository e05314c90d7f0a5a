-- When the root of a register of P pages is right.
--     RootRight        the page is just what its items make; 1 to P - 1 items; the first separator is zeros, the others are keys whose last byte is below 256; separators rise; the items' pages differ and are those of leaves
--     separator_of     an item's separator
--     differ           no number stands twice
--     zeros_first      there are items, and the first separator is zeros
--     keys_behind      the separators behind the first are keys whose last byte is below 256
--     leaf_page_of     an item's page is that of a leaf
--     pages_right      the items' pages differ and are those of leaves
--     root_right       the test
use Rattle.std.specs.Prelude.{◌≡◌, ℕ, ◌-◌, ◌<◌, ◌≤◌, Bool, true, false, not, ◌&&◌, List, [], ◌∷◌, length, drop, nat_eq, nat_le, nat_lt}
use Rattle.std.specs.Cmp.Lexicographic.{pointwise}
use Rattle.std.specs.List.{list_all, AllByRecursion}
use Rattle.names.specs.Names.{is_byte_key}
use Rattle.names.specs.Orders.{before}
use Rattle.rows.specs.Lists.{Sorted}
use Rattle.tree.specs.Tree.{has, Apart}
use Rattle.pages.specs.declared.records.Item.{Item}
use Rattle.register.specs.Images.{zero_key, root_page, pages_of}
use Rattle.register.specs.Registers.{Separators}
use Rattle.register_check.specs.Chains.{rising}

abbrev pub separator_of : Item → List ℕ
separator_of i = i.separator

pub record RootRight (P : ℕ) (page : List ℕ) (items : List Item) : Type 0 where
  pub form : page ≡ root_page items
  pub some : 1 ≤ length items
  pub few : length items ≤ P - 1
  pub separators : Separators items
  pub rises : Sorted separator_of before items
  pub apart : Apart (pages_of items)
  pub range : AllByRecursion (λ i. (1 ≤ i.page) × (i.page < P)) items

abbrev pub differ : List ℕ → Bool
differ [] = true
differ (p ∷ ps) = not (has p ps) && differ ps

abbrev pub zeros_first : List Item → Bool
zeros_first [] = false
zeros_first (i ∷ is) = pointwise nat_eq i.separator zero_key

abbrev pub keys_behind : List Item → Bool
keys_behind items = list_all (λ i. is_byte_key i.separator) (drop 1 items)

abbrev pub leaf_page_of : ℕ → Item → Bool
leaf_page_of P i = nat_le 1 i.page && nat_lt i.page P

abbrev pub pages_right : ℕ → List Item → Bool
pages_right P items = differ (pages_of items) && list_all (leaf_page_of P) items

abbrev pub root_right : ℕ → List ℕ → List Item → Bool
root_right P page items =
    pointwise nat_eq page (root_page items) && zeros_first items && keys_behind items && nat_le (length items) (P - 1) && rising separator_of items && pages_right P items
