-- Which images are a register of P pages.
--     Separators       the first separator is zeros, the others are keys whose last byte is below 256
--     IsRegister       2 to 21 pages; the root and each of its leaves are just what their records make; the rules of the tree hold; each key is good, and its last byte is below 256
use Rattle.std.specs.Prelude.{◌≡◌, ℕ, ◌≤◌, true, List, [], ◌∷◌, length}
use Rattle.std.specs.List.{AllByRecursion}
use Rattle.names.specs.Names.{is_byte_key}
use Rattle.names.specs.Orders.{before}
use Rattle.tree.specs.Tree.{Shape}
use Rattle.pages.specs.Records.{ItemFit, EntryFit}
use Rattle.pages.specs.declared.records.Item.{Item}
use Rattle.register.specs.Images.{zero_key, key_of, page_at, items_of, tree_of, entries_of, leaf_page, root_page}

abbrev pub Separators : List Item → Type 0
Separators [] = Unit {0}
Separators (i ∷ is) = (i.separator ≡ zero_key) × AllByRecursion (λ j. is_byte_key j.separator ≡ true) is

pub record IsRegister (P : ℕ) (images : List (List ℕ)) : Type 0 where
  pub least : 2 ≤ P
  pub most : P ≤ 21
  pub all : length images ≡ P
  pub shape : Shape key_of before zero_key P (tree_of images)
  pub root : page_at images 0 ≡ root_page (items_of images)
  pub leaves : AllByRecursion (λ n. page_at images n.page ≡ leaf_page n.entries) (tree_of images)
  pub separators : Separators (items_of images)
  pub keys : AllByRecursion (λ e. is_byte_key e.key ≡ true) (entries_of images)
  pub items_fit : AllByRecursion ItemFit (items_of images)
  pub entries_fit : AllByRecursion EntryFit (entries_of images)
