-- Which page of a register breaks a rule.
--     extents_of   the extents of all entries
--     Kept         the images are a register of P pages whose files lie in place, no two of them in the same sector
--     IsRootRight, IsLeafRight     the root is right, and the leaf of the item at a place
--     Breaks       what page p breaks: the root is not right; or it is, and p's leaf is the first in the root's order that is not; or all are, and extents meet
--     first_leaf   the page of the first leaf that is not right
--     fault_of_leaves      the page of the first leaf that is not right, or else the root's if the extents of the items' leaves meet
--     fault        the first page that breaks a rule, or none
--     answer_of    the answer that tells such a page: 13 with the page, or that every rule is kept
--     Verdict      what an answer means
use Rattle.std.specs.Prelude.{◌≡◌, ℕ, ◌<◌, Bool, cond, ◌↔◌, List, [], ◌∷◌, map, length, Some, None, Option, Ok, Err, Result, ◌==◌}
use Rattle.std.specs.List.{AllByRecursion}
use Rattle.rows.specs.Lists.{or_else}
use Rattle.refusal.specs.declared.Refusal.{Refusal}
use Rattle.refusal.specs.declared.Refusal.TheVariants.{RegisterBroken}
use Rattle.pages.specs.declared.records.Item.{Item}
use Rattle.tree.specs.Tree.{entries}
use Rattle.register.specs.Images.{page_at, items_of, leaf_of, node_of, entries_of}
use Rattle.register.specs.Registers.{IsRegister}
use Rattle.register_check.specs.Roots.{RootRight, root_right}
use Rattle.register_check.specs.Extents.{extent, Apart, InPlace, apart}
use Rattle.register_check.specs.Leaves.{limits, leaf_right, next_separator, page_of_item, LeafAt}
use Rattle.register_check.specs.declared.extents.Extent.{Extent}

abbrev pub extents_of : List (List ℕ) → List Extent
extents_of images = map extent (entries_of images)

abbrev pub Kept : ℕ → ℕ → ℕ → List (List ℕ) → Type 0
Kept first sectors P images = IsRegister P images × AllByRecursion (InPlace first sectors) (entries_of images) × Apart (extents_of images)

abbrev pub IsRootRight : ℕ → List (List ℕ) → Type 0
IsRootRight P images = RootRight P (page_at images 0) (items_of images)

abbrev pub IsLeafRight : ℕ → ℕ → List (List ℕ) → ℕ → Type 0
IsLeafRight first sectors images k = LeafAt first sectors (length (items_of images) == 1) images (items_of images) k

pub data Breaks (first sectors P : ℕ) (images : List (List ℕ)) (p : ℕ) : Type 0 where
  root-wrong : p ≡ 0 → (IsRootRight P images → ⊥) → Breaks first sectors P images p
  leaf-wrong : IsRootRight P images → (k : ℕ) → k < length (items_of images) → p ≡ page_of_item (items_of images) k
      → ((j : ℕ) → j < k → IsLeafRight first sectors images j) → (IsLeafRight first sectors images k → ⊥) → Breaks first sectors P images p
  extents-meet : p ≡ 0 → IsRootRight P images → ((j : ℕ) → j < length (items_of images) → IsLeafRight first sectors images j) → (Apart (extents_of images) → ⊥) → Breaks first sectors P images p

module _ (first sectors : ℕ) (single : Bool) (images : List (List ℕ)) where
  abbrev pub first_leaf : List Item → Option ℕ
  first_leaf [] = None
  first_leaf (i ∷ is) = cond (leaf_right (limits i.separator (next_separator is) first sectors) single (page_at images i.page) (leaf_of images i.page)) (first_leaf is) (Some i.page)

abbrev pub fault_of_leaves : ℕ → ℕ → List (List ℕ) → List Item → Option ℕ
fault_of_leaves first sectors images items =
    or_else (first_leaf first sectors (length items == 1) images items) (cond (apart (map extent (entries (map (node_of images) items)))) None (Some 0))

unfoldable pub fault : ℕ → ℕ → ℕ → List (List ℕ) → Option ℕ
fault first sectors P images =
    cond (root_right P (page_at images 0) (items_of images)) (fault_of_leaves first sectors images (items_of images)) (Some 0)

abbrev pub answer_of : Option ℕ → Result Unit Refusal
answer_of None = Ok tt
answer_of (Some page) = Err (RegisterBroken page)

pub record Verdict (first sectors P : ℕ) (images : List (List ℕ)) (answer : Option ℕ) : Type 0 where
  pub none : (answer ≡ None) ↔ Kept first sectors P images
  pub some : (p : ℕ) → answer ≡ Some p → Breaks first sectors P images p
