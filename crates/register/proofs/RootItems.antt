-- What holds of each item of a register's root.
--     page-range      its page is one of the register's, and not the root's
--     leaf-filled     of two leaves or more each has an entry
use Rattle.std.proofs.Common.{ℕ, ◌<◌, ◌≤◌, List, map, length, get_or, subst, arith}
use Rattle.std.specs.List.{AllByRecursion}
use Rattle.std.proofs.ByRecursion.{All-get_or}
use Rattle.std.proofs.lemmas.List.{get_or-map, length-map}
use Rattle.tree.specs.Tree.{Node}
use Rattle.pages.specs.declared.records.Entry.{Entry}
use Rattle.register.specs.Images.{no_item, items_of, leaf_of, node_of, tree_of}
use Rattle.register.specs.Registers.{IsRegister}

module _ (P : ℕ) (images : List (List ℕ)) (r : IsRegister P images) where
  all-at : (Q : Node (List ℕ) Entry → Type 0) → AllByRecursion Q (tree_of images) → (j : ℕ) → j < length (items_of images) → Q (node_of images (get_or (items_of images) j no_item))
  all-at Q a j l =
      subst Q (get_or-map (node_of images) (items_of images) j no_item (node_of images no_item) l)
      (All-get_or Q (tree_of images) j (node_of images no_item) (omega (arith, length-map (items_of images) (node_of images))) a)

  pub page-range : (j : ℕ) → j < length (items_of images) → (1 ≤ (get_or (items_of images) j no_item).page) × ((get_or (items_of images) j no_item).page < P)
  page-range = all-at (λ n. (1 ≤ n.page) × (n.page < P)) r.shape.range

  pub leaf-filled : (j : ℕ) → j < length (items_of images) → 1 < length (items_of images) → 0 < length (leaf_of images (get_or (items_of images) j no_item).page)
  leaf-filled j l more = all-at (λ n. 0 < length n.entries) (r.shape.filled (omega (arith, length-map (items_of images) (node_of images)))) j l
