-- When a register takes no more entries for a key.
--     full-home      by the leaf of the key and the number of leaves
use Rattle.std.proofs.Common.{◌≡◌, ℕ, not, ◌&&◌, ltb, List, ◌∷◌, ◌++◌, length, ap, ◌∙◌}
use Rattle.std.proofs.lemmas.List.{length-map}
use Rattle.register.specs.Images.{items_of, leaf_of, most_items, is_full}
use Rattle.register.proofs.Trees.{item_for}
use Rattle.register.proofs.Homes.{Home}

module _ (P : ℕ) (images : List (List ℕ)) (k : List ℕ) (h : Home P images k) where
  pub full-home : is_full P images k ≡ (not (ltb (length h.leaf.entries) 15) && not (ltb (length (h.left ++ h.leaf ∷ h.right)) (most_items P)))
  full-home =
      let by = λ (m n : ℕ). not (ltb m 15) && not (ltb n (most_items P)) in
      ap (λ p. by (length (leaf_of images p)) (length (items_of images))) h.page
      ∙ ap (λ es. by (length es) (length (items_of images))) h.held
      ∙ ap (λ is. by (length h.leaf.entries) (length is)) h.items
      ∙ ap (by (length h.leaf.entries)) (length-map (h.left ++ h.leaf ∷ h.right) item_for)
