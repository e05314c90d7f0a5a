-- The entries of a tree next to a key, by the place of the key's leaf.
--     next-by      the lowest entry above a key: in its leaf, or else the first of the leaf after it
--     ending       the last entry of a node, or another if there is no node
--     highest-by   the highest entry not above it: in its leaf, or else the last of the leaf before it
use Rattle.std.proofs.Common.{◌≡◌, suc, Bool, true, false, cond, List, [], ◌∷◌, take, Some, None, Option, sym, refl, ap, ◌∙◌}
use Rattle.std.specs.List.{slice_get}
use Rattle.std.specs.Option.{option_and_then}
use Rattle.rows.specs.Lists.{up_to, first_above, last_up_to, or_else, first, last}
use Rattle.tree.specs.Tree.{Node, seps, leaf_at, next_above, highest}
use Rattle.tree.proofs.Stand.{or-none}

module _ {K E : Type 0} (key : E → K) (lt : K → K → Bool) where
  pub next-by : (k : K) (n : Node K E) (ns : List (Node K E))
      → next_above key lt k n ns ≡ or_else (first_above key lt k (leaf_at key lt k n ns).entries) (option_and_then (λ m. first m.entries) (slice_get (n ∷ ns) (suc (up_to lt k (seps ns)))))
  next-by k n [] = sym (or-none (first_above key lt k n.entries))
  next-by k n (m ∷ ms) =
      elim (lt k m.sep) as (λ b. cond b (or_else (first_above key lt k n.entries) (first m.entries)) (next_above key lt k m ms)
      ≡ or_else (first_above key lt k (cond b n (leaf_at key lt k m ms)).entries) (option_and_then (λ m. first m.entries) (slice_get (n ∷ m ∷ ms) (suc (cond b 0 (suc (up_to lt k (seps ms))))))))
      [ true ↦ refl | false ↦ next-by k m ms ]

  abbrev pub ending : Option E → Option (Node K E) → Option E
  ending u None = u
  ending u (Some n) = last n.entries

  ending-more : (u : Option E) (n : Node K E) (o : Option (Node K E)) → ending (last n.entries) o ≡ ending u (or_else o (Some n))
  ending-more u n None = refl
  ending-more u n (Some m) = refl

  pub highest-by : (k : K) (u : Option E) (n : Node K E) (ns : List (Node K E))
      → highest key lt k u n ns ≡ or_else (last_up_to key lt k (leaf_at key lt k n ns).entries) (ending u (last (take (up_to lt k (seps ns)) (n ∷ ns))))
  highest-by k u n [] = refl
  highest-by k u n (m ∷ ms) =
      elim (lt k m.sep) as (λ b. cond b (or_else (last_up_to key lt k n.entries) u) (highest key lt k (last n.entries) m ms)
      ≡ or_else (last_up_to key lt k (cond b n (leaf_at key lt k m ms)).entries) (ending u (last (take (cond b 0 (suc (up_to lt k (seps ms)))) (n ∷ m ∷ ms))))) [
        | true ↦ refl
        | false ↦ highest-by k (last n.entries) m ms ∙ ap (or_else (last_up_to key lt k (leaf_at key lt k m ms).entries)) (ending-more u n (last (take (up_to lt k (seps ms)) (m ∷ ms))))
      ]
