-- Keys rise if each is before the next.
--     rising-decided       the test of neighbours decides it
use Rattle.std.proofs.Common.{◌≡◌, ℕ, true, List, [], ◌∷◌, refl}
use Rattle.std.specs.Bool.{Decides}
use Rattle.std.proofs.lemmas.Bool.{and_from}
use Rattle.names.specs.Orders.{before}
use Rattle.names.proofs.ByteOrder.{keys-ordered}
use Rattle.rows.specs.Lists.{Sorted}
use Rattle.register_check.specs.Chains.{rising}
use Rattle.register_check.proofs.Chained.{chained-first}

module _ {R : Type 0} (key : R → List ℕ) where
  sorted-from-rising : (xs : List R) → rising key xs ≡ true → Sorted key before xs
  sorted-from-rising [] e = tt
  sorted-from-rising (x ∷ xs) e =
      let p = chained-first (λ x y. before (key x) (key y)) (λ x y z. keys-ordered.transitive (key x) (key y) (key z)) x xs e in
      (p.0, sorted-from-rising xs p.1)

  rising-from-sorted : (xs : List R) → Sorted key before xs → rising key xs ≡ true
  rising-from-sorted [] s = refl
  rising-from-sorted (x ∷ []) s = refl
  rising-from-sorted (x ∷ y ∷ ys) s = and_from (before (key x) (key y)) (rising key (y ∷ ys)) s.0.0 (rising-from-sorted (y ∷ ys) s.1)

  pub rising-decided : (xs : List R) → Decides (rising key xs) (Sorted key before xs)
  rising-decided xs = (sorted-from-rising xs, rising-from-sorted xs)
