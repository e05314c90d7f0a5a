-- The order of byte lists that begin alike.
--     same-front       after the same bytes the rests decide
--     lower-front      a lower beginning of the same length decides
--     between          what lies between two lists with one beginning has it too
use Rattle.std.proofs.Common.{◌≡◌, ℕ, ◌≤◌, true, false, List, [], ◌∷◌, ◌++◌, length, take, drop, sym, refl, subst, arith}
use Rattle.std.proofs.lemmas.List.{take-append-drop, length-take}
use Rattle.std.proofs.lemmas.Bool.{false_from_ne_true, both_ways}
use Rattle.std.proofs.lemmas.Bool.Decides.{nat_tests}
use Rattle.names.specs.Orders.{before}
use Rattle.names.proofs.ByteOrder.{keys-ordered}

pub same-front : (front x y : List ℕ) → before (front ++ x) (front ++ y) ≡ before x y
unfolding before
same-front [] x y = refl
same-front (b ∷ front) x y = let h = same-front front x y in grind (arith, nat_tests)

pub lower-front : (front other x y : List ℕ) → length front ≡ length other → before front other ≡ true → before (front ++ x) (other ++ y) ≡ true
unfolding before
lower-front [] [] x y l p = grind (arith, nat_tests)
lower-front [] (c ∷ other) x y l p = absurd (omega arith)
lower-front (b ∷ front) [] x y l p = absurd (omega arith)
lower-front (b ∷ front) (c ∷ other) x y l p = let h = lower-front front other x y in grind (arith, nat_tests)

pub between : (front x y k : List ℕ) → length front ≤ length k → before k (front ++ x) ≡ false → before (front ++ y) k ≡ false → take (length front) k ≡ front
between front x y k l from to =
    let n = length front in
    let long : length (take n k) ≡ n = simp length-take (omega arith) in
    let whole = take-append-drop n k in
    keys-ordered.decided (take n k) front
    (false_from_ne_true _ (λ p. both_ways _ from (subst (λ z. before z (front ++ x) ≡ true) whole (lower-front (take n k) front (drop n k) x long p))))
    (false_from_ne_true _ (λ p. both_ways _ to (subst (λ z. before (front ++ y) z ≡ true) whole (lower-front front (take n k) y (drop n k) (sym long) p))))
