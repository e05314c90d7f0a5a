-- The test of each element against the next, as a sort's check answers it.
--     all-chained          each element passes with the one behind it
--     chained-answer       what `is_sorted_by` answers
--     chained-first        by a transitive test, the first element passes with all behind it
use Rattle.std.proofs.Common.{◌≡◌, ℕ, suc, ◌<◌, Bool, true, List, [], ◌∷◌, length, get_or, refl}
use Rattle.std.specs.List.{IsAllAdjacentAnswer, AllByRecursion}
use Rattle.std.proofs.ByRecursion.{All-weaker}
use Rattle.std.proofs.lemmas.Bool.{and_parts}
use Rattle.names.proofs.Chains.{all-pass, pass-answer}
use Rattle.register_check.specs.Chains.{chained}

module _ {X : Type 0} (test : X → X → Bool) where
  pub all-chained : (xs : List X) → ((k : ℕ) (d : X) → suc k < length xs → test (get_or xs k d) (get_or xs (suc k) d) ≡ true) → chained test xs ≡ true
  all-chained = all-pass test (chained test) refl (λ x. refl) (λ x y ys. refl)

  pub chained-answer : (xs : List X) (r : Bool) → IsAllAdjacentAnswer (λ x y b. b ≡ test x y) xs r → r ≡ chained test xs
  chained-answer = pass-answer test (chained test) refl (λ x. refl) (λ x y ys. refl)

  pub chained-first : ((x y z : X) → test x y ≡ true → test y z ≡ true → test x z ≡ true) → (x : X) (xs : List X) → chained test (x ∷ xs) ≡ true → AllByRecursion (λ y. test x y ≡ true) xs × (chained test xs ≡ true)
  chained-first trans x [] e = (tt, refl)
  chained-first trans x (y ∷ ys) e =
      let p = and_parts (test x y) (chained test (y ∷ ys)) e in
      ((p.0, All-weaker (λ z. test y z ≡ true) (λ z. test x z ≡ true) (λ z. trans x y z p.0) ys (chained-first trans y ys p.1).0), p.1)
