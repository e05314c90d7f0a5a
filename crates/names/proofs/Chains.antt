-- A test of a list that tests each element against the next.
--     all-pass         it is passed where each element passes with the next
--     one-fails        and not where one of them does not
--     pass-answer      what `is_sorted_by` answers is this test
use Rattle.std.proofs.Common.{◌≡◌, ℕ, zero, suc, ◌<◌, Bool, true, false, ◌&&◌, List, [], ◌∷◌, length, get_or, sym, ◌∙◌, arith, add-one}
use Rattle.std.specs.List.{IsAllAdjacentAnswer}
use Rattle.std.proofs.lemmas.Bool.{and_from, and_left, and_right}

module _ {X : Type 0} (test : X → X → Bool) (chain : List X → Bool) (none : chain [] ≡ true) (one : (x : X) → chain (x ∷ []) ≡ true)
    (more : (x y : X) (ys : List X) → chain (x ∷ y ∷ ys) ≡ (test x y && chain (y ∷ ys))) where
  pub all-pass : (xs : List X) → ((k : ℕ) (d : X) → suc k < length xs → test (get_or xs k d) (get_or xs (suc k) d) ≡ true) → chain xs ≡ true
  all-pass [] h = none
  all-pass (x ∷ []) h = one x
  all-pass (x ∷ y ∷ ys) h = more x y ys ∙ and_from (test x y) (chain (y ∷ ys)) (h 0 x (omega arith)) (all-pass (y ∷ ys) (λ k d l. h (suc k) d (omega arith)))

  one-fails : (xs : List X) (k : ℕ) → suc k < length xs → ((d : X) → test (get_or xs k d) (get_or xs (suc k) d) ≡ false) → chain xs ≡ false
  one-fails [] k l h = absurd (omega arith)
  one-fails (x ∷ []) k l h = absurd (omega arith)
  one-fails (x ∷ y ∷ ys) zero l h = more x y ys ∙ and_left (test x y) (chain (y ∷ ys)) (h x)
  one-fails (x ∷ y ∷ ys) (suc k) l h = more x y ys ∙ and_right (test x y) (chain (y ∷ ys)) (one-fails (y ∷ ys) k (omega arith) h)

  pub pass-answer : (xs : List X) (r : Bool) → IsAllAdjacentAnswer (λ x y b. b ≡ test x y) xs r → r ≡ chain xs
  pass-answer xs true h = sym (all-pass xs (λ k d l. rw (← add-one) (sym (h k d (omega arith)))))
  pass-answer xs false h = sym (one-fails xs h.0 (omega (arith, h.1)) (λ d. rw (← add-one) (sym (h.2 d))))
