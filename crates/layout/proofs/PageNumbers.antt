-- The page numbers of a head: the listed ones, and the others after them.
--     rises-answer    the test of neighbours tells whether the numbers rise
--     pages-many      more numbers are wanted than stand there
--     pages-split     the listed numbers rise and are below the limit, and the others are zeros
use Rattle.std.proofs.Common.{◌≡◌, ℕ, zero, suc, ◌+◌, ◌<◌, Bool, true, false, ◌&&◌, ltb, leb, List, [], ◌∷◌, ◌++◌, length, sym, refl, ap₂, ◌∙◌, arith}
use Rattle.std.specs.List.{IsSplitAt, IsAllAdjacentAnswer, list_all}
use Rattle.std.proofs.lemmas.List.{take-append-drop}
use Rattle.std.proofs.lemmas.Bool.Decides.{nat_tests}
use Rattle.names.specs.Names.{zeros}
use Rattle.names.proofs.Chains.{pass-answer}
use Rattle.layout.specs.Heads.{rises, good_pages}
use Rattle.std.proofs.lemmas.Bool.{and_right}

rises-one : (x : ℕ) → rises 0 (x ∷ []) ≡ true
rises-one x = grind (arith, nat_tests)

rises-more : (x y : ℕ) (ys : List ℕ) → rises 0 (x ∷ y ∷ ys) ≡ (ltb x y && rises 0 (y ∷ ys))
rises-more x y ys = grind (arith, nat_tests)

pub rises-answer : (xs : List ℕ) (r : Bool) → IsAllAdjacentAnswer (λ x y b. b ≡ ltb x y) xs r → r ≡ rises 0 xs
rises-answer = pass-answer ltb (rises 0) refl rises-one rises-more

pub pages-many : (ps : List ℕ) (left low limit : ℕ) → length ps < left → good_pages left low limit ps ≡ false
unfolding good_pages
pages-many [] zero low limit h = absurd (omega arith)
pages-many [] (suc n) low limit h = refl
pages-many (p ∷ ps) zero low limit h = absurd (omega arith)
pages-many (p ∷ ps) (suc n) low limit h = and_right (leb low p) _ (and_right (ltb p limit) _ (pages-many ps n (p + 1) limit (omega arith)))

listed-first : (low limit : ℕ) (xs others : List ℕ) → good_pages (length xs) low limit (xs ++ others) ≡ (rises low xs && (list_all (λ p. ltb p limit) xs && zeros others))
unfolding good_pages
listed-first low limit [] others = refl
listed-first low limit (x ∷ xs) others = let h = listed-first (x + 1) limit xs others in grind (arith, nat_tests)

pub pages-split : (ps : List ℕ) (count limit : ℕ) (listed others : List ℕ) → IsSplitAt ps count listed others
    → good_pages count 0 limit ps ≡ (rises 0 listed && (list_all (λ p. ltb p limit) listed && zeros others))
pages-split ps count limit listed others split =
    ap₂ (λ n l. good_pages n 0 limit l) (sym split.3) (sym (take-append-drop count ps) ∙ ap₂ (λ a b. a ++ b) (sym split.1) (sym split.2)) ∙ listed-first 0 limit listed others
