-- Extents in order are apart if each ends before the next begins.
--     meets                two extents are not clear by the test
--     apart-distinct       extents are apart by the test exactly if no two of them meet
--     apart-permuted       the order of extents does not matter to whether they are apart
--     apart-sorted         in a sorted list it is enough to compare neighbours
--     neighbours           both of these
use Rattle.std.proofs.Common.{◌≡◌, ℕ, suc, ◌<◌, Bool, true, false, not, List, [], ◌∷◌, length, get_or, refl, ap, subst, arith, add-one}
use Rattle.std.specs.Bool.{Decides}
use Rattle.std.specs.List.{list_all, AllByRecursion, IsDistinct}
use Rattle.std.specs.List.Sorted.{IsPermutation, IsSorted}
use Rattle.std.specs.declared.cmp.Ordering.{Ordering}
use Rattle.std.specs.Ordering.{is_lt, nat_cmp, ordering_then}
use Rattle.std.proofs.ByRecursion.{All-weaker, Decides-by_and}
use Rattle.std.proofs.lemmas.Bool.{and_from, or_left, not-false, cases_Bool}
use Rattle.std.proofs.lemmas.Bool.Decides.{nat_tests, same_from_decides, Decides-and, Decides-like}
use Rattle.std.proofs.lemmas.List.Sorted.{IsPermutation-sym}
use Rattle.std.proofs.lemmas.Map.Keys.{IsDistinct-IsPermutation, apart_from_distinct}
use Rattle.register_check.specs.Chains.{chained}
use Rattle.register_check.specs.Extents.{ends_by, clear, apart}
use Rattle.register_check.specs.declared.extents.Extent.{Extent}
use Rattle.register_check.proofs.Chained.{all-chained, chained-first}

abbrev pub meets : Extent → Extent → Bool
meets x y = not (clear x y)

meets-both : (x y : Extent) → meets x y ≡ meets y x
meets-both x y = grind (arith, cases_Bool (ends_by x y.start), cases_Bool (ends_by y x.start))

clear-decided : (x : Extent) (xs : List Extent) → Decides (list_all (clear x) xs) (AllByRecursion (λ y. meets x y ≡ false) xs)
clear-decided x xs = Decides-by_and (clear x) (λ y. meets x y ≡ false) (list_all (clear x)) (λ y. (ap not, not-false (clear x y))) refl (λ _ _. refl) xs

pub apart-distinct : (xs : List Extent) → Decides (apart xs) (IsDistinct meets xs)
unfolding IsDistinct
apart-distinct [] = ((λ e. tt), (λ d. refl))
apart-distinct (x ∷ xs) = Decides-and (list_all (clear x) xs) (apart xs) (clear-decided x xs) (apart-distinct xs)

pub apart-permuted : (xs ys : List Extent) → IsPermutation xs ys → apart ys ≡ apart xs
apart-permuted xs ys m =
    same_from_decides (apart ys) (apart xs) (apart-distinct ys)
    (Decides-like (apart xs) (IsDistinct-IsPermutation meets meets-both xs ys m) (IsDistinct-IsPermutation meets meets-both ys xs (IsPermutation-sym xs ys m)) (apart-distinct xs))

abbrev in_turn : Extent → Extent → Bool
in_turn x y = ends_by x y.start

later : (x y z : Extent) → in_turn x y ≡ true → in_turn y z ≡ true → in_turn x z ≡ true
later x y z e h = grind (arith, nat_tests)

chained-apart : (xs : List Extent) → chained in_turn xs ≡ true → apart xs ≡ true
chained-apart [] e = refl
chained-apart (x ∷ xs) e =
    let p = chained-first in_turn later x xs e in
    let c = All-weaker (λ y. in_turn x y ≡ true) (λ y. meets x y ≡ false) (λ y h. ap not (or_left (in_turn x y) (in_turn y x) h)) xs p.0 in
    and_from (list_all (clear x) xs) (apart xs) ((clear-decided x xs).1 c) (chained-apart xs p.1)

abbrev cmp : Extent → Extent → Ordering
cmp x y = ordering_then (nat_cmp x.start y.start) (nat_cmp x.sectors y.sectors)

-- of two extents in order that are clear, the first ends before the second begins
in-order : (x y : Extent) → is_lt (cmp y x) ≡ false → meets x y ≡ false → in_turn x y ≡ true
in-order x y s c = grind (arith, nat_tests)

pub apart-sorted : (xs : List Extent) → IsSorted cmp xs → chained in_turn xs ≡ apart xs
apart-sorted xs s =
    let at = λ (k : ℕ) (d : Extent) (l : suc k < length xs). subst (λ n. is_lt (cmp (get_or xs n d) (get_or xs k d)) ≡ false) (add-one k) (s k d (omega arith) (omega arith)) in
    let turns = λ (e : apart xs ≡ true). all-chained in_turn xs (λ k d l. in-order (get_or xs k d) (get_or xs (suc k) d) (at k d l) (apart_from_distinct meets xs k (suc k) d ((apart-distinct xs).0 e) (omega arith) l)) in
    same_from_decides (chained in_turn xs) (apart xs) (chained-apart xs, turns) ((λ e. e), (λ e. e))

pub ruleset neighbours = (apart-permuted, apart-sorted)
