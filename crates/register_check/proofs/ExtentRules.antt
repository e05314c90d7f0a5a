-- What the tests of extents say.
--     in_place-decided     the test of one entry's extent decides whether it is in place
--     apart-decided        the test of the extents of entries decides whether they are apart
use Rattle.std.proofs.Common.{◌≡◌, ℕ, ◌+◌, ◌<◌, max, true, not, List, map, length, get_or, sym, ap, subst, arith}
use Rattle.std.specs.Bool.{Decides}
use Rattle.std.specs.List.{IsDistinct}
use Rattle.std.proofs.lemmas.Bool.{or_parts, leb-false, true_from_ne_false, not-false}
use Rattle.std.proofs.lemmas.Bool.Decides.{Decides-and, Decides-like, nat_tests}
use Rattle.std.proofs.lemmas.List.{get_or-map, length-map}
use Rattle.std.proofs.lemmas.Map.Keys.{apart_from_distinct, IsDistinct-from_apart}
use Rattle.geometry.specs.Sizes.{longest, extent_of}
use Rattle.pages.specs.declared.records.Entry.{Entry}
use Rattle.register.specs.Images.{no_entry}
use Rattle.register_check.specs.Extents.{extent, Holds, Apart, InPlace, ends_by, clear, apart, in_place}
use Rattle.register_check.specs.declared.extents.Extent.{Extent}
use Rattle.register_check.proofs.Neighbours.{meets, apart-distinct}
use Rattle.register_check.proofs.RootRules.{at_most-decided}

pub in_place-decided : (first sectors : ℕ) (e : Entry) → Decides (in_place first sectors e) (InPlace first sectors e)
in_place-decided first sectors e =
    Decides-like (in_place first sectors e) (λ t. record { length = t.0.0; begins = t.0.1; ends = t.1 }) (λ p. ((p.length, p.begins), p.ends))
    (Decides-and _ _ (Decides-and _ _ (at_most-decided e.length longest) (at_most-decided first e.start)) (at_most-decided (e.start + extent_of e.length) sectors))

-- extents that are clear have no sector in common
no-common : (x y : Extent) → clear x y ≡ true → (s : ℕ) → Holds x s → Holds y s → ⊥
no-common x y c s hx hy = grind (arith, nat_tests)

-- and of two that are not, the later begin is in both
common : (x y : Extent) → 0 < x.sectors → 0 < y.sectors → ((s : ℕ) → Holds x s → Holds y s → ⊥) → clear x y ≡ true
common x y px py h =
    true_from_ne_false (clear x y)
    (λ f. (let p = or_parts (ends_by x y.start) (ends_by y x.start) f in
    let a = leb-false (x.start + x.sectors) y.start p.0 in
    let b = leb-false (y.start + y.sectors) x.start p.1 in
    h (max x.start y.start) (omega arith, omega arith) (omega arith, omega arith)))

some-sectors : (es : List Entry) (k : ℕ) (d : Extent) → k < length (map extent es) → 0 < (get_or (map extent es) k d).sectors
some-sectors es k d l =
    let m : k < length es = omega (arith, length-map es extent) in
    subst (λ x. 0 < x.sectors) (sym (get_or-map extent es k no_entry d m)) (omega arith)

pub apart-decided : (es : List Entry) → Decides (apart (map extent es)) (Apart (map extent es))
apart-decided es =
    let xs = map extent es in
    let apart-from : IsDistinct meets xs → Apart xs = λ t i j d l lj. no-common (get_or xs i d) (get_or xs j d) (not-false _ (apart_from_distinct meets xs i j d t l lj)) in
    let distinct-from : Apart xs → IsDistinct meets xs = λ a. IsDistinct-from_apart meets xs (λ i j d l lj. ap not (common (get_or xs i d) (get_or xs j d) (some-sectors es i d (omega arith)) (some-sectors es j d lj) (a i j d l lj))) in
    Decides-like (apart xs) apart-from distinct-from (apart-distinct xs)
