-- The page numbers that a head lists.
--     listed-good     as many as it counts, and they rise below the number of pages
--     few-listed      at most 21
use Rattle.std.proofs.Common.{◌≡◌, ℕ, zero, suc, ◌+◌, ◌≤◌, true, leb, ltb, List, [], ◌∷◌, length, take, refl, ap, arith}
use Rattle.std.proofs.lemmas.Bool.{and_parts}
use Rattle.std.proofs.lemmas.Bool.Decides.{nat_tests}
use Rattle.layout.specs.Heads.{good_pages, HeadFits}
use Rattle.layout.specs.declared.head.RecordHead.{RecordHead}
use Rattle.searching.specs.Looks.{listed}
use Rattle.thirds.specs.Words.{Rise}

good-listed : (n low P : ℕ) (ps : List ℕ) → good_pages n low P ps ≡ true → (length (take n ps) ≡ n) × Rise low P (take n ps)
unfolding good_pages
good-listed zero low P ps e = (refl, tt)
good-listed (suc n) low P [] e = let z : ◌≡◌ {A = ℕ} 0 1 = cc in absurd (omega arith)
good-listed (suc n) low P (p ∷ ps) e =
    let a = and_parts (leb low p) _ e in
    let b = and_parts (ltb p P) _ a.1 in
    let rest = good-listed n (p + 1) P ps b.1 in
    (ap suc rest.0, (grind (arith, nat_tests, a.0), grind (arith, nat_tests, b.0), rest.1))

few-good : (n low P : ℕ) (ps : List ℕ) → good_pages n low P ps ≡ true → n ≤ length ps
unfolding good_pages
few-good zero low P ps e = omega arith
few-good (suc n) low P [] e = let z : ◌≡◌ {A = ℕ} 0 1 = cc in absurd (omega arith)
few-good (suc n) low P (p ∷ ps) e =
    let a = and_parts (leb low p) _ e in
    let b = and_parts (ltb p P) _ a.1 in
    omega (arith, few-good n (p + 1) P ps b.1)

pub listed-good : (P : ℕ) (h : RecordHead) → HeadFits P h → (length (listed h) ≡ h.count) × Rise 0 P (listed h)
listed-good P h fits = good-listed h.count 0 P h.pages fits.3

pub few-listed : (P : ℕ) (h : RecordHead) → HeadFits P h → h.count ≤ 21
few-listed P h fits = omega (arith, few-good h.count 0 P h.pages fits.3, fits.2)
