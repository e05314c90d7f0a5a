-- No sector of a volume has two uses.
--     place            the use of a sector, by tests from the lowest region up
--     used-place       a sector with a use is placed there
--     unused-place     a sector without one is placed nowhere
--     apart            the law of the regions
use Rattle.std.proofs.Common.{◌≡◌, ℕ, zero, suc, ◌+◌, ◌-◌, ◌*◌, ◌<◌, cond, eqb, ltb, Some, None, Option, refl, arith}
use Rattle.std.proofs.lemmas.Bool.Decides.{nat_tests}
use Rattle.geometry.specs.Places.{Good, first_homes, second_homes, data_start}
use Rattle.geometry.specs.Regions.{Use, header, anchor, log, first-copy, second-copy, file-data, Used, Unused, between, third-end, first-end, second-end, Apart}

-- below 8, where a volume has its headers and anchors
abbrev low : ℕ → Option Use
low s = cond (eqb s 0) (Some (header 0)) (cond (eqb s 2) (Some (header 1)) (cond (eqb s 4) (Some (anchor 0)) (cond (eqb s 6) (Some (anchor 1)) None)))

abbrev in-log : ℕ → ℕ → Option Use
in-log t s =
    cond (ltb s (8 + t)) (cond (ltb s (7 + t)) (Some (log 0)) None)
    (cond (ltb s (8 + 2 * t)) (cond (ltb s (7 + 2 * t)) (Some (log 1)) None) (cond (ltb s (7 + 3 * t)) (Some (log 2)) None))

abbrev place : ℕ → ℕ → ℕ → Option Use
place p t s =
    cond (ltb s 8) (low s)
    (cond (ltb s (first_homes t)) (in-log t s)
    (cond (ltb s (second_homes p t)) (cond (ltb s (first_homes t + p)) (Some (first-copy (s - first_homes t))) None)
    (cond (ltb s (data_start p t)) (cond (ltb s (second_homes p t + p)) (Some (second-copy (s - second_homes p t))) None) (Some file-data))))

module _ (p t n : ℕ) (good : Good p t n) where
  used-place : (s : ℕ) (u : Use) → Used p t n u s → place p t s ≡ Some u
  used-place s (header zero) h = grind (arith, nat_tests)
  used-place s (header (suc zero)) h = grind (arith, nat_tests)
  used-place s (header (suc (suc c))) h = absurd (omega arith)
  used-place s (anchor zero) h = grind (arith, nat_tests)
  used-place s (anchor (suc zero)) h = grind (arith, nat_tests)
  used-place s (anchor (suc (suc c))) h = absurd (omega arith)
  used-place s (log zero) h = grind (arith, nat_tests)
  used-place s (log (suc zero)) h = grind (arith, nat_tests)
  used-place s (log (suc (suc zero))) h = grind (arith, nat_tests)
  used-place s (log (suc (suc (suc k)))) h = absurd (omega arith)
  used-place s (first-copy i) h = grind (arith, nat_tests)
  used-place s (second-copy i) h = grind (arith, nat_tests)
  used-place s file-data h = grind (arith, nat_tests)

  unused-place : (s : ℕ) → Unused p t s → place p t s ≡ None
  unused-place s (between zero h e) = grind (arith, nat_tests)
  unused-place s (between (suc zero) h e) = grind (arith, nat_tests)
  unused-place s (between (suc (suc zero)) h e) = grind (arith, nat_tests)
  unused-place s (between (suc (suc (suc zero))) h e) = grind (arith, nat_tests)
  unused-place s (between (suc (suc (suc (suc c)))) h e) = absurd (omega arith)
  unused-place s (third-end zero h e) = grind (arith, nat_tests)
  unused-place s (third-end (suc zero) h e) = grind (arith, nat_tests)
  unused-place s (third-end (suc (suc zero)) h e) = grind (arith, nat_tests)
  unused-place s (third-end (suc (suc (suc k))) h e) = absurd (omega arith)
  unused-place s (first-end e) = grind (arith, nat_tests)
  unused-place s (second-end e) = grind (arith, nat_tests)

  on-disk : (s : ℕ) (u : Use) → Used p t n u s → s < n
  on-disk s (header c) h = omega arith
  on-disk s (anchor c) h = omega arith
  on-disk s (log zero) h = omega arith
  on-disk s (log (suc zero)) h = omega arith
  on-disk s (log (suc (suc zero))) h = omega arith
  on-disk s (log (suc (suc (suc k)))) h = absurd (omega arith)
  on-disk s (first-copy i) h = omega arith
  on-disk s (second-copy i) h = omega arith
  on-disk s file-data h = omega arith

  pub apart : Apart p t n
  apart = record {
    one-use = λ s u v a b. let x = used-place s u a in let y = used-place s v b in cc;
    no-use = λ s u a b. let x = used-place s u b in let y = unused-place s a in let z : ◌≡◌ {A = ℕ} 0 1 = cc in omega arith;
    on-disk = on-disk;
    twins = λ i. omega arith;
    ordered = record {
      thirds-first = omega arith;
      thirds-second = omega arith;
      thirds-third = omega arith;
      copies-first = omega arith;
      copies-second = refl;
      data-start = refl;
      data-room = good.4;
    };
    small = omega arith;
  }
