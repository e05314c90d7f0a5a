-- What stands on two copies is one sheet, and whoever reads gets it.
--     at-same              a sector depends on the sectors alone
--     same-sectors         what stands depends on the sectors alone
--     one-standing         two sheets that stand are one
--     fetched, unfetched   what a read and a refused read tell of what stands
use Rattle.std.proofs.Common.{◌≡◌, ℕ, ◌≤◌, ◌⊎◌, List, length, get_or, refl, ap, ◌∙◌, inl, inr, ⊎_elim, arith}
use Rattle.refusal.specs.Refusals.{number_of}
use Rattle.disk.specs.Sectors.{Sector, unreadable, holds, DiskState, count, At}
use Rattle.disk.specs.Faults.{refusal_of}
use Rattle.disk.specs.Rules.{ReadOff, read-was-off, read-failed}
use Rattle.disk.specs.declared.faults.Fault.{Fault}
use Rattle.disk.specs.declared.faults.Fault.TheVariants.{PowerOff, Unreadable, NoSuchSector}
use Rattle.sheet.specs.Twins.{Standing, on-first, on-second, Stands, old-stands, new-stands, off-at-first, off-at-second, FetchRefused}

pub at-same : (d e : DiskState) (s : ℕ) (x : Sector) → e.sectors ≡ d.sectors → At d s x → At e s x
at-same d e s x same at = record { exists = omega (arith, at.exists, ap length same); is = ap (λ l. get_or l s unreadable) same ∙ at.is }

-- A read that answers 9 changes no sector.
read-off : (s : ℕ) (d e : DiskState) → ReadOff s d e → e.sectors ≡ d.sectors
read-off s d e (read-was-off was same) = ap (λ (x : DiskState). x.sectors) same
read-off s d e (read-failed on bytes at off same) = same

module _ (first second : ℕ) where
  standing-same : (d e : DiskState) (s : ℕ) (sheet : List ℕ) → e.sectors ≡ d.sectors → Standing first second d s sheet → Standing first second e s sheet
  standing-same d e s sheet same (on-first is at) = on-first is (at-same d e first (holds sheet) same at)
  standing-same d e s sheet same (on-second is lost at) = on-second is (at-same d e first unreadable same lost) (at-same d e second (holds sheet) same at)

  pub same-sectors : (old new : List ℕ) (d e : DiskState) → e.sectors ≡ d.sectors → Stands first second old new d → Stands first second old new e
  same-sectors old new d e same (old-stands s h) = old-stands s (standing-same d e s old same h)
  same-sectors old new d e same (new-stands s h) = new-stands s (standing-same d e s new same h)

  pub one-standing : (d : DiskState) (s t : ℕ) (x y : List ℕ) → Standing first second d s x → Standing first second d t y → x ≡ y
  one-standing d s t x y (on-first p at) (on-first q at') = let e = at.is in let e' = at'.is in cc
  one-standing d s t x y (on-first p at) (on-second q lost at') = let e = at.is in let e' = lost.is in cc
  one-standing d s t x y (on-second p lost at) (on-first q at') = let e = lost.is in let e' = at'.is in cc
  one-standing d s t x y (on-second p lost at) (on-second q lost' at') = let e = at.is in let e' = at'.is in cc

  pub fetched : (old new got : List ℕ) (d : DiskState) (s : ℕ) → Standing first second d s got → Stands first second old new d → (got ≡ old) ⊎ (got ≡ new)
  fetched old new got d s h (old-stands t k) = inl (one-standing d s t got old h k)
  fetched old new got d s h (new-stands t k) = inr (one-standing d s t got new h k)

  some-standing : (old new : List ℕ) (d : DiskState) → Stands first second old new d → (s : ℕ) × (sheet : List ℕ) × Standing first second d s sheet
  some-standing old new d (old-stands s h) = (s, old, h)
  some-standing old new d (new-stands s h) = (s, new, h)

  -- some sheet stands, so only the power can refuse it
  only-power : (d e : DiskState) (s : ℕ) (sheet : List ℕ) (x : Fault) → Standing first second d s sheet → FetchRefused first second d x e → (number_of (refusal_of x) ≡ 9) × (e.sectors ≡ d.sectors)
  only-power d e s sheet (PowerOff p) h (off-at-first is off) = (refl, read-off first d e off)
  only-power d e s sheet (PowerOff p) h (off-at-second is on lost off) = (refl, read-off second d e off)
  only-power d e s sheet (Unreadable p) (on-first is at) r = let a = at.is in let b = r.2.is in cc
  only-power d e s sheet (Unreadable p) (on-second is lost at) r = let a = at.is in let b = r.3.is in cc
  only-power d e s sheet NoSuchSector (on-first is at) r =
      ⊎_elim
      (λ (past : count d ≤ first). absurd (omega (arith, at.exists)))
      (λ both. let a = at.is in let b = both.0.is in cc)
      r.1
  only-power d e s sheet NoSuchSector (on-second is lost at) r =
      ⊎_elim (λ (past : count d ≤ first). absurd (omega (arith, lost.exists))) (λ both. absurd (omega (arith, at.exists, both.1))) r.1

  pub unfetched : (old new : List ℕ) (d e : DiskState) (x : Fault) → FetchRefused first second d x e → Stands first second old new d
      → (number_of (refusal_of x) ≡ 9) × Stands first second old new e
  unfetched old new d e x r stands =
      let some = some-standing old new d stands in
      let told = only-power d e some.0 some.1 x some.2 r in
      (told.0, same-sectors old new d e told.1 stands)
