-- What the writes of the two copies come to, and the start after a cut.
--     first-refused        the write of the first copy was refused
--     second-answers       the first copy is written, and the second write answers
--     restarted            the disk was started after a cut
--     restart-refused      that start was refused
--     writes, restarts     these, which the check takes up by itself
use Rattle.std.proofs.Common.{◌≡◌, ℕ, ◌<◌, false, List, length, set, Some, Ok, Err, sym, ap, ◌∙◌, subst, arith}
use Rattle.std.proofs.lemmas.List.{length-set}
use Rattle.disk.specs.Sectors.{Sector, holds, DiskState, count}
use Rattle.disk.specs.Faults.{Answer}
use Rattle.disk.specs.Rules.{Cut, Starts, Writes, WriteOff, write-was-off, write-failed}
use Rattle.disk.specs.declared.faults.Fault.{Fault}
use Rattle.disk.specs.declared.faults.Fault.TheVariants.{PowerOff, Unreadable, NoSuchSector}
use Rattle.sheet.specs.Twins.{CutIn, no-power, in-first, in-second, no-first, no-second, WritesBoth, Rewrites}

module _ (first second : ℕ) (new : List ℕ) where
  first-off : (d e : DiskState) (p : ℕ) → p ≡ first → WriteOff first new d e → (e.power ≡ false) × CutIn first second new d p e.sectors
  first-off d e p is (write-was-off was same) = (ap (λ (x : DiskState). x.power) same ∙ was, no-power is was (ap (λ (x : DiskState). x.sectors) same))
  first-off d e p is (write-failed on exists off cut) = (off, in-first is on exists cut)

  pub first-refused : (d e : DiskState) (x : Fault) → Writes first new d (Err x) e → WritesBoth first second new d (Err x) e
  first-refused d e (PowerOff p) h = first-off d e p h.0 h.1
  first-refused d e (Unreadable p) h = h
  first-refused d e NoSuchSector h = (h.0, ap (λ (x : DiskState). x.power) h.2 ∙ h.0, no-first h.1 (ap (λ (x : DiskState). x.sectors) h.2))

  module _ (d m : DiskState) (wrote : Writes first new d (Ok tt) m) where
    long : count m ≡ count d
    long = ap length wrote.3 ∙ length-set d.sectors first (holds new)

    second-off : (e : DiskState) (p : ℕ) → p ≡ second → WriteOff second new m e → (e.power ≡ false) × CutIn first second new d p e.sectors
    second-off e p is (write-was-off was same) = let on = wrote.2 in cc
    second-off e p is (write-failed on exists off cut) =
        let within : second < count d = omega (arith, long) in
        (off, in-second is wrote.0 wrote.1 within (subst (λ (l : List Sector). Cut second new l e.sectors) wrote.3 cut))

    pub second-answers : (e : DiskState) (r : Answer) → Writes second new m r e → WritesBoth first second new d r e
    second-answers e (Ok _) h = record {
      was-on = wrote.0;
      first-exists = wrote.1;
      second-exists = omega (arith, h.1, long);
      is-on = h.2;
      written = h.3 ∙ ap (λ (l : List Sector). set l second (holds new)) wrote.3;
    }
    second-answers e (Err (PowerOff p)) h = second-off e p h.0 h.1
    second-answers e (Err (Unreadable p)) h = h
    second-answers e (Err NoSuchSector) h = (
      wrote.0,
      ap (λ (x : DiskState). x.power) h.2 ∙ wrote.2,
      no-second wrote.1 (omega (arith, h.1, long)) (ap (λ (x : DiskState). x.sectors) h.2 ∙ wrote.3),
    )

  module _ (d m e : DiskState) (x : Fault) (s : ℕ) (is : x ≡ PowerOff s) (cut : WritesBoth first second new d (Err x) m) where
    cut-there : e.sectors ≡ m.sectors → CutIn first second new d s e.sectors
    cut-there same =
        let there = (subst (λ (y : Fault). WritesBoth first second new d (Err y) m) is cut).1 in
        subst (λ (l : List Sector). CutIn first second new d s l) (sym same) there

    pub restarted : Starts m (Ok tt) e → Rewrites first second new d (Ok (Some s)) e
    restarted h = (h.0, cut-there h.1)

    pub restart-refused : (y : Fault) → Starts m (Err y) e → Rewrites first second new d (Err y) e
    restart-refused (PowerOff p) h = (h.0, h.1, (s, cut-there h.2))
    restart-refused (Unreadable p) h = h
    restart-refused NoSuchSector h = absurd h

pub ruleset writes = (first-refused, second-answers)

pub ruleset restarts = (restarted, restart-refused)
