-- A write to the data that is refused.
--     left-refused      what it leaves: after 9 the journal is down, and else it is as before
use Rattle.std.proofs.Common.{◌≡◌, ℕ, List, Err, refl}
use Rattle.disk.specs.Faults.{refusal_of}
use Rattle.disk.specs.Rules.{Writes}
use Rattle.disk.specs.Sectors.{DiskState}
use Rattle.disk.specs.declared.faults.Fault.{Fault}
use Rattle.disk.specs.declared.faults.Fault.TheVariants.{PowerOff, Unreadable, NoSuchSector}
use Rattle.journal.specs.Calls.{DataLeft}
use Rattle.journal.specs.declared.inner.Inner.{Inner}
use Rattle.journal.specs.declared.inner.State.TheVariants.{Down}

pub left-refused : (s : ℕ) (bytes : List ℕ) (d e : DiskState) (i j : Inner) (x : Fault) → Writes s bytes d (Err x) e
    → ((p : ℕ) → x ≡ PowerOff p → j.state ≡ Down)
    → (((p : ℕ) → x ≡ PowerOff p → ⊥) → j ≡ i)
    → DataLeft i (Err x) (Err (refusal_of x)) j
left-refused s bytes d e i j (PowerOff p) h down same = (down p refl, refl)
left-refused s bytes d e i j (Unreadable p) h down same = absurd h
left-refused s bytes d e i j NoSuchSector h down same = (same (λ p q. cc), refl)
