-- A disk's faults among the product's refusals: 9, 10 and 16.
--     Answer        what start, read, write and spoil answer
--     refusal_of    the refusal that a fault is
--     fault_at      the same fault, at another sector where it names one
use Rattle.std.specs.Prelude.{ℕ, Result}
use Rattle.refusal.specs.declared.Refusal.{Refusal}
use Rattle.refusal.specs.declared.Refusal.TheVariants as refusal
use Rattle.disk.specs.declared.faults.Fault.{Fault}
use Rattle.disk.specs.declared.faults.Fault.TheVariants.{PowerOff, Unreadable, NoSuchSector}

abbrev pub Answer : Type 0
Answer = Result (Unit {0}) Fault

abbrev pub refusal_of : Fault → Refusal
refusal_of (PowerOff sector) = refusal.PowerOff sector
refusal_of (Unreadable sector) = refusal.Unreadable sector
refusal_of NoSuchSector = refusal.NoSuchSector

abbrev pub fault_at : ℕ → Fault → Fault
fault_at sector (PowerOff p) = PowerOff sector
fault_at sector (Unreadable p) = Unreadable sector
fault_at sector NoSuchSector = NoSuchSector
