-- The course of a disk whose power fails once.
--     left_in      the calls that are left until the power fails, if it has not
--     off_in       whether the disk took the power away
--     is_due       no call is left before the one that fails
--     done         the phase after a call that is done
--     passed       the phase after a call by its answer: one that is refused does not count
--     Fails        the disk's own failure: it answers 9 for the sector s, and its power is off
--     StartFails, ReadFails    the chosen start and the chosen read, where the disk below, d before and e after, could carry it out and keeps its power: no sector is lost
use Rattle.std.specs.Prelude.{◌≡◌, ℕ, ◌-◌, Bool, true, false, List, Option, Some, None, Ok, Err, ◌==◌}
use Rattle.disk.specs.Sectors.{DiskState, At, holds}
use Rattle.disk.specs.Faults.{Answer}
use Rattle.disk.specs.declared.faults.Fault.TheVariants.{PowerOff}
use Rattle.failing.specs.declared.phase.Phase.{Phase}
use Rattle.failing.specs.declared.phase.Phase.TheVariants.{Before, Off, On}

abbrev pub left_in : {L : Type 0} → Phase L → Option ℕ
left_in (Before calls) = Some calls
left_in (Off lost) = None
left_in (On lost) = None

abbrev pub off_in : {L : Type 0} → Phase L → Bool
off_in (Before calls) = false
off_in (Off lost) = true
off_in (On lost) = false

abbrev pub is_due : {L : Type 0} → Phase L → Bool
is_due (Before calls) = calls == 0
is_due (Off lost) = false
is_due (On lost) = false

abbrev pub done : {L : Type 0} → Phase L → Phase L
done (Before calls) = Before (calls - 1)
done (Off lost) = On lost
done (On lost) = On lost

abbrev pub passed : {L : Type 0} → Answer → Phase L → Phase L
passed (Ok _) phase = done phase
passed (Err _) phase = phase

abbrev pub Fails : {L : Type 0} → ℕ → L → Answer → Phase L → Type 0
Fails s lost r phase = (r ≡ Err (PowerOff s)) × (phase ≡ Off lost)

module _ {L : Type 0} (none : L) where
  abbrev pub StartFails : Phase L → Answer → DiskState → Phase L → Type 0
  StartFails p r e q = is_due p ≡ true → e.power ≡ true → Fails 0 none r q

  abbrev pub ReadFails : ℕ → DiskState → Phase L → Answer → DiskState → Phase L → Type 0
  ReadFails s d p r e q =
      is_due p ≡ true → d.power ≡ true → (bytes : List ℕ) → At d s (holds bytes)
      → e.power ≡ true
      → Fails s none r q
