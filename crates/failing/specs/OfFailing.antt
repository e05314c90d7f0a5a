-- A failing disk's parts and its meaning, for crates that do not see its fields. `state` and `layers` are those of the disk below.
--     below_of, manner_of, phase_of           the disk below, the manner, and where in its course the disk is
--     left_of, off_of                         the calls left until the power fails, and whether this disk took the power away
--     failing_state, failing_layers           its state and what no call changes of it
--     Waits, StartWaits                       a call before the chosen one, or after the failure, is the disk below's own, and counts where it is done
--     Rests                                   with the power taken away nothing at all changes
--     Refuses, StartRefuses                   a call that the disk below refuses does not count
--     Spoiled                                 spoiling is the disk below's own, and counts for nothing
--     StartDue, ReadDue, WriteDue             the chosen call, where the disk below could carry it out and keeps its power: 9, power off, by the chosen manner
use Rattle.std.specs.Prelude.{◌≡◌, ℕ, ◌<◌, Bool, true, false, List, [], ◌∷◌, Ok, Err, Option}
use Rattle.disk.specs.Sectors.{DiskState, count}
use Rattle.disk.specs.Layers.{Layers, over}
use Rattle.disk.specs.Faults.{Answer}
use Rattle.disk.specs.Rules.{Starts, Spoils}
use Rattle.disk.specs.declared.faults.Fault.TheVariants.{PowerOff, Unreadable, NoSuchSector}
use Rattle.failing.specs.Manners.{leaves, number_of}
use Rattle.failing.specs.Phases.{left_in, off_in, is_due, passed, Fails, StartFails, ReadFails}
use Rattle.failing.specs.FailingSound.{cut_off}
use Rattle.failing.specs.declared.manner.Manner.{Manner}
use Rattle.failing.specs.declared.phase.Phase.{Phase}
use Rattle.failing.specs.declared.failing.Failing.{Failing}

module _ {D : Type 0} where
  abbrev pub below_of : Failing D → D
  below_of f = f.below

  abbrev pub manner_of : Failing D → Manner
  manner_of f = f.manner

  abbrev pub phase_of : Failing D → Phase (Unit {0})
  phase_of f = f.phase

  abbrev pub left_of : Failing D → Option ℕ
  left_of f = left_in f.phase

  abbrev pub off_of : Failing D → Bool
  off_of f = off_in f.phase

  -- `Does` says what the disk below did by itself.
  abbrev pub Waits : Failing D → Answer → Failing D → Type 0 → Type 0
  Waits f r g Does = off_of f ≡ false → is_due f.phase ≡ false → Does × (g.phase ≡ passed r f.phase)

  abbrev pub Rests : Failing D → Failing D → Type 0
  Rests f g = off_of f ≡ true → g ≡ f

  abbrev pub Refuses : Failing D → Answer → Failing D → Type 0
  Refuses f (Ok _) g = Unit {0}
  Refuses f (Err (PowerOff p)) g = off_of g ≡ off_of f → g.phase ≡ f.phase
  Refuses f (Err (Unreadable p)) g = g.phase ≡ f.phase
  Refuses f (Err NoSuchSector) g = g.phase ≡ f.phase

module _ {D : Type 0} (state : D → DiskState) where
  abbrev pub failing_state : Failing D → DiskState
  failing_state f = cut_off (off_of f) (state f.below)

  abbrev pub StartWaits : Failing D → Answer → Failing D → Type 0
  StartWaits f r g = is_due f.phase ≡ false → Starts (state f.below) r (state g.below) × (g.phase ≡ passed r f.phase)

  abbrev pub StartRefuses : Failing D → Failing D → Type 0
  StartRefuses f g = (state g.below).power ≡ false → g.phase ≡ f.phase

  abbrev pub Spoiled : ℕ → Failing D → Answer → Failing D → Type 0
  Spoiled s f r g = Spoils s (state f.below) r (state g.below) × (g.phase ≡ f.phase)

  abbrev pub StartDue : Failing D → Answer → Failing D → Type 0
  StartDue f r g = StartFails tt f.phase r (state g.below) g.phase

  abbrev pub ReadDue : ℕ → Failing D → Answer → Failing D → Type 0
  ReadDue s f r g = ReadFails tt s (state f.below) f.phase r (state g.below) g.phase

  abbrev pub WriteDue : ℕ → List ℕ → Failing D → Answer → Failing D → Type 0
  WriteDue s bytes f r g =
      is_due f.phase ≡ true → (state f.below).power ≡ true → s < count (state f.below)
      → (state g.below).power ≡ true
      → Fails s tt r g.phase × ((state g.below).sectors ≡ leaves f.manner s bytes (state f.below).sectors)

abbrev pub failing_layers : {D : Type 0} → (D → Layers) → Failing D → Layers
failing_layers layers f = over (number_of f.manner ∷ []) (layers f.below)
