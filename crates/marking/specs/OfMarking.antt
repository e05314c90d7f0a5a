-- A marking disk's parts and its meaning, for crates that do not see its fields. `m.state` and `m.layers` are those of the disk below.
--     below_of, manner_of, phase_of    the disk below, the manner, and where in its course the disk is
--     marking_state, marking_layers    its state and what no call changes of it
--     Waits                            a call before the chosen one is the disk below's own, and counts where it is done
--     StartDue, ReadDue, WriteDue      the chosen call, where the disk below could carry it out and keeps its power: 9, power off, by the chosen manner
--     Refuses                          a call that the disk below refuses does not count
--     Rests                            with the power taken away nothing at all changes
--     StartAgain                       a start after the failure is the disk below's own, and puts the power on
--     ReadAgain, WriteAgain            with the power on again a lost sector is not read, and every other call is the disk below's own
--     Spoiled                          spoiling is the disk below's own, and counts for nothing
use Rattle.std.specs.Prelude.{◌≡◌, ℕ, ◌<◌, true, false, List, [], ◌∷◌, Ok, Err, ◌⊎◌}
use Rattle.disk.specs.Sectors.{DiskState, count}
use Rattle.disk.specs.Layers.{Layers, over}
use Rattle.disk.specs.Faults.{Answer}
use Rattle.disk.specs.Rules.{Starts, Reads, Writes, Spoils}
use Rattle.disk.specs.declared.disks.Disk.{Ghosts}
use Rattle.disk.specs.declared.faults.Fault.TheVariants.{PowerOff, Unreadable, NoSuchSector}
use Rattle.marking.specs.Marks.{IsLost, none, lost_by, kept}
use Rattle.failing.specs.Manners.{leaves, number_of}
use Rattle.failing.specs.Phases.{passed, Fails, StartFails, ReadFails}
use Rattle.marking.specs.Chosen.{stores}
use Rattle.marking.specs.Phases.{seen, dark, again}
use Rattle.marking.specs.declared.lost.Lost.{Lost}
use Rattle.failing.specs.declared.manner.Manner.{Manner}
use Rattle.failing.specs.declared.phase.Phase.{Phase}
use Rattle.failing.specs.declared.phase.Phase.TheVariants.{Before, Off, On}
use Rattle.marking.specs.declared.marking.Marking.{Marking}

module _ {D : Type 0} {m : Ghosts D} where
  abbrev pub below_of : Marking D m → D
  below_of f = f.below

  abbrev pub manner_of : Marking D m → Manner
  manner_of f = f.manner

  abbrev pub phase_of : Marking D m → Phase Lost
  phase_of f = f.phase

  abbrev pub marking_state : Marking D m → DiskState
  marking_state f = seen f.phase (m.state f.below)

  abbrev pub marking_layers : Marking D m → Layers
  marking_layers f = over (number_of f.manner ∷ []) (m.layers f.below)

  -- `Does` says what the disk below did by itself.
  abbrev pub Waits : Marking D m → Answer → Marking D m → Type 0 → Type 0
  Waits f r g Does = (calls : ℕ) → f.phase ≡ Before calls → 0 < calls → Does × (g.phase ≡ passed r (Before calls))

  abbrev pub Refuses : Marking D m → Answer → Marking D m → Type 0
  Refuses f (Ok _) g = Unit {0}
  Refuses f (Err (PowerOff p)) g = (m.state g.below).power ≡ false → g.phase ≡ dark f.phase
  Refuses f (Err (Unreadable p)) g = g.phase ≡ f.phase
  Refuses f (Err NoSuchSector) g = g.phase ≡ f.phase

  abbrev pub Rests : Marking D m → Marking D m → Type 0
  Rests f g = (lost : Lost) → f.phase ≡ Off lost → g ≡ f

  abbrev pub StartDue : Marking D m → Answer → Marking D m → Type 0
  StartDue f r g = StartFails none f.phase r (m.state g.below) g.phase

  abbrev pub ReadDue : ℕ → Marking D m → Answer → Marking D m → Type 0
  ReadDue s f r g = ReadFails none s (m.state f.below) f.phase r (m.state g.below) g.phase

  abbrev pub WriteDue : ℕ → List ℕ → Marking D m → Answer → Marking D m → Type 0
  WriteDue s bytes f r g =
      f.phase ≡ Before 0 → (m.state f.below).power ≡ true → s < count (m.state f.below)
      → (m.state g.below).power ≡ true
      → Fails s (lost_by f.manner s) r g.phase
      × ((marking_state g).sectors ≡ leaves f.manner s bytes (marking_state f).sectors)
      × ((m.state g.below).sectors ≡ stores f.manner s bytes (m.state f.below).sectors)

  abbrev pub StartAgain : Marking D m → Answer → Marking D m → Type 0
  StartAgain f r g = (lost : Lost) → (f.phase ≡ Off lost) ⊎ (f.phase ≡ On lost) → Starts (m.state f.below) r (m.state g.below) × (g.phase ≡ again r lost)

  abbrev pub ReadAgain : ℕ → Marking D m → List ℕ → Answer → Marking D m → List ℕ → Type 0
  ReadAgain s f old r g new =
      (lost : Lost) → f.phase ≡ On lost
      → (IsLost s lost (m.state f.below) → (r ≡ Err (Unreadable s)) × (g ≡ f))
      × ((IsLost s lost (m.state f.below) → ⊥) → Reads s (m.state f.below) old r (m.state g.below) new × (g.phase ≡ again r lost))

  abbrev pub WriteAgain : ℕ → List ℕ → Marking D m → Answer → Marking D m → Type 0
  WriteAgain s bytes f r g =
      (lost : Lost) → f.phase ≡ On lost → Writes s bytes (m.state f.below) r (m.state g.below) × (g.phase ≡ again r (kept r s lost))

  abbrev pub Spoiled : ℕ → Marking D m → Answer → Marking D m → Type 0
  Spoiled s f r g = Spoils s (m.state f.below) r (m.state g.below) × (g.phase ≡ f.phase)
