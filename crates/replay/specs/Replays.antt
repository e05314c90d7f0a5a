-- What a list of steps does: it adds an event for each of them to every run that leads to it, and the history with them is lawful.
--     Chain          each of a list does what it does, one after the other
--     Each           one event tells of each step and its outcome, in order
--     Replays        the events, the run with them, and its law
--     Lives          there is a history of them from a format on, and it is lawful
--     FromFormat     so of a format that is done and as many steps as are answered; or the format is refused
--     Endures        the same of steps and losses
use Rattle.std.specs.Prelude.{◌≡◌, ℕ, List, [], ◌∷◌, ◌++◌, length, take, Ok, Err, Result}
use Rattle.disk.specs.Sectors.{DiskState}
use Rattle.geometry.specs.Places.{data_start}
use Rattle.journal.specs.Books.{Event, opened, Lawful}
use Rattle.journal.specs.Formats.{FormatDoes}
use Rattle.journal.specs.Runs.{Run}
use Rattle.journal.specs.declared.inner.Inner.{Inner}
use Rattle.refusal.specs.declared.Refusal.{Refusal}
use Rattle.replay.specs.Moves.{Tells, TellsTurn}
use Rattle.replay.specs.declared.losses.Turn.{Turn}
use Rattle.replay.specs.declared.steps.Outcome.{Outcome}
use Rattle.replay.specs.declared.steps.Step.{Step}

module _ {S : Type 0} (does : S → Outcome → Inner → DiskState → Inner → DiskState → Type 0) where
  abbrev pub Chain : List S → List Outcome → Inner → DiskState → Inner → DiskState → Type 0
  Chain [] [] i d j e = (j ≡ i) × (e ≡ d)
  Chain (s ∷ ss) (o ∷ os) i d j e = (k : Inner) × (c : DiskState) × does s o i d k c × Chain ss os k c j e
  Chain ss os i d j e = ⊥

module _ {S : Type 0} (tells : S → Outcome → Event → Type 0) where
  abbrev pub Each : List S → List Outcome → List Event → Type 0
  Each [] [] [] = Unit {0}
  Each (s ∷ ss) (o ∷ os) (e ∷ es) = tells s o e × Each ss os es
  Each ss os es = ⊥

abbrev pub Replays : List Step → List Outcome → Inner → DiskState → Inner → DiskState → Type 0
Replays steps outcomes i d j e = (T : ℕ) (images : List (List ℕ)) (h : List Event) → Run T images h i d
    → (events : List Event) × Each (Tells (length images)) steps outcomes events × Run T images (h ++ events) j e × Lawful (data_start (length images) T) (opened images) (h ++ events)

abbrev pub Endures : List Turn → List Outcome → Inner → DiskState → Inner → DiskState → Type 0
Endures turns outcomes i d j e = (T : ℕ) (images : List (List ℕ)) (h : List Event) → Run T images h i d
    → (events : List Event) × Each (TellsTurn (length images)) turns outcomes events × Run T images (h ++ events) j e × Lawful (data_start (length images) T) (opened images) (h ++ events)

abbrev pub Lives : ℕ → List (List ℕ) → List Step → List Outcome → Type 0
Lives T images steps outcomes = (events : List Event) × Each (Tells (length images)) steps outcomes events × Lawful (data_start (length images) T) (opened images) events

abbrev pub FromFormat : ℕ → List (List ℕ) → List Step → List Outcome → Inner → DiskState → Result ℕ Refusal → Inner → DiskState → Type 0
FromFormat T images steps outcomes i d (Ok n) j e = Lives T images (take n steps) (take n outcomes)
FromFormat T images steps outcomes i d (Err x) j e = FormatDoes T images i d (Err x) j e
