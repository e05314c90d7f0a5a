-- What one step of a list does: it adds one event, which tells of this step and of this outcome, to every run that leads to it.
--     outcome_of     what an answer without a number comes to
--     group_of       what the answer of a force comes to
--     spoil_of       what the loss of a sector comes to
--     all_images     the image of every frame now
--     Imaged         what the answer of a recovery comes to, in a volume of so many pages
--     StepDoes       the step does what the contract of its call says, and comes to what the call answers
--     TurnDoes       so does a step or a loss
--     Tells          an event tells of a step and its outcome
--     Moves          the event, and the run with it
--     TellsTurn      an event tells of a step or a loss, and its outcome
--     Suffers        the event, and the run with it
use Rattle.std.specs.Prelude.{◌≡◌, ℕ, List, [], ◌∷◌, ◌++◌, length, map, take, Ok, Err, Result}
use Rattle.disk.specs.Faults.{Answer, refusal_of}
use Rattle.disk.specs.Rules.{Spoils}
use Rattle.disk.specs.Sectors.{DiskState}
use Rattle.frames.specs.declared.frame.Frame.{Frame}
use Rattle.journal.specs.Books.{Event, changed, forced, shut, recovered, data-written, spoiled, forgot}
use Rattle.journal.specs.Calls.{ChangeDoes, ForceDoes, ShutDoes, RecoverDoes, DataDoes}
use Rattle.journal.specs.Runs.{Run}
use Rattle.journal.specs.declared.inner.Inner.{Inner}
use Rattle.journal.specs.declared.inner.State.TheVariants.{Down}
use Rattle.refusal.specs.declared.Refusal.{Refusal}
use Rattle.replay.specs.declared.losses.Turn.{Turn}
use Rattle.replay.specs.declared.losses.Turn.TheVariants as turn
use Rattle.replay.specs.declared.steps.Outcome.{Outcome}
use Rattle.replay.specs.declared.steps.Outcome.TheVariants.{Done, Group, Images, Refused}
use Rattle.replay.specs.declared.steps.Step.{Step}
use Rattle.replay.specs.declared.steps.Step.TheVariants.{Change, Force, Shut, Recover, WriteData, Forget}

abbrev pub outcome_of : Result (Unit {0}) Refusal → Outcome
outcome_of (Ok _) = Done
outcome_of (Err x) = Refused x

abbrev pub group_of : Result ℕ Refusal → Outcome
group_of (Ok n) = Group n
group_of (Err x) = Refused x

abbrev pub spoil_of : Answer → Outcome
spoil_of (Ok _) = Done
spoil_of (Err x) = Refused (refusal_of x)

abbrev pub all_images : List Frame → List (List ℕ)
all_images frames = map (λ f. f.now) frames

abbrev pub Imaged : ℕ → Result (List (List ℕ)) Refusal → Outcome → Type 0
Imaged P (Ok images) (Images all) = images ≡ take P all
Imaged P (Ok images) o = ⊥
Imaged P (Err x) o = o ≡ Refused x

-- from memory i and disk d to memory j and disk e
abbrev pub StepDoes : Step → Outcome → Inner → DiskState → Inner → DiskState → Type 0
StepDoes (Change page image) o i d j e = (r : Result (Unit {0}) Refusal) × ChangeDoes page image i d r j e × (o ≡ outcome_of r)
StepDoes Force o i d j e = (r : Result ℕ Refusal) × ForceDoes i d r j e × (o ≡ group_of r)
StepDoes Shut o i d j e = (r : Result (Unit {0}) Refusal) × ShutDoes i d r j e × (o ≡ outcome_of r)
StepDoes Recover (Images all) i d j e = RecoverDoes i d (Ok tt) j e × (all ≡ all_images j.frames)
StepDoes Recover (Refused x) i d j e = RecoverDoes i d (Err x) j e
StepDoes Recover o i d j e = ⊥
StepDoes (WriteData sector bytes) o i d j e = (r : Result (Unit {0}) Refusal) × DataDoes sector bytes i d r j e × (o ≡ outcome_of r)
StepDoes Forget o i d j e = (o ≡ Done) × (j.state ≡ Down) × (e ≡ d)

abbrev pub TurnDoes : Turn → Outcome → Inner → DiskState → Inner → DiskState → Type 0
TurnDoes (turn.Step s) o i d j e = StepDoes s o i d j e
TurnDoes (turn.Spoil sector) o i d j e = (j ≡ i) × ((a : Answer) × Spoils sector d a e × (o ≡ spoil_of a))

abbrev pub Tells : ℕ → Step → Outcome → Event → Type 0
Tells P (Change page image) o (changed page' image' r) = (page' ≡ page) × (image' ≡ image) × (o ≡ outcome_of r)
Tells P Force o (forced r) = o ≡ group_of r
Tells P Shut o (shut r) = o ≡ outcome_of r
Tells P Recover o (recovered held r) = Imaged P r o
Tells P (WriteData sector bytes) o (data-written sector' bytes' r) = (sector' ≡ sector) × (bytes' ≡ bytes) × (o ≡ outcome_of r)
Tells P Forget o forgot = o ≡ Done
Tells P s o e = ⊥

-- from memory i and disk d to memory j and disk e
abbrev pub Moves : Step → Outcome → Inner → DiskState → Inner → DiskState → Type 0
Moves s o i d j e = (T : ℕ) (images : List (List ℕ)) (h : List Event) → Run T images h i d → (v : Event) × Tells (length images) s o v × Run T images (h ++ v ∷ []) j e

abbrev pub TellsTurn : ℕ → Turn → Outcome → Event → Type 0
TellsTurn P (turn.Step s) o v = Tells P s o v
TellsTurn P (turn.Spoil sector) o (spoiled sector' (Ok _)) = (sector' ≡ sector) × (o ≡ Done)
TellsTurn P (turn.Spoil sector) o (spoiled sector' (Err x)) = (sector' ≡ sector) × (o ≡ Refused (refusal_of x))
TellsTurn P t o v = ⊥

abbrev pub Suffers : Turn → Outcome → Inner → DiskState → Inner → DiskState → Type 0
Suffers t o i d j e = (T : ℕ) (images : List (List ℕ)) (h : List Event) → Run T images h i d → (v : Event) × TellsTurn (length images) t o v × Run T images (h ++ v ∷ []) j e
