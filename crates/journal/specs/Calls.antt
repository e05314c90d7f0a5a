-- What each call of a journal may do: from memory and disk before it to its answer, and to memory and disk after it. `docs/CALLS.md` says it in words.
--     most_number       no image is changed while the next group number is above this one
--     own               the frames of the volume's pages
--     Rest              memory and disk are as before
--     Loggable          an image does not begin like a head or an end
--     ImageUp           the image of a page now, of an up journal
--     ImageIs           and of any
--     ChangeUp          another image for a page of an up journal
--     ChangeDoes        and of any
--     Spent             a page changed, and group numbers are used up
--     ForceLeft         what a force leaves, once its writes were answered
--     ForceUp           a force of an up journal: its writes, and what it leaves
--     ForceAnswers      it does so, unless a page changed and group numbers are used up
--     ForceDoes         a force of any journal
--     ShutLeft          what a shut leaves: the journal is down
--     ShutUp            a force, and then down
--     ShutAnswers       it does so, unless a page changed and group numbers are used up
--     ShutDoes          a shut of any journal
--     Fresh             where the log stands after a recovery: it is empty, and the next group number is this one
--     RecoverLeft       what a recovery leaves, once its writes were answered
--     RecoverDown       a recovery of a down journal: what it read refuses it, or its writes follow
--     RecoverDoes       and of any
--     DataLeft          what a write to the data leaves
--     DataUp            a write at or above the data's start
--     DataDoes          and of any journal
use Rattle.std.specs.Prelude.{◌≡◌, ℕ, ◌+◌, ◌^◌, ◌<◌, ◌≤◌, ◌⊎◌, true, false, List, length, map, take, Ok, Err, Result}
use Rattle.disk.specs.Faults.{Answer, refusal_of}
use Rattle.disk.specs.Sectors.{DiskState, count}
use Rattle.disk.specs.Rules.{Writes}
use Rattle.disk.specs.WriteLists.{Wrote}
use Rattle.disk.specs.declared.faults.Fault.TheVariants.{PowerOff, Unreadable, NoSuchSector}
use Rattle.forcing.specs.Force.{force_writes, ForceLeaves}
use Rattle.forcing.specs.Places.{first_in}
use Rattle.forcing.specs.declared.place.LogPlace.{LogPlace}
use Rattle.frames.specs.Frames.{written, unheld, any_changed, now_of, forced_of}
use Rattle.frames.specs.declared.frame.Frame.{Frame}
use Rattle.geometry.specs.Places.{data_start}
use Rattle.geometry.specs.declared.third.Third.TheVariants.{Zero}
use Rattle.journal.specs.declared.inner.Inner.{Inner}
use Rattle.journal.specs.declared.inner.Standing.{Standing}
use Rattle.journal.specs.declared.inner.State.TheVariants.{Down, Up}
use Rattle.layout.specs.Padded.{tag_is}
use Rattle.pages.specs.Writes.{edit}
use Rattle.recovering.specs.Volumes.{Seen, VolumeSeen, seen_writes}
use Rattle.recovering.specs.declared.volume.SeenVolume.{SeenVolume}
use Rattle.refusal.specs.declared.Refusal.{Refusal}
use Rattle.refusal.specs.declared.Refusal.TheVariants.{VolumeDown, RegisterBroken, NumbersUsedUp, VolumeUp}
use Rattle.refusal.specs.declared.Refusal.TheVariants as refusal
use Rattle.thirds.specs.Words.{on}

abbrev pub most_number : ℕ
most_number = 4000000000

abbrev pub own : ℕ → Inner → List Frame
own P i = take P i.frames

abbrev pub Rest : Inner → DiskState → Inner → DiskState → Type 0
Rest i d j e = (j ≡ i) × (e ≡ d)

-- the first four bytes are neither "FSDH" nor "FSDE"
abbrev pub Loggable : List ℕ → Type 0
Loggable bytes = (tag_is 70 83 68 72 bytes ≡ false) × (tag_is 70 83 68 69 bytes ≡ false)

abbrev pub ImageUp : Standing → ℕ → Inner → Result (List ℕ) Refusal → Type 0
ImageUp v page i (Ok bytes) = (page < v.geometry.pages) × (bytes ≡ now_of i.frames page)
ImageUp v page i (Err x) = (v.geometry.pages ≤ page) × (x ≡ RegisterBroken page)

abbrev pub ImageIs : ℕ → Inner → Result (List ℕ) Refusal → Type 0
ImageIs page i r = elim i.state [ Down ↦ r ≡ Err VolumeDown | Up v ↦ ImageUp v page i r ]

abbrev pub ChangeUp : Standing → ℕ → List ℕ → Inner → Result (Unit {0}) Refusal → Inner → Type 0
ChangeUp v page bytes i (Ok _) j =
    (page < v.geometry.pages) × Loggable bytes × (v.place.next ≤ most_number) × (j.state ≡ i.state) × (j.frames ≡ edit (λ f. written f bytes) page i.frames)
ChangeUp v page bytes i (Err NumbersUsedUp) j = (j ≡ i) × (most_number < v.place.next)
ChangeUp v page bytes i (Err (RegisterBroken p)) j = (j ≡ i) × (p ≡ page) × (v.place.next ≤ most_number) × ((v.geometry.pages ≤ page) ⊎ (Loggable bytes → ⊥))
ChangeUp v page bytes i (Err x) j = ⊥

abbrev pub ChangeDoes : ℕ → List ℕ → Inner → DiskState → Result (Unit {0}) Refusal → Inner → DiskState → Type 0
ChangeDoes page bytes i d r j e = (e ≡ d) × elim i.state [ Down ↦ (r ≡ Err VolumeDown) × (j ≡ i) | Up v ↦ ChangeUp v page bytes i r j ]

abbrev pub Spent : Standing → Inner → Type 0
Spent v i = (any_changed (own v.geometry.pages i) ≡ true) × (most_number < v.place.next)

abbrev pub ForceLeft : Standing → Inner → Answer → Result ℕ Refusal → Inner → Type 0
ForceLeft v i (Ok _) r j =
    (w : Standing) × (j.state ≡ Up w) × (w.geometry ≡ v.geometry) × (r ≡ Ok w.place.last)
    × ForceLeaves v.geometry.third v.place (own v.geometry.pages i) (Ok tt) w.place (own v.geometry.pages j) × (length j.frames ≡ length i.frames)
ForceLeft v i (Err x) r j = (j.state ≡ Down) × (r ≡ Err (refusal_of x))

pub record ForceUp (v : Standing) (i : Inner) (d : DiskState) (r : Result ℕ Refusal) (j : Inner) (e : DiskState) : Type 0 where
  pub answer : Answer
  pub wrote : Wrote (force_writes v.geometry.pages v.geometry.third v.place (own v.geometry.pages i)) d answer e
  pub left : ForceLeft v i answer r j

abbrev pub ForceAnswers : Standing → Inner → DiskState → Result ℕ Refusal → Inner → DiskState → Type 0
ForceAnswers v i d r j e = (Spent v i × (r ≡ Err NumbersUsedUp) × Rest i d j e) ⊎ ((Spent v i → ⊥) × ForceUp v i d r j e)

abbrev pub ForceDoes : Inner → DiskState → Result ℕ Refusal → Inner → DiskState → Type 0
ForceDoes i d r j e = elim i.state [ Down ↦ (r ≡ Err VolumeDown) × Rest i d j e | Up v ↦ ForceAnswers v i d r j e ]

abbrev pub ShutLeft : Answer → Result (Unit {0}) Refusal → Inner → Type 0
ShutLeft (Ok _) r j = (j.state ≡ Down) × (r ≡ Ok tt)
ShutLeft (Err x) r j = (j.state ≡ Down) × (r ≡ Err (refusal_of x))

pub record ShutUp (v : Standing) (i : Inner) (d : DiskState) (r : Result (Unit {0}) Refusal) (j : Inner) (e : DiskState) : Type 0 where
  pub answer : Answer
  pub wrote : Wrote (force_writes v.geometry.pages v.geometry.third v.place (own v.geometry.pages i)) d answer e
  pub left : ShutLeft answer r j

abbrev pub ShutAnswers : Standing → Inner → DiskState → Result (Unit {0}) Refusal → Inner → DiskState → Type 0
ShutAnswers v i d r j e = (Spent v i × (r ≡ Err NumbersUsedUp) × Rest i d j e) ⊎ ((Spent v i → ⊥) × ShutUp v i d r j e)

abbrev pub ShutDoes : Inner → DiskState → Result (Unit {0}) Refusal → Inner → DiskState → Type 0
ShutDoes i d r j e = elim i.state [ Down ↦ (r ≡ Err VolumeDown) × Rest i d j e | Up v ↦ ShutAnswers v i d r j e ]

pub record Fresh (n : ℕ) (p : LogPlace) : Type 0 where
  pub anchored : p.anchored ≡ Zero
  pub first : first_in Zero p.firsts ≡ n
  pub third : p.third ≡ Zero
  pub place : p.place ≡ 8
  pub next : p.next ≡ n
  pub last : p.last ≡ 0

abbrev pub RecoverLeft : SeenVolume → List Frame → Answer → Result (Unit {0}) Refusal → Inner → Type 0
RecoverLeft v frames (Ok _) r j =
    (w : Standing) × (j.state ≡ Up w) × (w.geometry ≡ v.geometry) × Fresh (v.missing + 1) w.place × (length w.place.firsts ≡ 3) × (j.frames ≡ map unheld frames) × (r ≡ Ok tt)
RecoverLeft v frames (Err x) r j = (j.state ≡ Down) × (r ≡ Err (refusal_of x))

pub data RecoverDown (d : DiskState) (r : Result (Unit {0}) Refusal) (j : Inner) (e : DiskState) : Type 0 where
  not-read : (x : Refusal) (frames : List Frame) → VolumeSeen d (Err x) e frames → r ≡ Err x → j.state ≡ Down → RecoverDown d r j e
  used-up : (v : SeenVolume) (frames : List Frame) → VolumeSeen d (Ok v) e frames → 2 ^ 32 ≤ v.missing + 1 → r ≡ Err NumbersUsedUp → j.state ≡ Down → RecoverDown d r j e
  was-read : (v : SeenVolume) (frames : List Frame) (m : DiskState) (s : Seen (on d.sectors) (count d) v frames) (answer : Answer) → m.power ≡ true → m.sectors ≡ d.sectors → length frames ≡ 21 → v.missing + 1 < 2 ^ 32
      → Wrote (seen_writes (on d.sectors) v s.log (forced_of frames)) m answer e → RecoverLeft v frames answer r j → RecoverDown d r j e

abbrev pub RecoverDoes : Inner → DiskState → Result (Unit {0}) Refusal → Inner → DiskState → Type 0
RecoverDoes i d r j e = elim i.state [ Down ↦ RecoverDown d r j e | Up v ↦ (r ≡ Err VolumeUp) × Rest i d j e ]

abbrev pub DataLeft : Inner → Answer → Result (Unit {0}) Refusal → Inner → Type 0
DataLeft i (Ok _) r j = (j ≡ i) × (r ≡ Ok tt)
DataLeft i (Err (PowerOff s)) r j = (j.state ≡ Down) × (r ≡ Err (refusal_of (PowerOff s)))
DataLeft i (Err (Unreadable s)) r j = ⊥
DataLeft i (Err NoSuchSector) r j = (j ≡ i) × (r ≡ Err refusal.NoSuchSector)

pub data DataUp (v : Standing) (s : ℕ) (bytes : List ℕ) (i : Inner) (d : DiskState) (r : Result (Unit {0}) Refusal) (j : Inner) (e : DiskState) : Type 0 where
  no-data : s < data_start v.geometry.pages v.geometry.third → r ≡ Err refusal.NoSuchSector → Rest i d j e → DataUp v s bytes i d r j e
  data-write : data_start v.geometry.pages v.geometry.third ≤ s → (answer : Answer) → Writes s bytes d answer e → DataLeft i answer r j → DataUp v s bytes i d r j e

abbrev pub DataDoes : ℕ → List ℕ → Inner → DiskState → Result (Unit {0}) Refusal → Inner → DiskState → Type 0
DataDoes s bytes i d r j e = elim i.state [ Down ↦ (r ≡ Err VolumeDown) × Rest i d j e | Up v ↦ DataUp v s bytes i d r j e ]
