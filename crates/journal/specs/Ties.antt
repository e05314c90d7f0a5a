-- What memory has to do with the records on the disk while the journal is up.
--     FirstNumbers     of each third that has a record the number of its first one is kept
--     Tied             the place of the log and the frames are those of these live records and of these images as last forced
--     Forced           what a force is, seen from memory: writes of a record, and memory tied to the records that are live after it
--     ForceTied        every force of an up journal with a changed page is so
--     NothingForced    a force with none writes nothing
use Rattle.std.specs.Prelude.{◌≡◌, ℕ, ◌+◌, ◌^◌, ◌<◌, true, false, List, [], ◌∷◌, ◌++◌, length, Ok, ◌≢◌, slice_index_or}
use Rattle.std.specs.List.{AllByRecursion}
use Rattle.forcing.specs.Force.{third_in, force_writes, ForceLeaves}
use Rattle.forcing.specs.Places.{first_in}
use Rattle.forcing.specs.declared.place.LogPlace.{LogPlace}
use Rattle.frames.specs.Frames.{any_changed, none_held, now_of, forced_of}
use Rattle.frames.specs.declared.frame.Frame.{Frame}
use Rattle.geometry.specs.declared.third.Third.{Third}
use Rattle.thirds.specs.Words.{word_of, Calm, Disk, Images}
use Rattle.thirds.specs.Records.{start, Rec}
use Rattle.thirds.specs.Homes.{holder}
use Rattle.thirds.specs.Volumes.{Up}
use Rattle.thirds.specs.Forces.{final_third, final_place, Changes, Forces, leaves}

abbrev pub FirstNumbers : List Rec → List ℕ → Type 0
FirstNumbers rs firsts = (front back : List Rec) (r : Rec) → rs ≡ front ++ r ∷ back → AllByRecursion (λ q. q.third ≢ r.third) front → first_in r.third firsts ≡ r.number

pub record Tied (P T : ℕ) (X : Images) (f : Third) (m : ℕ) (rs : List Rec) (log : LogPlace) (frames : List Frame) : Type 0 where
  pub anchored : log.anchored ≡ f
  pub three : length log.firsts ≡ 3
  pub first : first_in f log.firsts ≡ m
  pub firsts : FirstNumbers rs log.firsts
  pub third : log.third ≡ final_third f rs
  pub place : log.place ≡ final_place (start T f) rs
  pub next : log.next ≡ m + length rs
  pub long : length frames ≡ P
  pub thirds : (i : ℕ) → i < P → third_in frames i ≡ holder rs i
  pub forced : (i : ℕ) → i < P → forced_of frames i ≡ X i
  pub same : (i : ℕ) → i < P → (slice_index_or frames i none_held).changed ≡ false → now_of frames i ≡ forced_of frames i
  pub calm : (i : ℕ) → i < P → Calm (word_of P (now_of frames i))

pub record Forced (P T : ℕ) (X : Images) (f : Third) (m : ℕ) (rs : List Rec) (log : LogPlace) (frames : List Frame) : Type 0 where
  pub made : Rec
  pub forces : Forces P T X f m rs made (force_writes P T log frames)
  pub changes : Changes P X made.pages (now_of frames)
  pub later : (log' : LogPlace) (frames' : List Frame) → ForceLeaves T log frames (Ok tt) log' frames' → length log'.firsts ≡ 3
      → Tied P T (now_of frames) (leaves forces).0 (leaves forces).1 (leaves forces).2 log' frames'
      × ((i : ℕ) → i < P → now_of frames' i ≡ now_of frames i)

abbrev pub ForceTied : Type 0
ForceTied = (P T N : ℕ) (X : Images) (f : Third) (m : ℕ) (rs : List Rec) (σ : Disk) (log : LogPlace) (frames : List Frame)
    → Up P T N X f m rs σ → Tied P T X f m rs log frames → log.next < 2 ^ 32 → any_changed frames ≡ true → Forced P T X f m rs log frames

abbrev pub NothingForced : Type 0
NothingForced = (P T : ℕ) (X : Images) (f : Third) (m : ℕ) (rs : List Rec) (log : LogPlace) (frames : List Frame)
    → Tied P T X f m rs log frames → any_changed frames ≡ false → (force_writes P T log frames ≡ []) × ((i : ℕ) → i < P → now_of frames i ≡ X i)
