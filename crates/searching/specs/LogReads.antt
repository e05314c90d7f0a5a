-- The log as it is read, and the frames that its images are read into.
--     kept            a frame, or what it becomes if its page has a record: the newest image, and the third with it
--     TakesIn         each page's frame after the images of records were read, oldest first
--     TakenIn         the frames after the images of one record that stands were read
--     SeatSeen        the next record of the log: at its place, or at the start of the next third unless that is the anchored one
--     LogRead         the whole log is read from an anchor on: its records, the missing number, and the frames
use Rattle.std.specs.Prelude.{◌≡◌, ℕ, ◌+◌, ◌*◌, ◌<◌, false, List, length, Some, None, Option, Ok, Err, Result, ◌≢◌, slice_index_or}
use Rattle.disk.specs.Sectors.{DiskState}
use Rattle.disk.specs.declared.faults.Fault.{Fault}
use Rattle.frames.specs.Frames.{none_held}
use Rattle.frames.specs.declared.frame.Frame.{Frame}
use Rattle.geometry.specs.Thirds.{next_of}
use Rattle.geometry.specs.declared.third.Third.{Third}
use Rattle.searching.specs.Looks.{ReadBetween, listed, Told}
use Rattle.searching.specs.declared.record.FoundRecord.{FoundRecord}
use Rattle.thirds.specs.Words.{on}
use Rattle.thirds.specs.Records.{start, Rec, ImagesAt, Absent}
use Rattle.thirds.specs.Reading.{paired}
use Rattle.thirds.specs.Search.{Found, Log}
use Rattle.thirds.specs.Homes.{image_in, newest, holder}

abbrev pub kept : Option (List ℕ) → Option Third → Frame → Frame
kept None k f = f
kept (Some x) k f = record { now = x; forced = x; changed = false; third = k }

pub record TakesIn (rs : List Rec) (frames later : List Frame) : Type 0 where
  pub long : length later ≡ length frames
  pub each : (i : ℕ) → i < length frames → slice_index_or later i none_held ≡ kept (newest rs i) (holder rs i) (slice_index_or frames i none_held)

abbrev pub TakenIn : FoundRecord → DiskState → List Frame → Result (Unit {0}) Fault → DiskState → List Frame → Type 0
TakenIn r d frames (Ok _) e later =
    (e ≡ d) × (length later ≡ length frames)
    × ((xs : List (List ℕ)) → length xs ≡ r.head.count → ImagesAt (on d.sectors) (r.place + 3) (r.place + 4 + r.head.count) (paired (listed r.head) xs)
    → (i : ℕ) → i < length frames → slice_index_or later i none_held ≡ kept (image_in (paired (listed r.head) xs) i) (Some r.third) (slice_index_or frames i none_held))
TakenIn r d frames (Err x) e later = ReadBetween (r.place + 3) (r.place + 4 + 2 * r.head.count) d x e × (length later ≡ length frames)

abbrev pub SeatSeen : ℕ → ℕ → Third → Third → ℕ → ℕ → DiskState → Result (Option FoundRecord) Fault → DiskState → Type 0
SeatSeen P T f k p m d (Ok (Some r)) e =
    (e ≡ d) × Told P m r.head
    × ((xs : List (List ℕ)) × (length xs ≡ r.head.count) × Found P T (on d.sectors) f k p m (record { third = r.third; place = r.place; number = m; pages = paired (listed r.head) xs }))
SeatSeen P T f k p m d (Ok None) e =
    (e ≡ d) × Absent P T (on d.sectors) k p m × ((next_of k ≢ f) → Absent P T (on d.sectors) (next_of k) (start T (next_of k)) m)
SeatSeen P T f k p m d (Err x) e = ReadBetween 8 (10 + T + T + T) d x e

abbrev pub LogRead : ℕ → ℕ → Third → ℕ → DiskState → List Frame → Result ℕ Fault → DiskState → List Frame → Type 0
LogRead P T f m d frames (Ok s) e later = (e ≡ d) × ((rs : List Rec) × Log P T (on d.sectors) f f (start T f) m rs s × TakesIn rs frames later)
LogRead P T f m d frames (Err x) e later = ReadBetween 8 (10 + T + T + T) d x e × (length later ≡ length frames)
