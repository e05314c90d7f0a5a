-- What recovery reads of a volume that can be recovered, and what a format leaves.
--     SeesPlan         the volume's own numbers, the settled images, a missing number within the span, and the writes of the plan
--     RecoverySees     recovery reads that of every volume that can be recovered
--     images_of        the images of a list, page by page
--     RecoveryFinds    it refuses for no reason but that the power failed
--     FormatLies       what a format writes lies inside
--     FormatLeaves     what formatting leaves is a formatted volume with these images
use Rattle.std.specs.Prelude.{◌≡◌, ℕ, ◌+◌, ◌^◌, ◌<◌, false, List, [], length, Err, slice_index_or}
use Rattle.disk.specs.Sectors.{DiskState, count}
use Rattle.disk.specs.WriteLists.{Done}
use Rattle.frames.specs.Frames.{forced_of}
use Rattle.frames.specs.declared.frame.Frame.{Frame}
use Rattle.journal.specs.Formats.{FormatGood, format_writes}
use Rattle.recovering.specs.Volumes.{Seen, VolumeSeen, seen_writes}
use Rattle.recovering.specs.declared.volume.SeenVolume.{SeenVolume}
use Rattle.refusal.specs.declared.Refusal.{Refusal}
use Rattle.refusal.specs.declared.Refusal.TheVariants.{PowerOff}
use Rattle.thirds.specs.Disks.{Lies, system}
use Rattle.thirds.specs.Words.{Images, on}
use Rattle.thirds.specs.Volumes.{Span, Within, Down, Formatted}
use Rattle.thirds.specs.Recovery.{Plan}

pub record SeesPlan (P T : ℕ) (W : Images) (h : Span) (d : DiskState) (v : SeenVolume) (frames : List Frame) (s : Seen (on d.sectors) (count d) v frames) : Type 0 where
  pub pages : v.geometry.pages ≡ P
  pub third : v.geometry.third ≡ T
  pub images : (i : ℕ) → i < P → forced_of frames i ≡ W i
  pub within : Within h v.missing
  pub plan : v.missing + 1 < 2 ^ 32 → Plan P T (count d) (system P T d.sectors) (forced_of frames) v.missing (seen_writes (on d.sectors) v s.log (forced_of frames))

abbrev pub RecoverySees : Type 0
RecoverySees = (P T : ℕ) (W : Images) (h : Span) (d : DiskState) → Down P T (count d) W h (system P T d.sectors)
    → (v : SeenVolume) (frames : List Frame) (s : Seen (on d.sectors) (count d) v frames) → SeesPlan P T W h d v frames s

abbrev pub RecoveryFinds : Type 0
RecoveryFinds = (P T : ℕ) (W : Images) (h : Span) (d e : DiskState) (x : Refusal) (frames : List Frame) → Down P T (count d) W h (system P T d.sectors)
    → VolumeSeen d (Err x) e frames → ((p : ℕ) × (x ≡ PowerOff p)) × (e.power ≡ false) × (e.sectors ≡ d.sectors)

abbrev pub images_of : List (List ℕ) → Images
images_of images i = slice_index_or images i []

abbrev pub FormatLies : Type 0
FormatLies = (T N : ℕ) (images : List (List ℕ)) → Lies (length images) T (format_writes (length images) T N images)

abbrev pub FormatLeaves : Type 0
FormatLeaves = (T : ℕ) (images : List (List ℕ)) (d e : DiskState) → FormatGood T images (count d) → count d < 2 ^ 32 → Done (format_writes (length images) T (count d) images) d e
    → Formatted (length images) T (count d) (images_of images) (system (length images) T e.sectors)
