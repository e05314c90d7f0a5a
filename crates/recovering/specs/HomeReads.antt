-- The homes of the pages, read.
--     is_lost           whether a sector cannot be read
--     image_of_record   bytes, if a record holds them
--     recorded          the image that a page's records gave its frame, if it has a record
--     HomeRead          one page's frame: its newest record's image, else its first home's, else its second's
--     NoImage           a page has no image anywhere
--     PageRead          one page's homes are read: its frame, and which of the two cannot be read; or the page has no image
--     AllRead           each page's, and which homes cannot be read
--     FirstWithNone     the first such page
--     HomesRead         all homes are read; or 13 names the first page with no image
use Rattle.std.specs.Prelude.{◌≡◌, ℕ, ◌+◌, ◌<◌, Bool, true, false, List, length, Some, None, Option, Ok, Err, Result, slice_index_or}
use Rattle.disk.specs.Sectors.{Sector, unreadable, holds, DiskState}
use Rattle.disk.specs.declared.faults.Fault.{Fault}
use Rattle.disk.specs.declared.faults.Fault.TheVariants as fault
use Rattle.frames.specs.Frames.{none_held}
use Rattle.frames.specs.declared.frame.Frame.{Frame}
use Rattle.geometry.specs.Places.{first_homes, second_homes}
use Rattle.geometry.specs.declared.third.Third.{Third}
use Rattle.recovering.specs.declared.homes.LostHomes.{LostHomes}
use Rattle.refusal.specs.declared.Refusal.{Refusal}
use Rattle.refusal.specs.declared.Refusal.TheVariants.{RegisterBroken, PowerOff}
use Rattle.searching.specs.Looks.{ReadBetween}
use Rattle.thirds.specs.Words.{on}
use Rattle.thirds.specs.Homes.{ReadImage}

abbrev pub is_lost : Sector → Bool
is_lost unreadable = true
is_lost (holds bytes) = false

abbrev pub image_of_record : Option Third → List ℕ → Option (List ℕ)
image_of_record None bytes = None
image_of_record (Some k) bytes = Some bytes

abbrev pub recorded : Frame → Option (List ℕ)
recorded f = image_of_record f.third f.forced

-- what a page's frame holds after its homes a and b were read
pub record HomeRead (f : Frame) (a b : Sector) (g : Frame) : Type 0 where
  pub image : ReadImage (recorded f) a b g.forced
  pub now : g.now ≡ g.forced
  pub same : g.changed ≡ false
  pub third : g.third ≡ f.third

-- neither its records nor its homes have an image of the page
abbrev pub NoImage : Frame → Sector → Sector → Type 0
NoImage f a b = (recorded f ≡ None) × (a ≡ unreadable) × (b ≡ unreadable)

-- homes a and b of a page, whose frame was f and is g
abbrev pub PageRead : ℕ → ℕ → DiskState → Frame → Result (Option (Bool × Bool)) Fault → DiskState → Frame → Type 0
PageRead a b d f (Ok (Some lost)) e g =
    (e ≡ d) × HomeRead f (on d.sectors a) (on d.sectors b) g × (lost.0 ≡ is_lost (on d.sectors a)) × (lost.1 ≡ is_lost (on d.sectors b))
PageRead a b d f (Ok None) e g = (e ≡ d) × NoImage f (on d.sectors a) (on d.sectors b)
PageRead a b d f (Err x) e g = ReadBetween a b d x e

pub record AllRead (P T : ℕ) (d : DiskState) (frames : List Frame) (lost : LostHomes) (later : List Frame) : Type 0 where
  pub long : length later ≡ length frames
  pub each : (i : ℕ) → i < P → HomeRead (slice_index_or frames i none_held) (on d.sectors (first_homes T + i)) (on d.sectors (second_homes P T + i)) (slice_index_or later i none_held)
  pub first : (i : ℕ) → i < P → slice_index_or lost.first i false ≡ is_lost (on d.sectors (first_homes T + i))
  pub second : (i : ℕ) → i < P → slice_index_or lost.second i false ≡ is_lost (on d.sectors (second_homes P T + i))

pub record FirstWithNone (P T : ℕ) (d : DiskState) (frames : List Frame) (page : ℕ) : Type 0 where
  pub page-exists : page < P
  pub none : NoImage (slice_index_or frames page none_held) (on d.sectors (first_homes T + page)) (on d.sectors (second_homes P T + page))
  pub before : (i : ℕ) → i < page → NoImage (slice_index_or frames i none_held) (on d.sectors (first_homes T + i)) (on d.sectors (second_homes P T + i)) → ⊥

abbrev pub HomesRead : ℕ → ℕ → DiskState → List Frame → Result LostHomes Refusal → DiskState → List Frame → Type 0
HomesRead P T d frames (Ok lost) e later = (e ≡ d) × AllRead P T d frames lost later
HomesRead P T d frames (Err (RegisterBroken page)) e later = (e ≡ d) × FirstWithNone P T d frames page × (length later ≡ length frames)
HomesRead P T d frames (Err (PowerOff s)) e later = ReadBetween (first_homes T) (second_homes P T + P) d (fault.PowerOff s) e × (length later ≡ length frames)
HomesRead P T d frames (Err x) e later = ⊥
