-- What the sectors of a volume say while it is down, and while it is up.
--     Span            a least and a greatest number
--     Within          a number is between them
--     just            between a number and itself
--     one_more        the greatest number is one more
--     Wider           the second span is at least as wide
--     Marks           every head and every end has a number below this one
--     Shows           from this anchor recovery finds these records and misses this number, reads these images, and the number is within the span
--     Sound           it does so with some records and some number
--     header_in       the header in a sector of a disk of so many sectors, if it is right
--     Headed          a header that can be read is the volume's
--     Anchored        an anchor that can be read is sound
--     Twins           two copies, each of them good, and not both unreadable
--     Down            what the sectors say while the volume is down: its settled images, and the span of the number that is missing in the log
--     Core            the live records and the homes, whole
--     Up              what they say while the volume is up: its forced images, its anchored third, the number of the first record there, and the live records
--     Formatted       a volume as formatting leaves it: its headers, its anchors and its homes are written, and no head and no end is anywhere
--     FormattedUp     it is up, with an empty log
--     WiderDown       what is so with a span is so with a wider one
--     HomesOnly       images that differ in no page are the images of the same volumes, down and up
--     SpoilLeaves     two adjacent sectors of an up volume are lost: its images can be recovered
use Rattle.std.specs.Prelude.{◌≡◌, ℕ, ◌+◌, ◌^◌, ◌<◌, ◌≤◌, ◌⊎◌, List, [], length, None, Option}
use Rattle.std.specs.List.{AllByRecursion}
use Rattle.disk.specs.Sectors.{Sector, unreadable, holds}
use Rattle.geometry.specs.Places.{Good, first_homes, second_homes}
use Rattle.geometry.specs.declared.third.Third.{Third}
use Rattle.geometry.specs.declared.third.Third.TheVariants.{Zero}
use Rattle.layout.specs.Headers.{decode_header}
use Rattle.layout.specs.declared.header.Header.{Header}
use Rattle.thirds.specs.Words.{anchor, head, end, word_of, says, Calm, anchor_bytes, header_bytes, Disk, Images}
use Rattle.thirds.specs.Cuts.{Worn}
use Rattle.thirds.specs.Records.{start, Rec, Whole}
use Rattle.thirds.specs.Search.{Log, Laid, Named}
use Rattle.thirds.specs.Homes.{newest, Pictured, Side}

pub record Span : Type 0 where
  pub least : ℕ
  pub greatest : ℕ

abbrev pub Within : Span → ℕ → Type 0
Within h s = (h.least ≤ s) × (s ≤ h.greatest)

abbrev pub just : ℕ → Span
just n = record { least = n; greatest = n }

abbrev pub one_more : Span → Span
one_more h = record { least = h.least; greatest = h.greatest + 1 }

abbrev pub Wider : Span → Span → Type 0
Wider h g = (g.least ≤ h.least) × (h.greatest ≤ g.greatest)

pub record Marks (P : ℕ) (σ : Disk) (s : ℕ) : Type 0 where
  pub of-heads : (u m : ℕ) (ns : List ℕ) → says P (σ u) ≡ head m ns → m < s
  pub of-ends : (u m n : ℕ) → says P (σ u) ≡ end m n → m < s

pub record Shows (P T : ℕ) (X : Images) (h : Span) (σ : Disk) (f : Third) (m : ℕ) (rs : List Rec) (s : ℕ) : Type 0 where
  pub found : Log P T σ f f (start T f) m rs s
  pub pictured : (i : ℕ) → i < P → Pictured (newest rs i) (σ (first_homes T + i)) (σ (second_homes P T + i)) (X i)
  pub marks : Marks P σ (s + 1)
  pub within : Within h s

abbrev pub Sound : ℕ → ℕ → Images → Span → Disk → Third → ℕ → Type 0
Sound P T X h σ f m = (rs : List Rec) × (s : ℕ) × Shows P T X h σ f m rs s

abbrev pub header_in : ℕ → Sector → Option Header
header_in N unreadable = None
header_in N (holds bytes) = decode_header N bytes

abbrev pub Headed : ℕ → ℕ → ℕ → Sector → Type 0
Headed P T N x = (x ≡ unreadable) ⊎ (x ≡ holds (header_bytes P T N))

abbrev pub Anchored : ℕ → ℕ → Images → Span → Disk → Sector → Type 0
Anchored P T X h σ x = (x ≡ unreadable) ⊎ ((f : Third) × (m : ℕ) × (says P x ≡ anchor f m) × (m < 2 ^ 32) × Sound P T X h σ f m)

pub record Twins (G : Sector → Type 0) (x y : Sector) : Type 0 where
  pub one : G x
  pub two : G y
  pub either : (x ≡ unreadable → ⊥) ⊎ (y ≡ unreadable → ⊥)

pub record Down (P T N : ℕ) (X : Images) (h : Span) (σ : Disk) : Type 0 where
  pub good : Good P T N × (N < 2 ^ 32)
  pub headers : Twins (Headed P T N) (σ 0) (σ 2)
  pub anchors : Twins (Anchored P T X h σ) (σ 4) (σ 6)
  pub sides : Side P (first_homes T) σ ⊎ Side P (second_homes P T) σ
  pub calm : (i : ℕ) → i < P → Calm (word_of P (X i))

pub record Core (P T : ℕ) (X : Images) (f : Third) (m : ℕ) (rs : List Rec) (σ : Disk) : Type 0 where
  pub laid : Laid T f f (start T f) m rs
  pub whole : AllByRecursion (Whole P T σ) rs
  pub named : AllByRecursion (Named P σ) rs
  pub pictured : (i : ℕ) → i < P → Pictured (newest rs i) (σ (first_homes T + i)) (σ (second_homes P T + i)) (X i)

pub record Up (P T N : ℕ) (X : Images) (f : Third) (m : ℕ) (rs : List Rec) (σ : Disk) : Type 0 where
  pub good : Good P T N × (N < 2 ^ 32)
  pub headers : (σ 0 ≡ holds (header_bytes P T N)) × (σ 2 ≡ holds (header_bytes P T N))
  pub anchors : (says P (σ 4) ≡ anchor f m) × (says P (σ 6) ≡ anchor f m)
  pub small : m < 2 ^ 32
  pub core : Core P T X f m rs σ
  pub marks : Marks P σ (m + length rs)
  pub sides : Side P (first_homes T) σ × Side P (second_homes P T) σ
  pub calm : (i : ℕ) → i < P → Calm (word_of P (X i))

pub record Formatted (P T N : ℕ) (X : Images) (σ : Disk) : Type 0 where
  pub good : Good P T N × (N < 2 ^ 32)
  pub headers : (σ 0 ≡ holds (header_bytes P T N)) × (σ 2 ≡ holds (header_bytes P T N))
  pub anchors : (σ 4 ≡ holds (anchor_bytes Zero 1)) × (σ 6 ≡ holds (anchor_bytes Zero 1))
  pub homes : (i : ℕ) → i < P → (σ (first_homes T + i) ≡ holds (X i)) × (σ (second_homes P T + i) ≡ holds (X i))
  pub calm : (i : ℕ) → i < P → Calm (word_of P (X i))
  pub no-record : (u : ℕ) → Calm (says P (σ u))

abbrev pub FormattedUp : Type 0
FormattedUp = (P T N : ℕ) (X : Images) (σ : Disk) → Formatted P T N X σ → Up P T N X Zero 1 [] σ

abbrev pub WiderDown : Type 0
WiderDown = (P T N : ℕ) (X : Images) (h g : Span) (σ : Disk) → Wider h g → Down P T N X h σ → Down P T N X g σ

abbrev pub HomesOnly : Type 0
HomesOnly = (P T N : ℕ) (W X : Images) (σ : Disk) → ((i : ℕ) → i < P → X i ≡ W i)
    → ((h : Span) → Down P T N W h σ → Down P T N X h σ) × ((f : Third) (m : ℕ) (rs : List Rec) → Up P T N W f m rs σ → Up P T N X f m rs σ)

abbrev pub SpoilLeaves : Type 0
SpoilLeaves = (P T N t : ℕ) (X : Images) (f : Third) (m : ℕ) (rs : List Rec) (σ τ : Disk) → Up P T N X f m rs σ → Worn t σ τ → Down P T N X (just (m + length rs)) τ
