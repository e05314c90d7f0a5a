-- What recovery sees of one record, test by test, and whether the record is there.
--     ReadBetween     why a read answered 9: at which sector of a range; no sector has changed
--     listed          the page numbers that a head lists
--     Told            what a right head of this number tells
--     HeadSeen        the head of this number in a sector, if it is right
--     FirstHeadSeen   the first right head of this number at a place
--     EndSeen         whether a sector is the end of this number and so many pages
--     EndsSeen        whether one of a record's ends is right
--     CopySeen        whether one of two sectors can be read, and the bytes of the first one that can
--     CopiesSeen      whether each page of a record can be read in one of its two places
--     ReadOfRecord    why a read of a record answered 9: at a sector of a head, or before its third's end; no sector has changed
--     RecordSeen      the head of the record that is there; none if no such record is
use Rattle.std.specs.Prelude.{◌≡◌, ℕ, ◌+◌, ◌<◌, ◌≤◌, ◌⊎◌, Bool, true, false, List, length, take, Some, None, Option, Ok, Err, Result}
use Rattle.disk.specs.Sectors.{unreadable, DiskState}
use Rattle.disk.specs.declared.faults.Fault.{Fault}
use Rattle.geometry.specs.declared.third.Third.{Third}
use Rattle.layout.specs.Heads.{HeadFits}
use Rattle.layout.specs.declared.head.RecordHead.{RecordHead}
use Rattle.thirds.specs.Words.{head, end, says, on}
use Rattle.thirds.specs.Records.{start, HeadAt, Stands, Absent}
use Rattle.thirds.specs.Reading.{paired, Copied}
use Rattle.working.specs.Values.{ReadLost}

abbrev pub ReadBetween : ℕ → ℕ → DiskState → Fault → DiskState → Type 0
ReadBetween lo hi d x e = (s : ℕ) × (lo ≤ s) × (s ≤ hi) × ReadLost s d x e

abbrev pub listed : RecordHead → List ℕ
listed h = take h.count h.pages

-- a head that was decoded has the number of pages that it counts, and rising ones below P
abbrev pub Told : ℕ → ℕ → RecordHead → Type 0
Told P m h = (h.group ≡ m) × HeadFits P h

abbrev pub HeadSeen : ℕ → ℕ → ℕ → DiskState → Result (Option RecordHead) Fault → DiskState → Type 0
HeadSeen P s m d (Ok (Some h)) e = (d.power ≡ true) × (e ≡ d) × (says P (on d.sectors s) ≡ head m (listed h)) × Told P m h
HeadSeen P s m d (Ok None) e = (d.power ≡ true) × (e ≡ d) × ((ks : List ℕ) → says P (on d.sectors s) ≡ head m ks → ⊥)
HeadSeen P s m d (Err x) e = ReadLost s d x e

abbrev pub FirstHeadSeen : ℕ → ℕ → ℕ → DiskState → Result (Option RecordHead) Fault → DiskState → Type 0
FirstHeadSeen P p m d (Ok (Some h)) e = (d.power ≡ true) × (e ≡ d) × HeadAt P (on d.sectors) p m (listed h) × Told P m h
FirstHeadSeen P p m d (Ok None) e =
    (d.power ≡ true) × (e ≡ d) × ((ks : List ℕ) → says P (on d.sectors p) ≡ head m ks → ⊥) × ((ks : List ℕ) → says P (on d.sectors (p + 2)) ≡ head m ks → ⊥)
FirstHeadSeen P p m d (Err x) e = ReadBetween p (p + 2) d x e

abbrev pub EndSeen : ℕ → ℕ → ℕ → ℕ → DiskState → Result Bool Fault → DiskState → Type 0
EndSeen P s m n d (Ok true) e = (d.power ≡ true) × (e ≡ d) × (says P (on d.sectors s) ≡ end m n)
EndSeen P s m n d (Ok false) e = (d.power ≡ true) × (e ≡ d) × (says P (on d.sectors s) ≡ end m n → ⊥)
EndSeen P s m n d (Err x) e = ReadLost s d x e

-- in sectors a and b
abbrev pub EndsSeen : ℕ → ℕ → ℕ → ℕ → ℕ → DiskState → Result Bool Fault → DiskState → Type 0
EndsSeen P a b m n d (Ok true) e = (d.power ≡ true) × (e ≡ d) × ((says P (on d.sectors a) ≡ end m n) ⊎ (says P (on d.sectors b) ≡ end m n))
EndsSeen P a b m n d (Ok false) e = (d.power ≡ true) × (e ≡ d) × (says P (on d.sectors a) ≡ end m n → ⊥) × (says P (on d.sectors b) ≡ end m n → ⊥)
EndsSeen P a b m n d (Err x) e = ReadBetween a b d x e

abbrev pub CopySeen : ℕ → ℕ → DiskState → Result Bool Fault → DiskState → List ℕ → Type 0
CopySeen a b d (Ok true) e image = (d.power ≡ true) × (e ≡ d) × Copied (on d.sectors) a b image
CopySeen a b d (Ok false) e image = (d.power ≡ true) × (e ≡ d) × (on d.sectors a ≡ unreadable) × (on d.sectors b ≡ unreadable)
CopySeen a b d (Err x) e image = ReadBetween a b d x e

-- n pages from sector a on, and again from sector b on
abbrev pub CopiesSeen : ℕ → ℕ → ℕ → DiskState → Result Bool Fault → DiskState → Type 0
CopiesSeen a b n d (Ok true) e = (d.power ≡ true) × (e ≡ d) × ((j : ℕ) → j < n → (on d.sectors (a + j) ≡ unreadable → ⊥) ⊎ (on d.sectors (b + j) ≡ unreadable → ⊥))
CopiesSeen a b n d (Ok false) e = (d.power ≡ true) × (e ≡ d) × ((j : ℕ) × (j < n) × (on d.sectors (a + j) ≡ unreadable) × (on d.sectors (b + j) ≡ unreadable))
CopiesSeen a b n d (Err x) e = ReadBetween a (b + n) d x e

abbrev pub ReadOfRecord : ℕ → Third → ℕ → DiskState → Fault → DiskState → Type 0
ReadOfRecord T k p d x e = (s : ℕ) × (p ≤ s) × (s ≤ p + 46) × ((s ≤ p + 2) ⊎ (s < start T k + T)) × ReadLost s d x e

abbrev pub RecordSeen : ℕ → ℕ → Third → ℕ → ℕ → DiskState → Result (Option RecordHead) Fault → DiskState → Type 0
RecordSeen P T k p m d (Ok (Some h)) e =
    (d.power ≡ true) × (e ≡ d) × Told P m h
    × ((xs : List (List ℕ)) × (length xs ≡ h.count) × Stands P T (on d.sectors) (record { third = k; place = p; number = m; pages = paired (listed h) xs }))
RecordSeen P T k p m d (Ok None) e = (d.power ≡ true) × (e ≡ d) × Absent P T (on d.sectors) k p m
RecordSeen P T k p m d (Err x) e = ReadOfRecord T k p d x e
