-- What recovery has read of a volume when it begins to write, and why it refuses.
--     Seen            header, anchor, log, images and homes, as the plan of recovery has them
--     seen_writes     the writes that follow from them
--     Lacks           why there is no volume: no header is right, or no anchor
--     LostAre         the homes of both sides that cannot be read are those that are marked
--     FirstUnread     the first page with no image in this log and in its homes
--     NoPage          the first page with no image
--     PagesSeen       log, images and homes, as they are read from an anchor on
--     PagesRead       those, or the refusal
--     ReadAt          a sector that recovery reads; 0 is also named where the power failed at the start
--     VolumeSeen      what was read, or the refusal
use Rattle.std.specs.Prelude.{◌≡◌, ℕ, ◌+◌, ◌<◌, ◌≤◌, ◌⊎◌, true, false, List, ◌++◌, None, Ok, Err, Result, slice_index_or}
use Rattle.disk.specs.Sectors.{DiskState, count}
use Rattle.disk.specs.WriteLists.{Write}
use Rattle.disk.specs.declared.faults.Fault.TheVariants as fault
use Rattle.frames.specs.Frames.{none_held, forced_of}
use Rattle.frames.specs.declared.frame.Frame.{Frame}
use Rattle.geometry.specs.Places.{first_homes, second_homes}
use Rattle.geometry.specs.declared.third.Third.{Third}
use Rattle.geometry.specs.declared.third.Third.TheVariants.{Zero}
use Rattle.layout.specs.Anchors.{encode_anchor}
use Rattle.layout.specs.Headers.{encode_header}
use Rattle.recovering.specs.Copies.{written_of}
use Rattle.recovering.specs.HomeReads.{is_lost}
use Rattle.recovering.specs.declared.homes.LostHomes.{LostHomes}
use Rattle.recovering.specs.declared.volume.SeenVolume.{SeenVolume}
use Rattle.refusal.specs.declared.Refusal.{Refusal}
use Rattle.refusal.specs.declared.Refusal.TheVariants.{RegisterBroken, PowerOff, NoVolume}
use Rattle.searching.specs.Looks.{ReadBetween}
use Rattle.thirds.specs.Words.{Disk, Images, on}
use Rattle.thirds.specs.Records.{start, Rec}
use Rattle.thirds.specs.Search.{Log}
use Rattle.thirds.specs.Homes.{newest, holder, mend, redo, ReadImage}
use Rattle.thirds.specs.Volumes.{header_in}
use Rattle.thirds.specs.Recovery.{HeaderWrites, NoAnchor, AnchorWrites, both_anchors}

-- σ the sectors, frames the first P frames afterwards
pub record Seen (σ : Disk) (N : ℕ) (v : SeenVolume) (frames : List Frame) : Type 0 where
  pub log : List Rec
  pub sectors : v.header.value.sectors ≡ N
  pub numbers : (v.geometry.pages ≡ v.header.value.pages) × (v.geometry.third ≡ v.header.value.third) × (v.geometry.sectors ≡ N)
  pub headers : HeaderWrites v.geometry.pages v.geometry.third N σ (written_of v.header.bad (encode_header v.header.value))
  pub anchors : AnchorWrites v.geometry.pages σ v.anchor.value.third v.anchor.value.group (written_of v.anchor.bad (encode_anchor v.anchor.value))
  pub found : Log v.geometry.pages v.geometry.third σ v.anchor.value.third v.anchor.value.third (start v.geometry.third v.anchor.value.third) v.anchor.value.group log v.missing
  pub images : (i : ℕ) → i < v.geometry.pages → ReadImage (newest log i) (σ (first_homes v.geometry.third + i)) (σ (second_homes v.geometry.pages v.geometry.third + i)) (forced_of frames i)
  pub thirds : (i : ℕ) → i < v.geometry.pages → (slice_index_or frames i none_held).third ≡ holder log i
  pub same : (i : ℕ) → i < v.geometry.pages → ((slice_index_or frames i none_held).now ≡ forced_of frames i) × ((slice_index_or frames i none_held).changed ≡ false)
  pub first : (i : ℕ) → i < v.geometry.pages → slice_index_or v.lost.first i false ≡ is_lost (σ (first_homes v.geometry.third + i))
  pub second : (i : ℕ) → i < v.geometry.pages → slice_index_or v.lost.second i false ≡ is_lost (σ (second_homes v.geometry.pages v.geometry.third + i))

abbrev pub seen_writes : Disk → SeenVolume → List Rec → Images → List Write
seen_writes σ v log X =
    written_of v.header.bad (encode_header v.header.value) ++ (written_of v.anchor.bad (encode_anchor v.anchor.value)
    ++ ((mend σ X (first_homes v.geometry.third) v.geometry.pages ++ mend σ X (second_homes v.geometry.pages v.geometry.third) v.geometry.pages)
    ++ (redo log X (first_homes v.geometry.third) (second_homes v.geometry.pages v.geometry.third) v.geometry.pages ++ both_anchors Zero (v.missing + 1))))

abbrev pub Lacks : Disk → ℕ → Type 0
Lacks σ N =
    ((header_in N (σ 0) ≡ None) × (header_in N (σ 2) ≡ None))
    ⊎ ((P : ℕ) × (T : ℕ) × (ws : List Write) × HeaderWrites P T N σ ws × NoAnchor P (σ 4) × NoAnchor P (σ 6))

-- n pages, from sector a on, and again from sector b on
abbrev pub LostAre : Disk → LostHomes → ℕ → ℕ → ℕ → Type 0
LostAre σ lost a b n =
    (i : ℕ) → i < n → (slice_index_or lost.first i false ≡ is_lost (σ (a + i))) × (slice_index_or lost.second i false ≡ is_lost (σ (b + i)))

pub record FirstUnread (P T : ℕ) (σ : Disk) (log : List Rec) (page : ℕ) : Type 0 where
  pub none : (x : List ℕ) → ReadImage (newest log page) (σ (first_homes T + page)) (σ (second_homes P T + page)) x → ⊥
  pub before : (i : ℕ) → i < page → (x : List ℕ) × ReadImage (newest log i) (σ (first_homes T + i)) (σ (second_homes P T + i)) x

pub record NoPage (σ : Disk) (N page : ℕ) : Type 0 where
  pub pages : ℕ
  pub third : ℕ
  pub headers : (ws : List Write) × HeaderWrites pages third N σ ws
  pub first : Third
  pub number : ℕ
  pub anchors : (ws : List Write) × AnchorWrites pages σ first number ws
  pub log : List Rec
  pub missing : ℕ
  pub found : Log pages third σ first first (start third first) number log missing
  pub exists : page < pages
  pub none : (x : List ℕ) → ReadImage (newest log page) (σ (first_homes third + page)) (σ (second_homes pages third + page)) x → ⊥
  pub before : (i : ℕ) → i < page → (x : List ℕ) × ReadImage (newest log i) (σ (first_homes third + i)) (σ (second_homes pages third + i)) x

pub record PagesSeen (P T : ℕ) (σ : Disk) (f : Third) (m s : ℕ) (lost : LostHomes) (frames : List Frame) : Type 0 where
  pub log : List Rec
  pub found : Log P T σ f f (start T f) m log s
  pub images : (i : ℕ) → i < P → ReadImage (newest log i) (σ (first_homes T + i)) (σ (second_homes P T + i)) (forced_of frames i)
  pub thirds : (i : ℕ) → i < P → (slice_index_or frames i none_held).third ≡ holder log i
  pub same : (i : ℕ) → i < P → ((slice_index_or frames i none_held).now ≡ forced_of frames i) × ((slice_index_or frames i none_held).changed ≡ false)
  pub first : (i : ℕ) → i < P → slice_index_or lost.first i false ≡ is_lost (σ (first_homes T + i))
  pub second : (i : ℕ) → i < P → slice_index_or lost.second i false ≡ is_lost (σ (second_homes P T + i))

-- d the disk before the call, e after it
abbrev pub PagesRead : ℕ → ℕ → Third → ℕ → DiskState → Result (ℕ × LostHomes) Refusal → DiskState → List Frame → Type 0
PagesRead P T f m d (Ok found) e frames = (e ≡ d) × PagesSeen P T (on d.sectors) f m found.0 found.1 frames
PagesRead P T f m d (Err (RegisterBroken page)) e frames =
    (e ≡ d) × (page < P) × ((log : List Rec) × (s : ℕ) × Log P T (on d.sectors) f f (start T f) m log s × FirstUnread P T (on d.sectors) log page)
PagesRead P T f m d (Err (PowerOff s)) e frames = ReadBetween 8 (second_homes P T + P) d (fault.PowerOff s) e
PagesRead P T f m d (Err x) e frames = ⊥

-- a header or an anchor, or else of the volume that the header tells of a sector of its log or a home
abbrev pub ReadAt : Disk → ℕ → ℕ → Type 0
ReadAt σ N s = (s ≤ 6) ⊎ ((P : ℕ) × (T : ℕ) × (ws : List Write) × HeaderWrites P T N σ ws × (8 ≤ s) × (s ≤ second_homes P T + P))

abbrev pub VolumeSeen : DiskState → Result SeenVolume Refusal → DiskState → List Frame → Type 0
VolumeSeen d (Ok v) e frames = (e.power ≡ true) × (e.sectors ≡ d.sectors) × Seen (on d.sectors) (count d) v frames
VolumeSeen d (Err (PowerOff s)) e frames = (e.power ≡ false) × (e.sectors ≡ d.sectors) × ReadAt (on d.sectors) (count d) s
VolumeSeen d (Err NoVolume) e frames = (e.power ≡ true) × (e.sectors ≡ d.sectors) × Lacks (on d.sectors) (count d)
VolumeSeen d (Err (RegisterBroken page)) e frames = (e.power ≡ true) × (e.sectors ≡ d.sectors) × NoPage (on d.sectors) (count d) page
VolumeSeen d (Err x) e frames = ⊥
