-- From the calls of a disk to a disk as a function: the sectors that a volume uses below its data.
--     unused            1 and 3, and the sector behind each row of homes: no call of a volume ever writes there, nor does formatting
--     hide              the sectors of a list, with these unreadable
--     system            the sectors below the data, without the unused ones
--     Inside            a sector below the data, not the last one there, and none of the unused
--     Lies              all writes go to such sectors
--     DoneGoes          writes that a disk has done are done there
--     StoppedTears      writes of which a disk refused one are cut there; the refusal is 9
--     SystemIs          what a sector inside says there is what it says on the disk
--     SystemLost        a sector that is lost on the disk is lost there, if it is seen there at all
--     DataUnseen        a write to the data changes nothing there
--     DataCutUnseen     nor does one in which the power fails
--     DataRests         writes that lie inside change nothing from the data's start on
--     DataOutlives      nor do they if the power fails in one
--     PlanLies          what recovery writes lies inside
--     ForcesLie         and so does what a force writes
use Rattle.std.specs.Prelude.{◌≡◌, ℕ, ◌+◌, ◌<◌, ◌≤◌, ◌⊎◌, true, false, List, [], ◌∷◌, take, slice_set, slice_index_or, ◌≢◌}
use Rattle.std.specs.List.{AllByRecursion}
use Rattle.disk.specs.Sectors.{Sector, unreadable, DiskState, count}
use Rattle.disk.specs.Rules.{Cut}
use Rattle.disk.specs.WriteLists.{Write, Done, Stopped}
use Rattle.disk.specs.declared.faults.Fault.{Fault}
use Rattle.disk.specs.declared.faults.Fault.TheVariants.{PowerOff}
use Rattle.geometry.specs.Places.{first_homes, second_homes, data_start}
use Rattle.geometry.specs.declared.third.Third.{Third}
use Rattle.thirds.specs.Words.{Disk, Images, on}
use Rattle.thirds.specs.Cuts.{Through, Torn}
use Rattle.thirds.specs.Records.{start, Rec}
use Rattle.thirds.specs.Search.{Laid}
use Rattle.thirds.specs.Recovery.{Plan}
use Rattle.thirds.specs.Forces.{Forces}

abbrev pub unused : ℕ → ℕ → List ℕ
unused P T = 1 ∷ 3 ∷ (first_homes T + P) ∷ (second_homes P T + P) ∷ []

abbrev pub hide : List ℕ → List Sector → List Sector
hide [] l = l
hide (u ∷ us) l = hide us (slice_set l u unreadable)

unfoldable pub system : ℕ → ℕ → List Sector → Disk
system P T l = on (hide (unused P T) (take (data_start P T) l))

abbrev pub Inside : ℕ → ℕ → ℕ → Type 0
Inside P T s = (s + 1 < data_start P T) × (s ≢ 1) × (s ≢ 3) × (s ≢ first_homes T + P)

abbrev pub Lies : ℕ → ℕ → List Write → Type 0
Lies P T ws = AllByRecursion (λ w. Inside P T w.to) ws

abbrev pub DoneGoes : Type 0
DoneGoes = (P T : ℕ) (ws : List Write) (d e : DiskState) → Lies P T ws → Done ws d e → Through ws (system P T d.sectors) (system P T e.sectors)

abbrev pub StoppedTears : Type 0
StoppedTears = (P T : ℕ) (ws : List Write) (d : DiskState) (x : Fault) (e : DiskState) → Lies P T ws → data_start P T ≤ count d → d.power ≡ true → Stopped ws d x e
    → Torn ws (system P T d.sectors) (system P T e.sectors) × (e.power ≡ false) × ((s : ℕ) × (x ≡ PowerOff s))

abbrev pub SystemIs : Type 0
SystemIs = (P T s : ℕ) (l : List Sector) → Inside P T s → system P T l s ≡ on l s

abbrev pub SystemLost : Type 0
SystemLost = (P T s u : ℕ) (l : List Sector) → (system P T (slice_set l s unreadable) u ≡ system P T l u) ⊎ ((system P T (slice_set l s unreadable) u ≡ unreadable) × (u ≡ s))

abbrev pub DataUnseen : Type 0
DataUnseen = (P T s : ℕ) (x : Sector) (l : List Sector) → data_start P T ≤ s → system P T (slice_set l s x) ≡ system P T l

abbrev pub DataCutUnseen : Type 0
DataCutUnseen = (P T s : ℕ) (bytes : List ℕ) (d e : List Sector) → data_start P T ≤ s → Cut s bytes d e → system P T e ≡ system P T d

abbrev pub DataRests : Type 0
DataRests = (P T : ℕ) (ws : List Write) (d : DiskState) (e : DiskState) → Lies P T ws → Done ws d e → (u : ℕ) → data_start P T ≤ u → slice_index_or e.sectors u unreadable ≡ slice_index_or d.sectors u unreadable

abbrev pub DataOutlives : Type 0
DataOutlives = (P T : ℕ) (ws : List Write) (d : DiskState) (x : Fault) (e : DiskState) → Lies P T ws → Stopped ws d x e → (u : ℕ) → data_start P T ≤ u → slice_index_or e.sectors u unreadable ≡ slice_index_or d.sectors u unreadable

abbrev pub PlanLies : Type 0
PlanLies = (P T N : ℕ) (σ : Disk) (X : Images) (s : ℕ) (ws : List Write) → Plan P T N σ X s ws → Lies P T ws

abbrev pub ForcesLie : Type 0
ForcesLie = (P T : ℕ) (X : Images) (f : Third) (m : ℕ) (rs : List Rec) (r : Rec) (ws : List Write) → Laid T f f (start T f) m rs → Forces P T X f m rs r ws → Lies P T ws
