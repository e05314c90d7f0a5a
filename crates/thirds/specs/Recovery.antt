-- What recovery reads off a disk, and what it writes.
--     HeaderWrites      a header that is not right is written from the other
--     NoAnchor          no anchor can be read there
--     AnchorWrites      so is an anchor; and where they differ the second is written from the first
--     both_anchors      writes of both anchors
--     Plan              what recovery reads off a disk, and the writes that follow
--     ReadsSettled      it reads the settled images, and the missing number is within the span
--     PlanSafe          wherever the power fails in those writes the images can still be recovered; when all are done the volume is up, with an empty log and the number after the missing one
--     PlanStands        there is such a plan, while group numbers last
--     NeverRefuses      no header, no anchor and no image is missing
--     NeverLacks        so of every volume that is down
use Rattle.std.specs.Prelude.{◌≡◌, ℕ, ◌+◌, ◌^◌, ◌<◌, List, [], ◌∷◌, ◌++◌, Some, None}
use Rattle.disk.specs.Sectors.{Sector, unreadable}
use Rattle.disk.specs.WriteLists.{Write}
use Rattle.geometry.specs.Places.{first_homes, second_homes}
use Rattle.geometry.specs.declared.third.Third.{Third}
use Rattle.geometry.specs.declared.third.Third.TheVariants.{Zero}
use Rattle.layout.specs.declared.header.Header.{Header}
use Rattle.thirds.specs.Words.{anchor, says, header_bytes, anchor_bytes, Disk, Images}
use Rattle.thirds.specs.Cuts.{write, From}
use Rattle.thirds.specs.Records.{start, Rec}
use Rattle.thirds.specs.Search.{Log}
use Rattle.thirds.specs.Homes.{newest, mend, redo, ReadImage}
use Rattle.thirds.specs.Volumes.{Span, Within, one_more, header_in, Down, Up}

pub data HeaderWrites (P T N : ℕ) (σ : Disk) (ws : List Write) : Type 0 where
  headers-right : header_in N (σ 0) ≡ Some (record { pages = P; third = T; sectors = N }) → (h : Header) → header_in N (σ 2) ≡ Some h → ws ≡ [] → HeaderWrites P T N σ ws
  header-wrong : header_in N (σ 0) ≡ None → header_in N (σ 2) ≡ Some (record { pages = P; third = T; sectors = N }) → ws ≡ write 0 (header_bytes P T N) ∷ [] → HeaderWrites P T N σ ws
  header-again-wrong : header_in N (σ 0) ≡ Some (record { pages = P; third = T; sectors = N }) → header_in N (σ 2) ≡ None → ws ≡ write 2 (header_bytes P T N) ∷ [] → HeaderWrites P T N σ ws

abbrev pub NoAnchor : ℕ → Sector → Type 0
NoAnchor P x = (f : Third) (m : ℕ) → says P x ≡ anchor f m → ⊥

pub data AnchorWrites (P : ℕ) (σ : Disk) (f : Third) (m : ℕ) (ws : List Write) : Type 0 where
  anchors-right : says P (σ 4) ≡ anchor f m → says P (σ 6) ≡ anchor f m → ws ≡ [] → AnchorWrites P σ f m ws
  anchor-wrong : NoAnchor P (σ 4) → says P (σ 6) ≡ anchor f m → ws ≡ write 4 (anchor_bytes f m) ∷ [] → AnchorWrites P σ f m ws
  anchor-again-wrong : says P (σ 4) ≡ anchor f m → (says P (σ 6) ≡ anchor f m → ⊥) → ws ≡ write 6 (anchor_bytes f m) ∷ [] → AnchorWrites P σ f m ws

abbrev pub both_anchors : Third → ℕ → List Write
both_anchors f m = write 4 (anchor_bytes f m) ∷ write 6 (anchor_bytes f m) ∷ []

pub record Plan (P T N : ℕ) (σ : Disk) (X : Images) (s : ℕ) (ws : List Write) : Type 0 where
  pub numbers-last : s + 1 < 2 ^ 32
  pub first : Third
  pub number : ℕ
  pub anchor-small : number < 2 ^ 32
  pub log : List Rec
  pub header-part : List Write
  pub anchor-part : List Write
  pub headers : HeaderWrites P T N σ header-part
  pub anchors : AnchorWrites P σ first number anchor-part
  pub found : Log P T σ first first (start T first) number log s
  pub images : (i : ℕ) → i < P → ReadImage (newest log i) (σ (first_homes T + i)) (σ (second_homes P T + i)) (X i)
  pub writes : ws ≡ header-part ++ (anchor-part ++ ((mend σ X (first_homes T) P ++ mend σ X (second_homes P T) P) ++ (redo log X (first_homes T) (second_homes P T) P ++ both_anchors Zero (s + 1))))

abbrev pub ReadsSettled : Type 0
ReadsSettled = (P T N : ℕ) (W X : Images) (h : Span) (s : ℕ) (σ : Disk) (ws : List Write) → Down P T N W h σ → Plan P T N σ X s ws → ((i : ℕ) → i < P → X i ≡ W i) × Within h s

abbrev pub PlanSafe : Type 0
PlanSafe = (P T N : ℕ) (W X : Images) (h : Span) (s : ℕ) (σ : Disk) (ws : List Write) → Down P T N W h σ → Plan P T N σ X s ws → From σ ws (Down P T N W (one_more h)) (Up P T N X Zero (s + 1) [])

abbrev pub PlanStands : Type 0
PlanStands = (P T N : ℕ) (W : Images) (h : Span) (σ : Disk) → Down P T N W h σ → (s : ℕ) × Within h s × (s + 1 < 2 ^ 32 → (ws : List Write) × Plan P T N σ W s ws)

pub record NeverRefuses (P T N : ℕ) (σ : Disk) : Type 0 where
  pub some-header : header_in N (σ 0) ≡ None → header_in N (σ 2) ≡ None → ⊥
  pub some-anchor : NoAnchor P (σ 4) → NoAnchor P (σ 6) → ⊥
  pub some-image : (f : Third) (m s : ℕ) (ws : List Write) (rs : List Rec) → AnchorWrites P σ f m ws → Log P T σ f f (start T f) m rs s
      → (i : ℕ) → i < P → newest rs i ≡ None → σ (first_homes T + i) ≡ unreadable → σ (second_homes P T + i) ≡ unreadable → ⊥

abbrev pub NeverLacks : Type 0
NeverLacks = (P T N : ℕ) (W : Images) (h : Span) (σ : Disk) → Down P T N W h σ → NeverRefuses P T N σ
