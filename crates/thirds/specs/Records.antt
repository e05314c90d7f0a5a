-- A record of the log: how it is laid out, and when it stands.
--     start           the first sector of a third
--     Page            a page's number and its image
--     Rec             a record: its third, its place there, its group number and its pages
--     numbers         the numbers of pages
--     many            how many pages a record has
--     pages_at        the images of pages, from a sector on
--     opening         what is written before the first end: head, head again, the pages
--     first_end       the first end
--     closing         what is written after it: the pages again, the end again
--     layout          all its writes, in the order of the sectors
--     Numbered        its group number has four bytes, and its page numbers rise below the number of pages
--     Proper          and no image of it is a head or an end
--     Fits            it has a page, and ends before its third's last sector
--     HeadAt          the first head that is right for the number has these page numbers
--     ImagesAt        each image is in its first place, or that cannot be read and it is in its second
--     Stands          the record is there
--     Whole           every sector of it is as written
--     NoEnd           no sector is an end with this number
--     Absent          no record with this number is there
--     SpoilStands     a whole record outlives the loss of two adjacent sectors
--     HalfStands      a record whose writes were cut is there, or no end of it is anywhere
--     WrittenStands   a record whose writes are done is whole
use Rattle.std.specs.Prelude.{◌≡◌, ℕ, ◌+◌, ◌*◌, ◌^◌, ◌<◌, ◌≤◌, ◌⊎◌, List, [], ◌∷◌, ◌++◌, length}
use Rattle.std.specs.List.{AllByRecursion}
use Rattle.disk.specs.Sectors.{unreadable, holds}
use Rattle.disk.specs.WriteLists.{Write}
use Rattle.geometry.specs.declared.third.Third.{Third}
use Rattle.geometry.specs.declared.third.Third.TheVariants.{Zero, One, Two}
use Rattle.thirds.specs.Words.{head, end, word_of, says, Calm, Rise, head_bytes, end_bytes, Disk}
use Rattle.thirds.specs.Cuts.{write, Worn, Through, Torn, Holds}

abbrev pub start : ℕ → Third → ℕ
start T Zero = 8
start T One = 8 + T
start T Two = 8 + T + T

abbrev pub Page : Type 0
Page = ℕ × List ℕ

pub record Rec : Type 0 where
  pub third : Third
  pub place : ℕ
  pub number : ℕ
  pub pages : List Page

abbrev pub numbers : List Page → List ℕ
numbers [] = []
numbers (p ∷ ps) = p.0 ∷ numbers ps

abbrev pub many : Rec → ℕ
many r = length r.pages

abbrev pub pages_at : ℕ → List Page → List Write
pages_at u [] = []
pages_at u (p ∷ ps) = write u p.1 ∷ pages_at (u + 1) ps

abbrev pub opening : Rec → List Write
opening r = write r.place (head_bytes r.number (numbers r.pages)) ∷ write (r.place + 2) (head_bytes r.number (numbers r.pages)) ∷ pages_at (r.place + 3) r.pages

abbrev pub first_end : Rec → Write
first_end r = write (r.place + 3 + many r) (end_bytes r.number (many r))

abbrev pub closing : Rec → List Write
closing r = pages_at (r.place + 4 + many r) r.pages ++ write (r.place + 4 + 2 * many r) (end_bytes r.number (many r)) ∷ []

abbrev pub layout : Rec → List Write
layout r = opening r ++ first_end r ∷ closing r

pub record Numbered (P : ℕ) (r : Rec) : Type 0 where
  pub few : P ≤ 21
  pub small : r.number < 2 ^ 32
  pub rising : Rise 0 P (numbers r.pages)

pub record Proper (P : ℕ) (r : Rec) : Type 0 where
  pub numbered : Numbered P r
  pub calm : AllByRecursion (λ p. Calm (word_of P p.1)) r.pages

abbrev pub Fits : ℕ → Rec → Type 0
Fits T r = (0 < many r) × (r.place + 5 + 2 * many r < start T r.third + T)

abbrev pub HeadAt : ℕ → Disk → ℕ → ℕ → List ℕ → Type 0
HeadAt P σ p m ns = (says P (σ p) ≡ head m ns) ⊎ (((ks : List ℕ) → says P (σ p) ≡ head m ks → ⊥) × (says P (σ (p + 2)) ≡ head m ns))

abbrev pub ImagesAt : Disk → ℕ → ℕ → List Page → Type 0
ImagesAt σ u v [] = Unit {0}
ImagesAt σ u v (p ∷ ps) = ((σ u ≡ holds p.1) ⊎ ((σ u ≡ unreadable) × (σ v ≡ holds p.1))) × ImagesAt σ (u + 1) (v + 1) ps

pub record Stands (P T : ℕ) (σ : Disk) (r : Rec) : Type 0 where
  pub heads : HeadAt P σ r.place r.number (numbers r.pages)
  pub fits : Fits T r
  pub ends : (says P (σ (r.place + 3 + many r)) ≡ end r.number (many r)) ⊎ (says P (σ (r.place + 4 + 2 * many r)) ≡ end r.number (many r))
  pub images : ImagesAt σ (r.place + 3) (r.place + 4 + many r) r.pages

abbrev pub Whole : ℕ → ℕ → Disk → Rec → Type 0
Whole P T σ r = Fits T r × Holds σ (layout r) × Numbered P r

abbrev pub NoEnd : ℕ → Disk → ℕ → Type 0
NoEnd P σ m = (u n : ℕ) → says P (σ u) ≡ end m n → ⊥

abbrev pub Absent : ℕ → ℕ → Disk → Third → ℕ → ℕ → Type 0
Absent P T σ k p m = (r : Rec) → r.third ≡ k → r.place ≡ p → r.number ≡ m → Stands P T σ r → ⊥

abbrev pub SpoilStands : Type 0
SpoilStands = (P T t : ℕ) (σ τ : Disk) (r : Rec) → Whole P T σ r → Worn t σ τ → Stands P T τ r

abbrev pub HalfStands : Type 0
HalfStands = (P T : ℕ) (σ τ : Disk) (r : Rec) → Fits T r → Proper P r → NoEnd P σ r.number → Torn (layout r) σ τ → Stands P T τ r ⊎ NoEnd P τ r.number

abbrev pub WrittenStands : Type 0
WrittenStands = (P T : ℕ) (σ τ : Disk) (r : Rec) → Fits T r → Proper P r → Through (layout r) σ τ → Whole P T τ r
