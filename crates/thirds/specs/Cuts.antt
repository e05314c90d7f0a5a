-- Writes to a disk as a function, the cut rule sector by sector, and lists of writes.
--     write       bytes to a sector
--     Put         one sector holds the bytes, and every other is as it was
--     Worn        a disk less some of two adjacent sectors
--     Struck      what a write leaves in whose course the power fails: all of it, or a pair with its sector in it is worn
--     Through     all writes of a list, in order
--     Torn        some of them, in order, and the power failed in the next
--     Holds       each sector holds what the list has for it
--     From        wherever the power fails in the writes the one holds, and when all are done the other
use Rattle.std.specs.Prelude.{◌≡◌, ℕ, ◌+◌, ◌≤◌, ◌⊎◌, List, [], ◌∷◌, ◌≢◌}
use Rattle.disk.specs.Sectors.{unreadable, holds}
use Rattle.disk.specs.WriteLists.{Write}
use Rattle.thirds.specs.Words.{Disk}

abbrev pub write : ℕ → List ℕ → Write
write s bytes = record { to = s; bytes = bytes }

pub record Put (s : ℕ) (bytes : List ℕ) (σ τ : Disk) : Type 0 where
  pub here : τ s ≡ holds bytes
  pub away : (u : ℕ) → u ≢ s → τ u ≡ σ u

abbrev pub Worn : ℕ → Disk → Disk → Type 0
Worn t σ τ = (u : ℕ) → (τ u ≡ σ u) ⊎ ((τ u ≡ unreadable) × (t ≤ u) × (u ≤ t + 1))

pub data Struck (s : ℕ) (bytes : List ℕ) (σ τ : Disk) : Type 0 where
  struck-whole : Put s bytes σ τ → Struck s bytes σ τ
  struck-pair : (t : ℕ) → (t ≤ s) → (s ≤ t + 1) → Worn t σ τ → Struck s bytes σ τ

abbrev pub Through : List Write → Disk → Disk → Type 0
Through [] σ τ = τ ≡ σ
Through (w ∷ ws) σ τ = (ρ : Disk) × Put w.to w.bytes σ ρ × Through ws ρ τ

abbrev pub Torn : List Write → Disk → Disk → Type 0
Torn [] σ τ = ⊥
Torn (w ∷ ws) σ τ = Struck w.to w.bytes σ τ ⊎ ((ρ : Disk) × Put w.to w.bytes σ ρ × Torn ws ρ τ)

abbrev pub Holds : Disk → List Write → Type 0
Holds σ [] = Unit {0}
Holds σ (w ∷ ws) = (σ w.to ≡ holds w.bytes) × Holds σ ws

pub record From (σ : Disk) (ws : List Write) (L K : Disk → Type 0) : Type 0 where
  pub cut : (τ : Disk) → Torn ws σ τ → L τ
  pub done : (τ : Disk) → Through ws σ τ → K τ
