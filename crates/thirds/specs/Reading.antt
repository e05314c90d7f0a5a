-- When a record is there, test by test, in the order in which it is read.
--     paired           page numbers with their images
--     Copied           an image stands in the first place, or that cannot be read and it stands in the second
--     Tested           what each test of a record shows
use Rattle.std.specs.Prelude.{◌≡◌, ℕ, ◌+◌, ◌*◌, ◌<◌, ◌≤◌, ◌⊎◌, List, [], ◌∷◌, length, slice_index_or}
use Rattle.disk.specs.Sectors.{unreadable, holds}
use Rattle.geometry.specs.declared.third.Third.{Third}
use Rattle.thirds.specs.Words.{head, end, says, Disk}
use Rattle.thirds.specs.Records.{start, Page, HeadAt, Stands, Absent}

abbrev pub paired : List ℕ → List (List ℕ) → List Page
paired [] xs = []
paired (n ∷ ns) [] = []
paired (n ∷ ns) (x ∷ xs) = (n, x) ∷ paired ns xs

abbrev pub Copied : Disk → ℕ → ℕ → List ℕ → Type 0
Copied σ u v x = (σ u ≡ holds x) ⊎ ((σ u ≡ unreadable) × (σ v ≡ holds x))

pub record Tested (P T : ℕ) (σ : Disk) (k : Third) (p m : ℕ) : Type 0 where
  pub no-head : ((ks : List ℕ) → says P (σ p) ≡ head m ks → ⊥) → ((ks : List ℕ) → says P (σ (p + 2)) ≡ head m ks → ⊥) → Absent P T σ k p m
  pub no-fit : (ns : List ℕ) → HeadAt P σ p m ns → (length ns ≡ 0) ⊎ (start T k + T ≤ p + 5 + 2 * length ns) → Absent P T σ k p m
  pub no-end : (ns : List ℕ) → HeadAt P σ p m ns → (says P (σ (p + 3 + length ns)) ≡ end m (length ns) → ⊥) → (says P (σ (p + 4 + 2 * length ns)) ≡ end m (length ns) → ⊥) → Absent P T σ k p m
  pub no-copy : (ns : List ℕ) → HeadAt P σ p m ns → (j : ℕ) → j < length ns → σ (p + 3 + j) ≡ unreadable → σ (p + 4 + length ns + j) ≡ unreadable → Absent P T σ k p m
  pub all-there : (ns : List ℕ) (xs : List (List ℕ)) → length xs ≡ length ns → HeadAt P σ p m ns → 0 < length ns → p + 5 + 2 * length ns < start T k + T
      → (says P (σ (p + 3 + length ns)) ≡ end m (length ns)) ⊎ (says P (σ (p + 4 + 2 * length ns)) ≡ end m (length ns))
      → ((j : ℕ) → j < length ns → Copied σ (p + 3 + j) (p + 4 + length ns + j) (slice_index_or xs j []))
      → Stands P T σ (record { third = k; place = p; number = m; pages = paired ns xs })
