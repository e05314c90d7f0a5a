-- The log: what a search of it finds, and how records are laid in it.
--     after             the place right behind a record
--     Found             record m is at its place, or else at the start of the next third, unless that is the anchored one
--     Log               the records found from number m on, with numbers rising by 1, and the missing number
--     Placed            a record follows the last one if it ends before its third's last sector, and starts the next third otherwise
--     Laid              records placed so, with numbers rising by 1
--     Named             every head with the record's number is one of its own
--     SearchFinds       records laid so that all stand are what the search finds
--     SearchIsOne       the search finds one thing only
--     SameLog           no sector that the search reads differs: from 8 on, and not the last one of the last third
--     SearchRests       it finds the same there
use Rattle.std.specs.Prelude.{◌≡◌, ℕ, ◌+◌, ◌*◌, ◌<◌, ◌≤◌, List, [], ◌∷◌, length, ◌≢◌}
use Rattle.std.specs.List.{AllByRecursion}
use Rattle.geometry.specs.Thirds.{next_of}
use Rattle.geometry.specs.declared.third.Third.{Third}
use Rattle.thirds.specs.Words.{head, says, Disk}
use Rattle.thirds.specs.Records.{start, Rec, numbers, many, Stands, NoEnd, Absent}

abbrev pub after : Rec → ℕ
after r = r.place + 5 + 2 * many r

pub data Found (P T : ℕ) (σ : Disk) (f k : Third) (p m : ℕ) (r : Rec) : Type 0 where
  found-here : r.third ≡ k → r.place ≡ p → r.number ≡ m → Stands P T σ r → Found P T σ f k p m r
  found-next : Absent P T σ k p m → (next_of k ≢ f) → r.third ≡ next_of k → r.place ≡ start T (next_of k) → r.number ≡ m → Stands P T σ r → Found P T σ f k p m r

abbrev pub Log : ℕ → ℕ → Disk → Third → Third → ℕ → ℕ → List Rec → ℕ → Type 0
Log P T σ f k p m [] s = (s ≡ m) × Absent P T σ k p m × ((next_of k ≢ f) → Absent P T σ (next_of k) (start T (next_of k)) m)
Log P T σ f k p m (r ∷ rs) s = Found P T σ f k p m r × Log P T σ f r.third (after r) (m + 1) rs s

pub data Placed (T : ℕ) (f k : Third) (p m : ℕ) (r : Rec) : Type 0 where
  placed-here : r.third ≡ k → r.place ≡ p → r.number ≡ m → Placed T f k p m r
  placed-next : start T k + T ≤ p + 5 + 2 * many r → (next_of k ≢ f) → r.third ≡ next_of k → r.place ≡ start T (next_of k) → r.number ≡ m → Placed T f k p m r

abbrev pub Laid : ℕ → Third → Third → ℕ → ℕ → List Rec → Type 0
Laid T f k p m [] = Unit {0}
Laid T f k p m (r ∷ rs) = Placed T f k p m r × Laid T f r.third (after r) (m + 1) rs

abbrev pub Named : ℕ → Disk → Rec → Type 0
Named P σ r = (u : ℕ) (ks : List ℕ) → says P (σ u) ≡ head r.number ks → ks ≡ numbers r.pages

abbrev pub SearchFinds : Type 0
SearchFinds = (P T : ℕ) (σ : Disk) (f k : Third) (p m s : ℕ) (rs : List Rec)
    → Laid T f k p m rs → AllByRecursion (Stands P T σ) rs → AllByRecursion (Named P σ) rs → s ≡ m + length rs → NoEnd P σ s → Log P T σ f k p m rs s

abbrev pub SearchIsOne : Type 0
SearchIsOne = (P T : ℕ) (σ : Disk) (f k : Third) (p m s t : ℕ) (rs qs : List Rec) → Log P T σ f k p m rs s → Log P T σ f k p m qs t → (rs ≡ qs) × (s ≡ t)

abbrev pub SameLog : ℕ → Disk → Disk → Type 0
SameLog T σ τ = (u : ℕ) → 8 ≤ u → u + 1 < 8 + T + T + T → τ u ≡ σ u

abbrev pub SearchRests : Type 0
SearchRests = (P T : ℕ) (σ τ : Disk) (f k : Third) (p m s : ℕ) (rs : List Rec) → SameLog T σ τ → 8 ≤ p → Log P T σ f k p m rs s → Log P T τ f k p m rs s
