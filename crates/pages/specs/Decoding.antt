-- What it is to decode a page of records.
--     Few              records that fit, no more than so many
--     told             the records that a count tells of
--     Decoded          the count's records are those read from the page, and the page is just what they make; no count: no such records make it
--     RowDecoded       the same of the records themselves, or none
use Rattle.std.specs.Prelude.{◌≡◌, ℕ, ◌≤◌, List, length, take, Some, None, Option}
use Rattle.std.specs.List.{AllByRecursion}
use Rattle.pages.specs.Bytes.{page_of, records_of}

abbrev pub Few : {X : Type 0} → (X → Type 0) → ℕ → List X → Type 0
Few fit most rs = AllByRecursion fit rs × (length rs ≤ most)

abbrev pub told : {X : Type 0} → List X → Option ℕ → Option (List X)
told out None = None
told out (Some n) = Some (take n out)

module _ {X : Type 0} (fit : X → Type 0) (bytes : X → List ℕ) (value : List ℕ → X) (wide letter most : ℕ) (page : List ℕ) where
  abbrev pub Decoded : List X → Option ℕ → Type 0
  Decoded out (Some n) =
      (n ≤ most) × (take n out ≡ records_of value wide most page) × Few fit most (take n out) × (page ≡ page_of bytes letter (take n out))
  Decoded out None = (rs : List X) → Few fit most rs → ¬ (page ≡ page_of bytes letter rs)

  abbrev pub RowDecoded : Option (List X) → Type 0
  RowDecoded (Some rs) = (rs ≡ records_of value wide most page) × Few fit most rs × (page ≡ page_of bytes letter rs)
  RowDecoded None = (rs : List X) → Few fit most rs → ¬ (page ≡ page_of bytes letter rs)
