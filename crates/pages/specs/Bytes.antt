-- The image of a page of records, and the records in an image.
--     Room             from byte 32 on a page has place for n records of so many bytes
--     Holds            and byte 2 can tell how many they are
--     page_of          N, a letter, the number of records and 29 zeros; from byte 32 on the bytes of each record; then zeros
--     values           n values of w bytes each, one after the other
--     records_of       the records from byte 32 on: as many as byte 2 says, at most so many
--     AreBytes         each number is below 256
use Rattle.std.specs.Prelude.{ℕ, zero, suc, ◌+◌, ◌*◌, ◌<◌, ◌≤◌, min, List, [], ◌∷◌, ◌++◌, length, take, drop, replicate, slice_index}
use Rattle.std.specs.List.{flat_map, AllByRecursion}
use Rattle.layout.specs.Padded.{padded}

abbrev pub Room : ℕ → ℕ → Type 0
Room wide n = 32 + wide * n ≤ 512

abbrev pub Holds : ℕ → ℕ → Type 0
Holds wide n = Room wide n × (n < 256)

unfoldable pub page_of : {X : Type 0} → (X → List ℕ) → ℕ → List X → List ℕ
page_of bytes letter rs = padded ((78 ∷ letter ∷ length rs ∷ replicate 29 0) ++ flat_map bytes rs)

unfoldable pub values : {X : Type 0} → (List ℕ → X) → ℕ → ℕ → List ℕ → List X
values value w zero bytes = []
values value w (suc n) bytes = value (take w bytes) ∷ values value w n (drop w bytes)

unfoldable pub records_of : {X : Type 0} → (List ℕ → X) → ℕ → ℕ → List ℕ → List X
records_of value w most page = values value w (min (slice_index page 2) most) (drop 32 page)

abbrev pub AreBytes : List ℕ → Type 0
AreBytes bytes = AllByRecursion (λ b. b < 256) bytes
