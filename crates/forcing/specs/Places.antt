-- Where the next record goes.
--     goes_on           a record of so many pages ends before the last sector of the third in which the last record is
--     record_third      its third: that one, or else the next
--     record_place      its first sector: behind the last record, or else the start of the next third
--     gives_up          whether that is the anchored third, which is given up first
--     first_in          the group number of the first record in a third
--     LogAfter          where the log stands after the record
use Rattle.std.specs.Prelude.{◌≡◌, ℕ, ◌+◌, ◌*◌, Bool, false, cond, List, nat_lt, slice_index, slice_set}
use Rattle.forcing.specs.declared.place.LogPlace.{LogPlace}
use Rattle.geometry.specs.Thirds.{number_of, next_of}
use Rattle.geometry.specs.declared.third.Third.{Third}
use Rattle.thirds.specs.Records.{start}
use Rattle.thirds.specs.Homes.{same_third}

abbrev pub goes_on : ℕ → LogPlace → ℕ → Bool
goes_on T log n = nat_lt (log.place + 5 + 2 * n) (start T log.third + T)

abbrev pub record_third : ℕ → LogPlace → ℕ → Third
record_third T log n = cond (goes_on T log n) log.third (next_of log.third)

abbrev pub record_place : ℕ → LogPlace → ℕ → ℕ
record_place T log n = cond (goes_on T log n) log.place (start T (next_of log.third))

abbrev pub gives_up : ℕ → LogPlace → ℕ → Bool
gives_up T log n = cond (goes_on T log n) false (same_third (next_of log.third) log.anchored)

abbrev pub first_in : Third → List ℕ → ℕ
first_in third firsts = slice_index firsts (number_of third)

-- `LogPlace` has a proof in it, so its fields are told one by one.
pub record LogAfter (T : ℕ) (log : LogPlace) (n : ℕ) (later : LogPlace) : Type 0 where
  pub anchored : later.anchored ≡ cond (gives_up T log n) (next_of log.anchored) log.anchored
  pub firsts : later.firsts ≡ cond (goes_on T log n) log.firsts (slice_set log.firsts (number_of (record_third T log n)) log.next)
  pub third : later.third ≡ record_third T log n
  pub place : later.place ≡ record_place T log n + 5 + 2 * n
  pub next : later.next ≡ log.next + 1
  pub last : later.last ≡ log.next
