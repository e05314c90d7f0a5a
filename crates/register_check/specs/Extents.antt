-- The sectors of a register's files.
--     extent       an entry's extent: its first sector, and its sectors by its length
--     Holds        sector s is one of an extent
--     Apart        no sector lies in two extents
--     InPlace      an entry's length is one that a file may have, and its extent lies in first .. sectors - 1
--     ends_by      an extent ends before a sector
--     clear        one of two extents ends where the other begins, or before
--     apart, in_place      the tests
use Rattle.std.specs.Prelude.{ℕ, ◌+◌, ◌<◌, ◌≤◌, Bool, true, ◌&&◌, ◌||◌, List, [], ◌∷◌, nat_le}
use Rattle.std.specs.List.{AllPairs, list_all}
use Rattle.geometry.specs.Sizes.{longest, extent_of}
use Rattle.pages.specs.declared.records.Entry.{Entry}
use Rattle.register_check.specs.declared.extents.Extent.{Extent}

abbrev pub extent : Entry → Extent
extent e = record { start = e.start; sectors = extent_of e.length }

abbrev pub Holds : Extent → ℕ → Type 0
Holds x s = (x.start ≤ s) × (s < x.start + x.sectors)

abbrev pub Apart : List Extent → Type 0
Apart extents = AllPairs (λ x y. (s : ℕ) → Holds x s → Holds y s → ⊥) extents

pub record InPlace (first sectors : ℕ) (e : Entry) : Type 0 where
  pub length : e.length ≤ longest
  pub begins : first ≤ e.start
  pub ends : e.start + extent_of e.length ≤ sectors

abbrev pub ends_by : Extent → ℕ → Bool
ends_by x s = nat_le (x.start + x.sectors) s

abbrev pub clear : Extent → Extent → Bool
clear x y = ends_by x y.start || ends_by y x.start

abbrev pub apart : List Extent → Bool
apart [] = true
apart (x ∷ xs) = list_all (clear x) xs && apart xs

abbrev pub in_place : ℕ → ℕ → Entry → Bool
in_place first sectors e = nat_le e.length longest && nat_le first e.start && ends_by (extent e) sectors
