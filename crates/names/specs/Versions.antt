-- The versions of a file.
--     highest          the highest version
--     InRange          a number is a version: 1 to 9,999
use Rattle.std.specs.Prelude.{ℕ, ◌≤◌}

abbrev pub highest : ℕ
highest = 9999

abbrev pub InRange : ℕ → Type 0
InRange n = (1 ≤ n) × (n ≤ highest)
