-- A part of a disk as a disk: sector i of the window (first, n) is sector first + i of the disk below.
--     windowed     the state of the window over a disk's state
--     Placed       for which sector the disk below is asked
--     retold       the answer of the disk below, at the window's own sector
--     Asked        one call of the disk below answers a call of the window
use Rattle.std.specs.Prelude.{◌≡◌, ℕ, ◌+◌, ◌<◌, ◌≤◌, take, drop, Ok, Err}
use Rattle.disk.specs.Sectors.{DiskState, count}
use Rattle.disk.specs.Faults.{Answer}
use Rattle.disk.specs.declared.faults.Fault.TheVariants.{PowerOff, Unreadable, NoSuchSector}

abbrev pub windowed : ℕ → ℕ → DiskState → DiskState
windowed first n d = record { power = d.power; sectors = take n (drop first d.sectors) }

-- At its place, or, for a sector that is not in the window, past the last sector below.
pub record Placed (first n sector : ℕ) (d : DiskState) (at : ℕ) : Type 0 where
  pub inside : sector < count (windowed first n d) → at ≡ first + sector
  pub outside : count (windowed first n d) ≤ sector → at ≡ count d

abbrev pub retold : ℕ → Answer → Answer
retold sector (Ok x) = Ok x
retold sector (Err (PowerOff p)) = Err (PowerOff sector)
retold sector (Err (Unreadable p)) = Err (Unreadable sector)
retold sector (Err NoSuchSector) = Err NoSuchSector

-- `Does at answer` says what the disk below did, asked for its sector at.
pub record Asked (first n sector : ℕ) (d : DiskState) (r : Answer) (Does : ℕ → Answer → Type 0) : Type 0 where
  pub at : ℕ
  pub answer : Answer
  pub placed : Placed first n sector d at
  pub does : Does at answer
  pub told : r ≡ retold sector answer
