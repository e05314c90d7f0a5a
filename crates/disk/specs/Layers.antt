-- Of what a disk is made, which no disk call changes.
--     Layers       bytes that someone lent, or numbers of one layer above another disk
use Rattle.std.specs.Prelude.{ℕ, List}
use Rattle.std.specs.Borrow.{GName}

pub data Layers : Type 0 where
  -- the name of the loan, how many bytes were lent, and those of them that belong to no sector
  lent : GName → ℕ → List ℕ → Layers
  -- what a layer fixes, as a window its first sector and its length, and the disk below it
  over : List ℕ → Layers → Layers
