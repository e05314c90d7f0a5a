-- What the chosen call does, from the state d before to the state e after.
--     stores           the sectors that are on the disk below after the chosen write, in each manner: with the new bytes, or as before
--     Stores           a write on the disk below: done, and what a manner stores is stored; or refused as a write is
use Rattle.std.specs.Prelude.{◌≡◌, ℕ, ◌<◌, true, List, Ok, Err, slice_set}
use Rattle.disk.specs.Sectors.{Sector, holds, DiskState, count}
use Rattle.disk.specs.Faults.{Answer}
use Rattle.disk.specs.Rules.{Writes}
use Rattle.failing.specs.declared.manner.Manner.{Manner}
use Rattle.failing.specs.declared.manner.Manner.TheVariants.{NewBytes}

abbrev pub stores : Manner → ℕ → List ℕ → List Sector → List Sector
stores NewBytes s bytes l = slice_set l s (holds bytes)
stores _ s bytes l = l

abbrev pub Stores : Manner → ℕ → List ℕ → DiskState → Answer → DiskState → Type 0
Stores manner s bytes d (Ok _) e = (d.power ≡ true) × (s < count d) × (e.power ≡ true) × (e.sectors ≡ stores manner s bytes d.sectors)
Stores manner s bytes d (Err x) e = Writes s bytes d (Err x) e
