-- What a read for the answer alone tells of sector s, from the state d before to the state e after.
--     Probes       the sector can be read; or refused as a read is
--     Reaches      the sector can be written; or refused as a write is
use Rattle.std.specs.Prelude.{◌≡◌, ℕ, ◌<◌, ◌≤◌, true, false, List, Ok, Err}
use Rattle.disk.specs.Sectors.{DiskState, At, holds, count}
use Rattle.disk.specs.Faults.{Answer}
use Rattle.disk.specs.Rules.{ReadRefused, WriteOff}
use Rattle.disk.specs.declared.faults.Fault.TheVariants.{PowerOff, Unreadable, NoSuchSector}

abbrev pub Probes : ℕ → DiskState → Answer → DiskState → Type 0
Probes s d (Ok _) e = (d.power ≡ true) × ((bytes : List ℕ) × At d s (holds bytes)) × (e ≡ d)
Probes s d (Err x) e = ReadRefused s d x e

abbrev pub Reaches : ℕ → DiskState → Answer → DiskState → Type 0
Reaches s d (Ok _) e = (d.power ≡ true) × (s < count d) × (e ≡ d)
Reaches s d (Err (PowerOff p)) e = (p ≡ s) × (e.power ≡ false) × ((bytes : List ℕ) → WriteOff s bytes d e)
Reaches s d (Err (Unreadable p)) e = ⊥
Reaches s d (Err NoSuchSector) e = (d.power ≡ true) × (count d ≤ s) × (e ≡ d)
