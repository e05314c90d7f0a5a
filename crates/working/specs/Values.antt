-- One sector, read for the value that it carries or for its bytes. A sector that is not on the disk counts as one that cannot be read.
--     in_sector      the value in a sector, if it can be read and is right
--     ReadLost       why a read answered 9: at which sector, and that no sector has changed
--     ValueRead      the value in a sector, or 9
--     ImageRead      the bytes of a sector that can be read are in the caller's, or those are as before, or 9
use Rattle.std.specs.Prelude.{◌≡◌, ℕ, true, false, Bool, List, None, Option, Ok, Err, Result, slice_index_or}
use Rattle.disk.specs.Sectors.{Sector, unreadable, holds, DiskState}
use Rattle.disk.specs.Rules.{ReadOff}
use Rattle.disk.specs.declared.faults.Fault.{Fault}
use Rattle.disk.specs.declared.faults.Fault.TheVariants.{PowerOff, Unreadable, NoSuchSector}

abbrev pub in_sector : {X : Type 0} → (List ℕ → Option X) → Sector → Option X
in_sector decoded unreadable = None
in_sector decoded (holds bytes) = decoded bytes

abbrev pub ReadLost : ℕ → DiskState → Fault → DiskState → Type 0
ReadLost s d (PowerOff p) e = (p ≡ s) × ReadOff s d e
ReadLost s d (Unreadable p) e = ⊥
ReadLost s d NoSuchSector e = ⊥

abbrev pub ValueRead : {X : Type 0} → (List ℕ → Option X) → ℕ → DiskState → Result (Option X) Fault → DiskState → Type 0
ValueRead decoded s d (Ok r) e = (d.power ≡ true) × (e ≡ d) × (r ≡ in_sector decoded (slice_index_or d.sectors s unreadable))
ValueRead decoded s d (Err x) e = ReadLost s d x e

abbrev pub ImageRead : ℕ → DiskState → List ℕ → Result Bool Fault → DiskState → List ℕ → Type 0
ImageRead s d old (Ok true) e new = (d.power ≡ true) × (e ≡ d) × (slice_index_or d.sectors s unreadable ≡ holds new)
ImageRead s d old (Ok false) e new = (d.power ≡ true) × (e ≡ d) × (slice_index_or d.sectors s unreadable ≡ unreadable) × (new ≡ old)
ImageRead s d old (Err x) e new = ReadLost s d x e × (new ≡ old)
