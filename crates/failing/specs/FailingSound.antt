-- A failing disk over a sound disk is a sound disk.
--     cut_off           a disk's state with the power taken away, if it is
use Rattle.std.specs.Prelude.{Bool, false, cond}
use Rattle.disk.specs.Sectors.{DiskState, Sound}

abbrev pub cut_off : Bool → DiskState → DiskState
cut_off off d = record { power = cond off false d.power; sectors = d.sectors }

pub failing-sound : (off : Bool) (d : DiskState) → Sound d → Sound (cut_off off d)
failing-sound off d sound = record { few = sound.few; whole = λ s bytes at. sound.whole s bytes (record { exists = at.exists; is = at.is }) }
