-- The course of a marking disk.
--     lost_in          the sectors that are lost in a phase
--     is_on            the power was put on again
--     seen             the disk below as it is seen in a phase
--     dark             the phase after a call in which the disk below has no power
--     again            the phase after a call with the power on again
use Rattle.std.specs.Prelude.{Bool, true, false, Ok, Err}
use Rattle.disk.specs.Sectors.{DiskState}
use Rattle.disk.specs.Faults.{Answer}
use Rattle.disk.specs.declared.faults.Fault.TheVariants.{PowerOff, Unreadable, NoSuchSector}
use Rattle.failing.specs.Phases.{off_in}
use Rattle.failing.specs.FailingSound.{cut_off}
use Rattle.marking.specs.Marks.{none, masked}
use Rattle.marking.specs.declared.lost.Lost.{Lost}
use Rattle.failing.specs.declared.phase.Phase.{Phase}
use Rattle.failing.specs.declared.phase.Phase.TheVariants.{Before, Off, On}

abbrev pub lost_in : Phase Lost → Lost
lost_in (Before calls) = none
lost_in (Off lost) = lost
lost_in (On lost) = lost

abbrev pub is_on : Phase Lost → Bool
is_on (Before calls) = false
is_on (Off lost) = false
is_on (On lost) = true

abbrev pub seen : Phase Lost → DiskState → DiskState
seen phase d = record (cut_off (off_in phase) d) { sectors = masked (lost_in phase) d.sectors }

abbrev pub dark : Phase Lost → Phase Lost
dark (Before calls) = Before calls
dark (Off lost) = Off lost
dark (On lost) = Off lost

abbrev pub again : Answer → Lost → Phase Lost
again (Ok _) lost = On lost
again (Err (PowerOff p)) lost = Off lost
again (Err (Unreadable p)) lost = On lost
again (Err NoSuchSector) lost = On lost
