-- The sectors that a cut made unreadable, of which the disk below knows nothing.
--     names            whether a mark is a sector's
--     is_lost, IsLost  whether a sector is marked, and that there is one
--     unless, without  a mark, or all of them, but for a sector's
--     kept             the marks after a write: a sector that is written is readable
--     none             no sector is marked
--     lost_by          the marks of a cut of sector s, in each manner
--     hide, masked     the sectors below, those that are marked unreadable
use Rattle.std.specs.Prelude.{◌≡◌, ℕ, ◌<◌, ◌+◌, ◌-◌, Bool, true, false, List, Some, None, Ok, Err, Option, ◌==◌, ◌||◌, cond, slice_set}
use Rattle.disk.specs.Sectors.{Sector, unreadable, DiskState, count}
use Rattle.disk.specs.Faults.{Answer}
use Rattle.marking.specs.declared.lost.Lost.{Lost}
use Rattle.failing.specs.declared.manner.Manner.{Manner}
use Rattle.failing.specs.declared.manner.Manner.TheVariants.{AsBefore, NewBytes, Own, OwnAndBelow, OwnAndAbove}

abbrev pub names : Option ℕ → ℕ → Bool
names None s = false
names (Some marked) s = marked == s

abbrev pub is_lost : Lost → ℕ → Bool
is_lost lost s = names lost.own s || names lost.neighbour s

-- The sector s of the disk d below is lost.
abbrev pub IsLost : ℕ → Lost → DiskState → Type 0
IsLost s lost d = (is_lost lost s ≡ true) × (s < count d)

abbrev pub unless : Option ℕ → ℕ → Option ℕ
unless mark s = cond (names mark s) None mark

abbrev pub without : Lost → ℕ → Lost
without lost s = record { own = unless lost.own s; neighbour = unless lost.neighbour s }

abbrev pub kept : Answer → ℕ → Lost → Lost
kept (Ok _) s lost = without lost s
kept (Err _) s lost = lost

abbrev pub none : Lost
none = record { own = None; neighbour = None }

abbrev pub lost_by : Manner → ℕ → Lost
lost_by AsBefore s = none
lost_by NewBytes s = none
lost_by Own s = record { own = Some s; neighbour = None }
lost_by OwnAndBelow s = record { own = Some s; neighbour = Some (s - 1) }
lost_by OwnAndAbove s = record { own = Some s; neighbour = Some (s + 1) }

abbrev pub hide : Option ℕ → List Sector → List Sector
hide None l = l
hide (Some s) l = slice_set l s unreadable

abbrev pub masked : Lost → List Sector → List Sector
masked lost l = hide lost.neighbour (hide lost.own l)
