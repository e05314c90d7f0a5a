-- The manners of a cut.
--     leaves          the sectors that a write of bytes to sector s leaves, in each manner
--     neighbour_of    the sector beside sector s that a manner makes unreadable too
--     number_of       a number for each manner
--     words_of        the words of a report, as ASCII codes
use Rattle.std.specs.Prelude.{ℕ, ◌+◌, ◌-◌, List, Option, Some, None, slice_set, codes}
use Rattle.disk.specs.Sectors.{Sector, unreadable, holds}
use Rattle.failing.specs.declared.manner.Manner.{Manner}
use Rattle.failing.specs.declared.manner.Manner.TheVariants.{AsBefore, NewBytes, Own, OwnAndBelow, OwnAndAbove}

abbrev pub leaves : Manner → ℕ → List ℕ → List Sector → List Sector
leaves AsBefore s bytes l = l
leaves NewBytes s bytes l = slice_set l s (holds bytes)
leaves Own s bytes l = slice_set l s unreadable
leaves OwnAndBelow s bytes l = slice_set (slice_set l s unreadable) (s - 1) unreadable
leaves OwnAndAbove s bytes l = slice_set (slice_set l s unreadable) (s + 1) unreadable

abbrev pub neighbour_of : Manner → ℕ → Option ℕ
neighbour_of AsBefore s = None
neighbour_of NewBytes s = None
neighbour_of Own s = None
neighbour_of OwnAndBelow s = Some (s - 1)
neighbour_of OwnAndAbove s = Some (s + 1)

abbrev pub number_of : Manner → ℕ
number_of AsBefore = 0
number_of NewBytes = 1
number_of Own = 2
number_of OwnAndBelow = 3
number_of OwnAndAbove = 4

abbrev pub words_of : Manner → List ℕ
words_of AsBefore = codes "the sector as before"
words_of NewBytes = codes "the sector with the new bytes"
words_of Own = codes "the sector unreadable"
words_of OwnAndBelow = codes "the sector and the one below it unreadable"
words_of OwnAndAbove = codes "the sector and the one above it unreadable"
