use Rattle.std.proofs.Common.{◌≡◌, ◌++◌, map, take, drop}
use Rattle.frames.specs.Frames.{released}
use Rattle.frames.proofs.table.release.Given as goal

abbrev pub invariant-loop-frame : goal.invariant-loop-frame
invariant-loop-frame l = l.frame-items ≡ map (released l.third) (take l.frame-index l.initial.frame-items) ++ drop l.frame-index l.initial.frame-items
