use Rattle.std.proofs.Common.{◌≡◌, take}
use Rattle.frames.specs.Frames.{head_of}
use Rattle.frames.proofs.table.head_of.Given as goal

abbrev pub invariant-loop-page : goal.invariant-loop-page
invariant-loop-page l = l.head ≡ head_of l.group (take l.page l.frames)
