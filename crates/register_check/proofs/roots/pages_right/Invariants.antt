use Rattle.std.proofs.Common.{◌≡◌, length}
use Rattle.register_check.specs.Roots.{pages_right}
use Rattle.register_check.proofs.roots.pages_right.Given as goal

abbrev pub invariant-loop-item : goal.invariant-loop-item
invariant-loop-item l = pages_right l.pages l.rest ≡ pages_right l.pages l.items

abbrev pub decreases-loop-item : goal.decreases-loop-item
decreases-loop-item l = length l.rest
