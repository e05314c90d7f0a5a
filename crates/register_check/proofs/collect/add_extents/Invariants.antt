use Rattle.std.proofs.Common.{◌≡◌, ◌++◌, map, take}
use Rattle.register_check.specs.Extents.{extent}
use Rattle.register_check.proofs.collect.add_extents.Given as goal

abbrev pub invariant-loop-entry : goal.invariant-loop-entry
invariant-loop-entry l = l.extents.items ≡ l.initial.extents.items ++ map extent (take l.entry-index l.entries)
