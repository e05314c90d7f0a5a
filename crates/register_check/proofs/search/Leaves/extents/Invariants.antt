use Rattle.std.proofs.Common.{◌≡◌, ◌*◌, ◌≤◌, length, map, take}
use Rattle.tree.specs.Tree.{entries}
use Rattle.register.specs.Images.{node_of}
use Rattle.register_check.specs.Extents.{extent}
use Rattle.register_check.proofs.search.Leaves.extents.Given as goal

abbrev pub invariant-loop-item : goal.invariant-loop-item
invariant-loop-item g l =
    (length l.extents.items ≤ 15 * l.item-index)
    × (l.extents.items ≡ map extent (entries (map (node_of (map g.P.Paged.image l.self.pages.now)) (take l.item-index l.self.items))))
