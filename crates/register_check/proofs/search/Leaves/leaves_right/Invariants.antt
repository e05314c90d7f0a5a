use Rattle.std.proofs.Common.{◌≡◌, eqb, map, length, drop}
use Rattle.register_check.specs.Faults.{first_leaf}
use Rattle.register_check.proofs.search.Leaves.leaves_right.Given as goal

abbrev pub invariant-loop-i : goal.invariant-loop-i
invariant-loop-i g l =
    let leaves = l.self in
    let first_from = first_leaf l.area.first l.area.sectors (eqb (length leaves.items) 1) (map g.P.Paged.image leaves.pages.now) in
    first_from (drop l.i leaves.items) ≡ first_from leaves.items
