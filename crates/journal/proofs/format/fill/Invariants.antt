use Rattle.std.proofs.Common.{◌≡◌, take, replicate}
use Rattle.disk.specs.WriteLists.{Done, run_of}
use Rattle.journal.proofs.format.fill.Given as goal

abbrev pub invariant-loop-i : goal.invariant-loop-i
invariant-loop-i g l =
    let st = g.D.Disk.state in
    Done (take l.i (run_of l.first (replicate l.count l.bytes))) (st l.initial.disk) (st l.disk) × (g.D.Disk.layers l.disk ≡ g.D.Disk.layers l.initial.disk)
