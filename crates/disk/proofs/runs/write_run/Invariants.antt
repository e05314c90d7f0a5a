use Rattle.std.proofs.Common.{◌≡◌, take}
use Rattle.disk.specs.WriteLists.{Done, run_of}
use Rattle.disk.proofs.runs.write_run.Given as goal

abbrev pub invariant-loop-i : goal.invariant-loop-i
invariant-loop-i g l =
    let st = g.D.Disk.state in
    Done (take l.i (run_of l.first l.blocks)) (st l.initial.disk) (st l.disk) × (g.D.Disk.layers l.disk ≡ g.D.Disk.layers l.initial.disk)
