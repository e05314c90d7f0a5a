use Rattle.std.proofs.Common.{◌≡◌}
use Rattle.sheet.proofs.Surveying.{Seen}
use Rattle.sheet.proofs.survey.survey.Given as goal

abbrev pub invariant-loop-i : goal.invariant-loop-i
invariant-loop-i g l =
    let st = g.D.Disk.state in
    Seen l.first (st l.initial.disk) (st l.disk) l.i l.mark-items × (g.D.Disk.layers l.disk ≡ g.D.Disk.layers l.initial.disk)
