use Rattle.std.proofs.Common.{ap}
use Rattle.marking.proofs.Masking.{writes-seen}
use Rattle.marking.specs.Phases.{is_on}
use Rattle.marking.proofs.marking.MarkingDisk.write.Goals as goal

pub returns-in-On-clause-rule : goal.returns-in-On-clause-rule
returns-in-On-clause-rule g c =
    let st = g.D.Disk.state in
    let f = c.args.self.now in
    let e = st c.write-answer.new.self in
    let seen = writes-seen c.in-On.lost c.args.sector c.args.bytes.now (st f.below) c.write-answer.result e (f.known (ap is_on c.in-On.is)) c.write-answer.ensures.rule in
    rw (c.in-On.is, c.again-self.ensures, c.after.ensures) seen
