use Rattle.std.proofs.Common.{ap}
use Rattle.failing.proofs.Probed.{chosen-read}
use Rattle.marking.specs.Phases.{is_on}
use Rattle.marking.proofs.Masking.{reads-seen}
use Rattle.marking.proofs.marking.MarkingDisk.read.Goals as goal

pub returns-in_ok-probe-in-Before-eq0-clause-rule :
    goal.returns-in_ok-probe-in-Before-eq0-clause-rule
returns-in_ok-probe-in-Before-eq0-clause-rule g c = rw (c.in-Before-eq0.is, c.fail.ensures.0, c.fail.ensures.1) (chosen-read _ _ _ _ c.in_ok-probe-in-Before-eq0.ensures.rule)

pub returns-else-is_gone-clause-rule : goal.returns-else-is_gone-clause-rule
returns-else-is_gone-clause-rule g c =
    let st = g.D.Disk.state in
    let f = c.args.self.now in
    let seen = reads-seen c.in-On.lost c.args.sector (st f.below) c.args.buffer.now c.read-answer.result (st c.read-answer.new.self) c.read-answer.new.buffer (f.known (ap is_on c.in-On.is)) (λ l. cc (c.if-is_gone.ensures.1 l)) c.read-answer.ensures.rule in
    rw (c.in-On.is, c.again-self.ensures) seen
