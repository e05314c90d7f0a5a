use Rattle.failing.proofs.Probed.{chosen-read}
use Rattle.failing.proofs.failing.FailingDisk.read.Goals as goal

pub returns-in_ok-probe-in-Before-eq0-clause-rule :
    goal.returns-in_ok-probe-in-Before-eq0-clause-rule
returns-in_ok-probe-in-Before-eq0-clause-rule g c = rw (c.in-Before-eq0.is, c.fail.ensures.0, c.fail.ensures.1) (chosen-read _ _ _ _ c.in_ok-probe-in-Before-eq0.ensures.rule)
