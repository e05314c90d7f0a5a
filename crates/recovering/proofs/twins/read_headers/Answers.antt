use Rattle.std.proofs.Common.{Some, None}
use Rattle.recovering.proofs.TwoCopies.{headers-read}
use Rattle.recovering.proofs.twins.read_headers.Goals as goal

pub returns-in-Some-Some-clause-rule : goal.returns-in-Some-Some-clause-rule
returns-in-Some-Some-clause-rule g c =
    headers-read _ _ _ _ (Some c.in-Some-Some.value) (Some c.in-Some-Some.field-0-1) c.count-count.ensures (rw c.in-Some-Some.is-0 at c.in_ok-first.ensures.rule) (rw c.in-Some-Some.is-1 at c.in_ok-second.ensures.rule)

pub returns-in-Some-None-clause-rule : goal.returns-in-Some-None-clause-rule
returns-in-Some-None-clause-rule g c =
    headers-read _ _ _ _ (Some c.in-Some-None.value) None c.count-count.ensures (rw c.in-Some-None.is-0 at c.in_ok-first.ensures.rule) (rw c.in-Some-None.is-1 at c.in_ok-second.ensures.rule)

pub returns-in-None-Some-clause-rule : goal.returns-in-None-Some-clause-rule
returns-in-None-Some-clause-rule g c =
    headers-read _ _ _ _ None (Some c.in-None-Some.value) c.count-count.ensures (rw c.in-None-Some.is-0 at c.in_ok-first.ensures.rule) (rw c.in-None-Some.is-1 at c.in_ok-second.ensures.rule)
