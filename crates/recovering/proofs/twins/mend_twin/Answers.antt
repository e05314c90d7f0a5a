use Rattle.forcing.proofs.Wrote.{done-nothing, wrote-one}
use Rattle.recovering.proofs.twins.mend_twin.Goals as goal

pub returns-in-Some-clause-rule : goal.returns-in-Some-clause-rule
returns-in-Some-clause-rule g c = rw c.in-Some.is (wrote-one c.in-Some.sector _ _ _ _ c.write_value.ensures.rule)

pub returns-in-None-clause-rule : goal.returns-in-None-clause-rule
returns-in-None-clause-rule g c = rw c.in-None.is (done-nothing _)
