use Rattle.std.proofs.lemmas.Result.{err_from_is_err_and}
use Rattle.forcing.proofs.Wrote.{stopped-early, wrote-append}
use Rattle.recovering.proofs.volume.mend_homes.Goals as goal

pub returns-in_err-mend_side-clause-rule : goal.returns-in_err-mend_side-clause-rule
returns-in_err-mend_side-clause-rule g c σ marks =
    let exit = err_from_is_err_and c.from_residual.result c.from_residual.ensures.1 in
    rw (exit.1, exit.2) (stopped-early _ _ _ _ _ (c.in_err-mend_side.ensures.rule σ (λ i l. (marks i l).0)))

pub returns-clause-rule : goal.returns-clause-rule
returns-clause-rule g c σ marks = wrote-append _ _ _ _ _ _ (c.in_ok-mend_side.ensures.rule σ (λ i l. (marks i l).0)) (c.mend_side-2.ensures.rule σ (λ i l. (marks i l).1))
