use Rattle.std.proofs.lemmas.Result.{err_from_is_err_and}
use Rattle.forcing.proofs.Wrote.{wrote-one, stopped-first, wrote-rest}
use Rattle.forcing.proofs.homes.write_both.Goals as goal

pub returns-in_err-write-clause-rule : goal.returns-in_err-write-clause-rule
returns-in_err-write-clause-rule g c =
    let exit = err_from_is_err_and c.from_residual.result c.from_residual.ensures.1 in
    rw (exit.1, exit.2) (stopped-first _ _ _ _ _ _ c.in_err-write.ensures.rule)

pub returns-clause-rule : goal.returns-clause-rule
returns-clause-rule g c = wrote-rest _ _ _ _ _ _ _ c.in_ok-write.ensures.rule (wrote-one _ _ _ _ _ c.write-2.ensures.rule)
