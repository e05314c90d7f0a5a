use Rattle.std.proofs.lemmas.Result.{err_from_is_err_and}
use Rattle.thirds.specs.Words.{header_bytes}
use Rattle.forcing.proofs.Wrote.{wrote-one, stopped-first, wrote-rest}
use Rattle.journal.proofs.format.write_headers.Goals as goal

pub returns-in_err-write_value-clause-rule : goal.returns-in_err-write_value-clause-rule
unfolding header_bytes
returns-in_err-write_value-clause-rule g c =
    let exit = err_from_is_err_and c.from_residual.result c.from_residual.ensures.1 in
    rw (exit.1, exit.2) (stopped-first _ _ _ _ _ _ c.in_err-write_value.ensures.rule)

pub returns-clause-rule : goal.returns-clause-rule
unfolding header_bytes
returns-clause-rule g c = wrote-rest _ _ _ _ _ _ _ c.in_ok-write_value.ensures.rule (wrote-one _ _ _ _ _ c.write_value-2.ensures.rule)
