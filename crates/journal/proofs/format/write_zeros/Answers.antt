use Rattle.std.proofs.Common.{◌≡◌, ◌+◌, ◌-◌, ◌*◌, Err, arith}
use Rattle.std.proofs.lemmas.Result.{err_from_is_err_and}
use Rattle.journal.specs.Formats.{zeros}
use Rattle.forcing.proofs.Wrote.{stopped-first, wrote-rest}
use Rattle.journal.proofs.format.write_zeros.Goals as goal

pub returns-in_err-write-clause-rule : goal.returns-in_err-write-clause-rule
unfolding zeros
returns-in_err-write-clause-rule g c =
    let exit = err_from_is_err_and c.from_residual.result c.from_residual.ensures.1 in
    rw (exit.1, exit.2) (stopped-first _ _ _ _ _ _ c.in_err-write.ensures.rule)

pub returns-in_err-write-2-clause-rule : goal.returns-in_err-write-2-clause-rule
unfolding zeros
returns-in_err-write-2-clause-rule g c =
    let residual = c.from_residual-in_err-write-2 in
    let exit = err_from_is_err_and residual.result residual.ensures.1 in
    rw (exit.1, exit.2) (wrote-rest _ _ _ _ _ _ (Err _) c.in_ok-write.ensures.rule (stopped-first _ _ _ _ _ _ c.in_err-write-2.ensures.rule))

pub returns-clause-rule : goal.returns-clause-rule
unfolding zeros
returns-clause-rule g c =
    let many : c.first_homes.result - 4 ≡ 4 + 3 * c.args.geometry.now.third = omega (arith, c.first_homes.ensures) in
    wrote-rest _ _ _ _ _ _ _ c.in_ok-write.ensures.rule (wrote-rest _ _ _ _ _ _ _ c.in_ok-write-2.ensures.rule (rw many at c.fill.ensures.rule))
