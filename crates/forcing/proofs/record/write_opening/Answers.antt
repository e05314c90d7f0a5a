use Rattle.std.proofs.Common.{Ok, Err, refl}
use Rattle.std.proofs.lemmas.Result.{err_from_is_err_and}
use Rattle.forcing.proofs.HeadsAndEnds.{head-written}
use Rattle.forcing.proofs.Wrote.{write-as, stopped-first, wrote-rest}
use Rattle.forcing.proofs.record.write_opening.Goals as goal

pub returns-in_err-write_value-clause-rule : goal.returns-in_err-write_value-clause-rule
returns-in_err-write_value-clause-rule g c third =
    let exit = err_from_is_err_and c.from_residual.result c.from_residual.ensures.1 in
    let bytes = head-written c.args.head.now c.args.frames.now c.requires.head in
    rw (exit.1, exit.2) (stopped-first _ _ _ _ _ _ (write-as _ _ _ _ _ _ (Err _) refl bytes c.in_err-write_value.ensures.rule))

pub returns-in_err-write_value-2-clause-rule : goal.returns-in_err-write_value-2-clause-rule
returns-in_err-write_value-2-clause-rule g c third =
    let residual = c.from_residual-in_err-write_value-2 in
    let exit = err_from_is_err_and residual.result residual.ensures.1 in
    let bytes = head-written c.args.head.now c.args.frames.now c.requires.head in
    rw (exit.1, exit.2)
    (wrote-rest _ _ _ _ _ _ (Err _) (write-as _ _ _ _ _ _ (Ok tt) refl bytes c.in_ok-write_value.ensures.rule)
    (stopped-first _ _ _ _ _ _ (write-as _ _ _ _ _ _ (Err _) refl bytes c.in_err-write_value-2.ensures.rule)))

pub returns-clause-rule : goal.returns-clause-rule
returns-clause-rule g c third =
    let bytes = head-written c.args.head.now c.args.frames.now c.requires.head in
    wrote-rest _ _ _ _ _ _ _ (write-as _ _ _ _ _ _ (Ok tt) refl bytes c.in_ok-write_value.ensures.rule)
    (wrote-rest _ _ _ _ _ _ _ (write-as _ _ _ _ _ _ (Ok tt) refl bytes c.in_ok-write_value-2.ensures.rule) c.write_changed.ensures.rule)
