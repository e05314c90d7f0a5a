use Rattle.std.proofs.Common.{◌≡◌, replicate, refl, ◌∙◌, arith}
use Rattle.std.proofs.lemmas.Result.{err_from_is_err_and}
use Rattle.disk.specs.WriteLists.{run_of}
use Rattle.disk.proofs.DoneWrites.{done-none}
use Rattle.journal.proofs.SameBytes.{same-more, same-stopped, same-done}
use Rattle.journal.proofs.format.fill.Goals as goal

pub loop-i-init : goal.loop-i-init
loop-i-init g c = (done-none (run_of c.args.first (replicate c.args.count c.args.bytes.now)) _, refl)

pub loop-i-preserved : goal.loop-i-preserved
loop-i-preserved g c = (
  same-more _ _ _ _ _ _ _ (omega arith) c.loop-i.invariant.0 c.in_ok-write.ensures.rule,
  c.in_ok-write.ensures.same ∙ c.loop-i.invariant.1,
)

pub returns-in_err-write-clause-rule : goal.returns-in_err-write-clause-rule
returns-in_err-write-clause-rule g c =
    let exit = err_from_is_err_and c.from_residual.result c.from_residual.ensures.1 in
    rw (exit.1, exit.2) (same-stopped _ _ _ _ _ _ _ _ (omega arith) c.loop-i.invariant.0 c.in_err-write.ensures.rule)

pub returns-in_err-write-clause-same : goal.returns-in_err-write-clause-same
returns-in_err-write-clause-same g c = c.in_err-write.ensures.same ∙ c.loop-i.invariant.1

pub returns-clause-rule : goal.returns-clause-rule
returns-clause-rule g c =
    let all : c.loop-i.i ≡ c.args.count = omega arith in
    same-done _ _ _ _ _ (rw all at c.loop-i.invariant.0)
