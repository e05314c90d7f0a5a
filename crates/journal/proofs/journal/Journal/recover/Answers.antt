use Rattle.std.proofs.Common.{Result, Ok, Err, sym, ap, ◌∙◌, subst}
use Rattle.std.proofs.lemmas.Result.{err_from_is_err_and}
use Rattle.refusal.specs.declared.Refusal.{Refusal}
use Rattle.journal.proofs.Law.{recover-law}
use Rattle.journal.specs.Calls.{RecoverDoes}
use Rattle.journal.proofs.journal.Journal.recover.Goals as goal

pub returns-in_err-decide-clause-law : goal.returns-in_err-decide-clause-law
returns-in_err-decide-clause-law g c =
    let exit = err_from_is_err_and c.from_residual.result c.from_residual.ensures.1 in
    let st = g.D.Disk.state in
    let before = c.args.self.now in
    let after = c.decide.new.self in
    let does = λ (r : Result (Unit {0}) Refusal). RecoverDoes before.inner (st before.disk) r after.inner (st after.disk) in
    recover-law c.from_residual.result before.inner after.inner (st before.disk) (st after.disk) (subst does (sym (exit.1 ∙ ap Err exit.2)) c.in_err-decide.ensures.rule)

pub returns-clause-law : goal.returns-clause-law
returns-clause-law g c =
    let st = g.D.Disk.state in
    let before = c.args.self.now in
    let after = c.decide.new.self in
    recover-law (Ok tt) before.inner after.inner (st before.disk) (st after.disk) c.in_ok-decide.ensures.rule
