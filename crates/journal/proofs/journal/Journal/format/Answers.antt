use Rattle.std.proofs.Common.{Result, Err, sym, ap, ◌∙◌, subst}
use Rattle.std.proofs.lemmas.Result.{err_from_is_err_and}
use Rattle.refusal.specs.declared.Refusal.{Refusal}
use Rattle.journal.specs.Formats.{FormatDoes}
use Rattle.journal.proofs.journal.Journal.format.Goals as goal

pub returns-in_err-decide-clause-rule : goal.returns-in_err-decide-clause-rule
returns-in_err-decide-clause-rule g c =
    let exit = err_from_is_err_and c.from_residual.result c.from_residual.ensures.1 in
    let st = g.D.Disk.state in
    let before = c.args.self.now in
    let after = c.decide.new.self in
    let does = λ (r : Result (Unit {0}) Refusal). FormatDoes c.args.third c.args.images.now before.inner (st before.disk) r after.inner (st after.disk) in
    subst does (sym (exit.1 ∙ ap Err exit.2)) c.in_err-decide.ensures.rule
