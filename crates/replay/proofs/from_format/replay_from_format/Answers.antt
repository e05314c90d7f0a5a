use Rattle.std.proofs.Common.{ℕ, [], Result, Err, sym, ap, ◌∙◌, subst}
use Rattle.std.proofs.lemmas.Result.{err_from_is_err_and}
use Rattle.refusal.specs.declared.Refusal.{Refusal}
use Rattle.journal.specs.Runs.{formats}
use Rattle.replay.specs.Replays.{FromFormat}
use Rattle.replay.proofs.from_format.replay_from_format.Goals as goal

pub returns-in_err-format-clause-law : goal.returns-in_err-format-clause-law
returns-in_err-format-clause-law g c =
    let exit = err_from_is_err_and c.from_residual.result c.from_residual.ensures.1 in
    let st = g.D.Disk.state in
    let before = c.args.journal.now in
    let after = c.format.new.self in
    let goes = λ (r : Result ℕ Refusal). FromFormat c.args.third c.args.images.now c.args.steps.now c.args.outcomes.now before.inner (st before.disk) r after.inner (st after.disk) in
    subst goes (sym (exit.1 ∙ ap Err exit.2)) c.in_err-format.ensures.rule

pub returns-clause-law : goal.returns-clause-law
returns-clause-law g c =
    let st = g.D.Disk.state in
    let before = c.args.journal.now in
    let after = c.format.new.self in
    let (events, told, run, lawful) = c.replay.ensures.law c.args.third c.args.images.now [] (formats before.inner after.inner (st before.disk) (st after.disk) c.in_ok-format.ensures.rule) in
    (events, told, lawful)
