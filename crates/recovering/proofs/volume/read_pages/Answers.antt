use Rattle.std.proofs.Common.{◌≡◌, ℕ, List, None, length, get_or, sym, ap, ◌∙◌, subst, arith}
use Rattle.std.proofs.lemmas.List.{length-map}
use Rattle.frames.specs.Frames.{none_held, unheld}
use Rattle.frames.specs.declared.frame.Frame.{Frame}
use Rattle.recovering.proofs.Blank.{blank-none}
use Rattle.std.proofs.lemmas.Result.{err_from_is_err_and}
use Rattle.recovering.proofs.VolumeReads.{log-off, homes-off, pages-seen}
use Rattle.recovering.proofs.volume.read_pages.Goals as goal

pub returns-in_err-missing-clause-rule : goal.returns-in_err-missing-clause-rule
returns-in_err-missing-clause-rule g c =
    let exit = err_from_is_err_and c.from_residual.result c.from_residual.ensures.1 in
    rw (exit.1, exit.2) (log-off _ _ _ _ _ _ _ _ _ _ (omega (arith, c.args.geometry.now.good.0)) c.in_err-missing.ensures.rule)

pub returns-in_err-lost-clause-rule : goal.returns-in_err-lost-clause-rule
returns-in_err-lost-clause-rule g c =
    let exit = err_from_is_err_and c.from_residual-in_err-lost.result c.from_residual-in_err-lost.ensures.1 in
    let log = c.in_ok-missing.ensures.rule in
    let blank = c.empty_log.ensures in
    let before = c.args.frames.now in
    let long = ap length blank ∙ length-map before unheld ∙ c.requires in
    let none = subst (λ (fs : List Frame). (i : ℕ) → (get_or fs i none_held).third ≡ None) (sym blank) (blank-none before) in
    rw (exit.1, exit.2) (homes-off _ _ _ _ _ _ log.1.0 _ _ long (λ i l. none i) log.1.1 log.1.2 _ _ _ _ log.0 c.in_err-lost.ensures.rule)

pub returns-clause-rule : goal.returns-clause-rule
returns-clause-rule g c =
    let log = c.in_ok-missing.ensures.rule in
    let homes = c.in_ok-lost.ensures.rule in
    let blank = c.empty_log.ensures in
    let before = c.args.frames.now in
    let long = ap length blank ∙ length-map before unheld ∙ c.requires in
    let none = subst (λ (fs : List Frame). (i : ℕ) → (get_or fs i none_held).third ≡ None) (sym blank) (blank-none before) in
    (homes.0 ∙ log.0, pages-seen _ _ _ _ _ _ log.1.0 _ _ long (λ i l. none i) log.1.1 log.1.2 _ _ _ log.0 homes.1)
