use Rattle.std.proofs.Common.{◌≡◌, ◌∙◌, arith}
use Rattle.std.proofs.lemmas.Result.{err_from_is_err_and}
use Rattle.sheet.proofs.Surveying.{more-seen, look-refused, all-seen}
use Rattle.sheet.proofs.survey.survey.Goals as goal

pub returns-in_err-mark : goal.returns-in_err-mark
returns-in_err-mark g c =
    let look = c.in_err-mark.ensures in
    let exit = err_from_is_err_and c.from_residual.result c.from_residual.ensures.1 in
    rw (exit.1, exit.2) (record { rule = look-refused _ _ _ _ _ c.loop-i.invariant.0 (omega arith) _ _ look.rule; same = look.same ∙ c.loop-i.invariant.1 })

pub loop-i-preserved : goal.loop-i-preserved
loop-i-preserved g c =
    let look = c.in_ok-mark.ensures in (
      more-seen _ _ _ _ _ c.loop-i.invariant.0 (omega arith) _ c.in_ok-mark.field-0 look.rule,
      look.same ∙ c.loop-i.invariant.1,
    )

pub returns : goal.returns
returns g c =
    let all : c.loop-i.i ≡ 5 = omega arith in
    record { rule = all-seen _ _ _ _ (rw all at c.loop-i.invariant.0); same = c.loop-i.invariant.1 }
