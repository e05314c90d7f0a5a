use Rattle.std.proofs.Common.{◌≡◌, false, true, length, get_or, sym, refl, ◌∙◌, rules, arith}
use Rattle.std.proofs.lemmas.Result.{err_from_is_err_and}
use Rattle.frames.specs.Frames.{forced_of}
use Rattle.recovering.proofs.HomeWrites.{mend-stopped, mend-done, mend-passed}
use Rattle.forcing.proofs.Wrote.{done-nothing}
use Rattle.recovering.proofs.mending.mend_side.Goals as goal
use Rattle.recovering.proofs.mending.mend_side.Goals.{then-lost-page+in_ok-write, else-lost-page}

pub loop-page-init : goal.loop-page-init
loop-page-init g c = (λ σ marks. done-nothing _, refl)

pub returns-in_err-write-clause-rule : goal.returns-in_err-write-clause-rule
returns-in_err-write-clause-rule g c σ marks =
    let exit = err_from_is_err_and c.from_residual.result c.from_residual.ensures.1 in
    let here : get_or c.args.lost.now c.loop-page.page false ≡ true = search rules in
    rw (exit.1, exit.2)
    (mend-stopped σ (forced_of c.args.frames.now) c.args.first c.loop-page.page (length c.args.frames.now) _ _ _ _ (omega arith) (sym (marks c.loop-page.page (omega arith)) ∙ here)
    (c.loop-page.invariant.0 σ marks) c.in_err-write.ensures.rule)

pub loop-page-preserved : goal.loop-page-preserved
loop-page-preserved g c = elim c.if-lost-page.branch [
  | then-lost-page+in_ok-write w ↦
      let here : get_or c.args.lost.now c.loop-page.page false ≡ true = search rules in
      rw w.disk-is (
        λ σ marks. mend-done σ (forced_of c.args.frames.now) c.args.first c.loop-page.page _ _ _ (sym (marks c.loop-page.page (omega arith)) ∙ here) (c.loop-page.invariant.0 σ marks) w.in_ok-write.ensures.rule,
        w.in_ok-write.ensures.same ∙ c.loop-page.invariant.1,
      )
  | else-lost-page w ↦
      let here : get_or c.args.lost.now c.loop-page.page false ≡ false = search rules in
      rw w.disk-is (
        λ σ marks. mend-passed σ (forced_of c.args.frames.now) c.args.first c.loop-page.page _ _ (sym (marks c.loop-page.page (omega arith)) ∙ here) (c.loop-page.invariant.0 σ marks),
        c.loop-page.invariant.1,
      )
]

pub returns-clause-rule : goal.returns-clause-rule
returns-clause-rule g c σ marks = let all : c.loop-page.page ≡ length c.args.frames.now = omega arith in rw (← all) (c.loop-page.invariant.0 σ marks)
