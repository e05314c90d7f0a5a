use Rattle.std.proofs.Common.{◌≡◌, true, false, length, get_or, refl, ◌∙◌, rules, arith}
use Rattle.std.proofs.lemmas.Result.{err_from_is_err_and}
use Rattle.frames.specs.Frames.{forced_of, none_held}
use Rattle.recovering.proofs.Held.{some_third}
use Rattle.recovering.proofs.HomeWrites.{redo-first-stopped, redo-second-stopped, redo-done, redo-passed}
use Rattle.forcing.proofs.Wrote.{done-nothing}
use Rattle.recovering.proofs.redoing.redo_homes.Goals as goal
use Rattle.recovering.proofs.redoing.redo_homes.Goals.{then-is_some+in_ok-write+in_ok-write-2, else-is_some}

pub loop-page-init : goal.loop-page-init
loop-page-init g c = (λ log thirds. done-nothing _, refl)

pub returns-in_err-write-clause-rule : goal.returns-in_err-write-clause-rule
returns-in_err-write-clause-rule g c log thirds =
    let exit = err_from_is_err_and c.from_residual.result c.from_residual.ensures.1 in
    let held : some_third (get_or c.args.frames.now c.loop-page.page none_held).third ≡ true = search rules in
    rw (exit.1, exit.2)
    (redo-first-stopped log (forced_of c.args.frames.now) c.args.first c.args.second c.loop-page.page (length c.args.frames.now) _ _ _ _ _ (omega arith) (thirds c.loop-page.page (omega arith)) held
    (c.loop-page.invariant.0 log thirds) c.in_err-write.ensures.rule)

pub returns-in_err-write-2-clause-rule : goal.returns-in_err-write-2-clause-rule
returns-in_err-write-2-clause-rule g c log thirds =
    let exit = err_from_is_err_and c.from_residual-in_err-write-2.result c.from_residual-in_err-write-2.ensures.1 in
    let held : some_third (get_or c.args.frames.now c.loop-page.page none_held).third ≡ true = search rules in
    rw (exit.1, exit.2)
    (redo-second-stopped log (forced_of c.args.frames.now) c.args.first c.args.second c.loop-page.page (length c.args.frames.now) _ _ _ _ _ _ (omega arith) (thirds c.loop-page.page (omega arith)) held
    (c.loop-page.invariant.0 log thirds) c.in_ok-write.ensures.rule c.in_err-write-2.ensures.rule)

pub loop-page-preserved : goal.loop-page-preserved
loop-page-preserved g c = elim c.if-is_some.branch [
  | then-is_some+in_ok-write+in_ok-write-2 w ↦
      let held : some_third (get_or c.args.frames.now c.loop-page.page none_held).third ≡ true = search rules in
      rw w.disk-is (
        λ log thirds. redo-done log (forced_of c.args.frames.now) c.args.first c.args.second c.loop-page.page _ _ _ _ _ (thirds c.loop-page.page (omega arith)) held
            (c.loop-page.invariant.0 log thirds) w.in_ok-write.ensures.rule w.in_ok-write-2.ensures.rule,
        w.in_ok-write-2.ensures.same ∙ w.in_ok-write.ensures.same ∙ c.loop-page.invariant.1,
      )
  | else-is_some w ↦
      let passed : some_third (get_or c.args.frames.now c.loop-page.page none_held).third ≡ false = search rules in
      rw w.disk-is (
        λ log thirds. redo-passed log (forced_of c.args.frames.now) c.args.first c.args.second c.loop-page.page _ _ _ (thirds c.loop-page.page (omega arith)) passed (c.loop-page.invariant.0 log thirds),
        c.loop-page.invariant.1,
      )
]

pub returns-clause-rule : goal.returns-clause-rule
returns-clause-rule g c log thirds = let all : c.loop-page.page ≡ length c.args.frames.now = omega arith in rw (← all) (c.loop-page.invariant.0 log thirds)
