use Rattle.std.proofs.Common.{◌+◌, ◌<◌, length, Ok, Err, refl, ◌∙◌, arith}
use Rattle.std.proofs.lemmas.Result.{err_from_is_err_and}
use Rattle.frames.specs.Frames.{changed_from}
use Rattle.forcing.proofs.Wrote.{done-nothing, write-as}
use Rattle.forcing.proofs.ChangedPages.{changed-wrote, count-more, changed-rest, changed-stopped}
use Rattle.forcing.proofs.record.write_changed.Goals as goal
use Rattle.forcing.proofs.record.write_changed.Goals.{then-frame+in_ok-write, else-frame}

pub loop-frame-init : goal.loop-frame-init
unfolding changed_from
loop-frame-init g c = (omega arith, done-nothing _, refl)

pub returns-in_err-write-clause-rule : goal.returns-in_err-write-clause-rule
returns-in_err-write-clause-rule g c =
    let exit = err_from_is_err_and c.from_residual.result c.from_residual.ensures.1 in
    let frames = c.args.frames.now in
    let i = c.loop-frame.frame-index in
    let within : i < length frames = omega arith in
    let here = c.loop-frame.invariant.0 in
    rw (exit.1, exit.2)
    (changed-stopped frames (i + 1) c.args.first _ _ _
    (changed-wrote frames i within c.args.first _ _ _ (Err _) c.if-frame.true c.loop-frame.invariant.1 (write-as _ _ _ _ _ _ (Err _) here refl c.in_err-write.ensures.rule)))

pub loop-frame-preserved : goal.loop-frame-preserved
loop-frame-preserved g c =
    let frames = c.args.frames.now in
    let i = c.loop-frame.frame-index in
    let within : i < length frames = omega arith in
    let here = c.loop-frame.invariant.0 in
    elim c.if-frame.branch [
      | then-frame+in_ok-write w ↦
          let done = changed-wrote frames i within c.args.first _ _ _ (Ok tt) w.if-frame.true c.loop-frame.invariant.1 (rw here at w.in_ok-write.ensures.rule) in
          rw (w.disk-is, w.sector-is) (omega (arith, here, count-more frames i within w.if-frame.true), done, w.in_ok-write.ensures.same ∙ c.loop-frame.invariant.2)
      | else-frame w ↦ rw (changed-rest frames i within w.if-frame.false, w.disk-is, w.sector-is) c.loop-frame.invariant
    ]
