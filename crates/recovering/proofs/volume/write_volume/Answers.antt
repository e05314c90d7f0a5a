use Rattle.std.proofs.Common.{◌≤◌, length, arith}
use Rattle.std.proofs.lemmas.Result.{err_from_is_err_and}
use Rattle.recovering.proofs.VolumeWrites.{stopped-header, stopped-anchor, stopped-mending, stopped-redoing, volume-written}
use Rattle.recovering.proofs.volume.write_volume.Goals as goal

pub returns-in_err-mend_twin-clause-rule : goal.returns-in_err-mend_twin-clause-rule
returns-in_err-mend_twin-clause-rule g c σ N it next =
    let exit = err_from_is_err_and c.from_residual.result c.from_residual.ensures.1 in
    let few : c.args.seen.now.geometry.pages ≤ length c.args.frames.now = omega (arith, c.args.seen.now.geometry.good.1) in
    rw (exit.1, exit.2) (stopped-header σ N c.args.seen.now c.args.frames.now it few _ _ c.first_homes-first.ensures c.second_homes-second.ensures _ _ _ c.in_err-mend_twin.ensures.rule)

pub returns-in_err-mend_twin-2-clause-rule : goal.returns-in_err-mend_twin-2-clause-rule
returns-in_err-mend_twin-2-clause-rule g c σ N it next =
    let exit = err_from_is_err_and c.from_residual-in_err-mend_twin-2.result c.from_residual-in_err-mend_twin-2.ensures.1 in
    let few : c.args.seen.now.geometry.pages ≤ length c.args.frames.now = omega (arith, c.args.seen.now.geometry.good.1) in
    rw (exit.1, exit.2)
    (stopped-anchor σ N c.args.seen.now c.args.frames.now it few _ _ c.first_homes-first.ensures c.second_homes-second.ensures _ _ c.in_ok-mend_twin.ensures.rule _ _ c.in_err-mend_twin-2.ensures.rule)

pub returns-in_err-mend_homes-clause-rule : goal.returns-in_err-mend_homes-clause-rule
returns-in_err-mend_homes-clause-rule g c σ N it next =
    let exit = err_from_is_err_and c.from_residual-in_err-mend_homes.result c.from_residual-in_err-mend_homes.ensures.1 in
    let few : c.args.seen.now.geometry.pages ≤ length c.args.frames.now = omega (arith, c.args.seen.now.geometry.good.1) in
    rw (exit.1, exit.2)
    (stopped-mending σ N c.args.seen.now c.args.frames.now it few _ _ c.first_homes-first.ensures c.second_homes-second.ensures _
    _ c.in_ok-mend_twin.ensures.rule _ c.in_ok-mend_twin-2.ensures.rule _ _ (c.in_err-mend_homes.ensures.rule σ))

pub returns-in_err-redo_homes-clause-rule : goal.returns-in_err-redo_homes-clause-rule
returns-in_err-redo_homes-clause-rule g c σ N it next =
    let exit = err_from_is_err_and c.from_residual-in_err-redo_homes.result c.from_residual-in_err-redo_homes.ensures.1 in
    let few : c.args.seen.now.geometry.pages ≤ length c.args.frames.now = omega (arith, c.args.seen.now.geometry.good.1) in
    rw (exit.1, exit.2)
    (stopped-redoing σ N c.args.seen.now c.args.frames.now it few _ _ c.first_homes-first.ensures c.second_homes-second.ensures _
    _ c.in_ok-mend_twin.ensures.rule _ c.in_ok-mend_twin-2.ensures.rule _ (c.in_ok-mend_homes.ensures.rule σ) _ _ (c.in_err-redo_homes.ensures.rule it.log))

pub returns-clause-rule : goal.returns-clause-rule
returns-clause-rule g c σ N it next =
    let few : c.args.seen.now.geometry.pages ≤ length c.args.frames.now = omega (arith, c.args.seen.now.geometry.good.1) in
    volume-written σ N c.args.seen.now c.args.frames.now it few _ _ c.first_homes-first.ensures c.second_homes-second.ensures _
    _ c.in_ok-mend_twin.ensures.rule _ c.in_ok-mend_twin-2.ensures.rule _ (c.in_ok-mend_homes.ensures.rule σ) _ (c.in_ok-redo_homes.ensures.rule it.log) _ next _ _ c.write_anchors.ensures.rule
