use Rattle.std.proofs.Common.{Ok, Err, sym, ◌∙◌, arith}
use Rattle.std.proofs.lemmas.Result.{err_from_is_err_and}
use Rattle.disk.specs.WriteLists.{Done}
use Rattle.frames.proofs.Heads.{changed-few}
use Rattle.forcing.proofs.ForceWrites.{before, nothing-written, stopped-giving-up, done-before, none-before, record-written}
use Rattle.forcing.proofs.force.force.Goals as goal
use Rattle.forcing.proofs.force.force.Goals.{then-record+in_ok-give_up, else-record}

pub returns-then-not-any_changed-clause-rule : goal.returns-then-not-any_changed-clause-rule
returns-then-not-any_changed-clause-rule g c = nothing-written c.args.geometry.now.pages c.args.geometry.now.third c.args.log.now c.args.frames.now (sym c.any_changed.ensures ∙ c.if-not-any_changed.true) _

pub record_place-record-requires : goal.record_place-record-requires
record_place-record-requires g c = omega (arith, changed-few 0 c.args.frames.now)

pub advance-requires-clause-few : goal.advance-requires-clause-few
advance-requires-clause-few g c = omega (arith, changed-few 0 c.args.frames.now)

pub returns-in_err-give_up-clause-rule : goal.returns-in_err-give_up-clause-rule
returns-in_err-give_up-clause-rule g c =
    let exit = err_from_is_err_and c.from_residual.result c.from_residual.ensures.1 in
    let P = c.args.geometry.now.pages in
    let T = c.args.geometry.now.third in
    let count = c.changed_count-count.result in
    rw (exit.1, exit.2)
    (stopped-giving-up P T c.args.log.now c.args.frames.now count c.changed_count-count.ensures (sym c.any_changed.ensures ∙ c.if-not-any_changed.false)
    (sym c.record_place-record.ensures.gives_up ∙ c.if-record.true) _ _ _ c.in_err-give_up.ensures.rule)

pub returns-in_err-write_record-clause-rule : goal.returns-in_err-write_record-clause-rule
returns-in_err-write_record-clause-rule g c =
    let residual = c.from_residual-in_err-write_record in
    let exit = err_from_is_err_and residual.result residual.ensures.1 in
    let st = g.D.Disk.state in
    let P = c.args.geometry.now.pages in
    let T = c.args.geometry.now.third in
    let log = c.args.log.now in
    let frames = c.args.frames.now in
    let count = c.changed_count-count.result in
    let counted = c.changed_count-count.ensures in
    let goes = c.record_place-record in
    let done : Done (before P T log frames count counted) (st c.args.disk.now) (st c.if-record.disk) =
    elim c.if-record.branch [
      | then-record+in_ok-give_up w ↦
          rw w.disk-is (done-before P T log frames count counted (sym goes.ensures.gives_up ∙ w.if-record.true) _ _ w.in_ok-give_up.ensures.rule)
      | else-record w ↦ rw w.disk-is (none-before P T log frames count counted (sym goes.ensures.gives_up ∙ w.if-record.false) _)
    ] in
    rw (exit.1, exit.2)
    (record-written P T log frames count counted (sym c.any_changed.ensures ∙ c.if-not-any_changed.false) goes.result.place goes.ensures.place _ _ _ (Err _) done
    c.in_err-write_record.ensures.rule)

pub returns-clause-rule : goal.returns-clause-rule
returns-clause-rule g c =
    let st = g.D.Disk.state in
    let P = c.args.geometry.now.pages in
    let T = c.args.geometry.now.third in
    let log = c.args.log.now in
    let frames = c.args.frames.now in
    let count = c.changed_count-count.result in
    let counted = c.changed_count-count.ensures in
    let goes = c.record_place-record in
    let done : Done (before P T log frames count counted) (st c.args.disk.now) (st c.if-record.disk) =
    elim c.if-record.branch [
      | then-record+in_ok-give_up w ↦
          rw w.disk-is (done-before P T log frames count counted (sym goes.ensures.gives_up ∙ w.if-record.true) _ _ w.in_ok-give_up.ensures.rule)
      | else-record w ↦ rw w.disk-is (none-before P T log frames count counted (sym goes.ensures.gives_up ∙ w.if-record.false) _)
    ] in
    record-written P T log frames count counted (sym c.any_changed.ensures ∙ c.if-not-any_changed.false) goes.result.place goes.ensures.place _ _ _ (Ok tt) done
    c.in_ok-write_record.ensures.rule
