use Rattle.std.proofs.Common.{◌+◌, ◌*◌, refl, ◌∙◌, arith}
use Rattle.std.proofs.lemmas.Result.{err_from_is_err_and}
use Rattle.thirds.specs.Words.{on}
use Rattle.searching.proofs.Logs.{begin, more, lost, nothing-more, ends-high}
use Rattle.searching.proofs.Steps.{first-start}
use Rattle.searching.proofs.log.read_log.Goals as goal
use Rattle.searching.proofs.log.read_log.Goals.{else-loop-group-test, then-loop-group-test+in_ok-next+in-Some+in_ok-take_in+else-group-lt4294967295}

pub loop-group-init : goal.loop-group-init
loop-group-init g c =
    let v = c.args.geometry.now in
    record {
      state = refl;
      layers = refl;
      begun = begin v.pages v.third c.args.anchor.third c.args.anchor.group (on (g.D.Disk.state c.args.disk.now).sectors) c.args.frames.now c.third_start-place.result (omega arith)
          (c.third_start-place.ensures ∙ first-start v.third c.args.anchor.third);
    }

pub returns-in_default-clause-rule : goal.returns-in_default-clause-rule
returns-in_default-clause-rule g c =
    let st = g.D.Disk.state in
    let v = c.args.geometry.now in
    let i = c.loop-group.invariant in
    nothing-more v.pages v.third c.args.anchor.third c.loop-group.third c.loop-group.place c.args.anchor.group c.loop-group.group (st c.args.disk.now) (st c.loop-group.disk) (st c.next_record.new.disk)
    c.args.frames.now c.loop-group.frames c.in_ok-next.next c.from.result i.state i.begun c.from.ensures c.in_ok-next.ensures.rule c.in_default.is

pub returns-in_err-take_in-clause-rule : goal.returns-in_err-take_in-clause-rule
returns-in_err-take_in-clause-rule g c =
    let st = g.D.Disk.state in
    let v = c.args.geometry.now in
    let i = c.loop-group.invariant in
    let r = c.from_residual-in_err-take_in in
    let p = err_from_is_err_and r.result r.ensures.1 in
    rw (p.1, p.2)
    (lost v.pages v.third c.args.anchor.third c.loop-group.third c.loop-group.place c.args.anchor.group c.loop-group.group (st c.args.disk.now) (st c.loop-group.disk) (st c.next_record.new.disk) (st c.take_in.new.disk)
    c.args.frames.now c.loop-group.frames c.take_in.new.frames c.in-Some.found i.state i.begun (rw c.in-Some.is at c.in_ok-next.ensures.rule) c.in_err-take_in.field-0.0 c.in_err-take_in.ensures.rule)

pub loop-group-preserved : goal.loop-group-preserved
loop-group-preserved g c =
    let st = g.D.Disk.state in
    let v = c.args.geometry.now in
    let i = c.loop-group.invariant in
    let next = more v.pages v.third c.args.anchor.third c.loop-group.third c.loop-group.place c.args.anchor.group c.loop-group.group (st c.args.disk.now) (st c.loop-group.disk) (st c.next_record.new.disk) (st c.take_in.new.disk)
    c.args.frames.now c.loop-group.frames c.take_in.new.frames c.in-Some.found i.state i.begun (rw c.in-Some.is at c.in_ok-next.ensures.rule) c.from-in-loop-group.result c.from-in-loop-group.ensures c.in_ok-take_in.ensures.rule in
    record {
      state = next.0;
      layers = c.in_ok-take_in.ensures.same ∙ c.in_ok-next.ensures.same ∙ i.layers;
      begun = next.1;
    }

pub returns-clause-rule : goal.returns-clause-rule
returns-clause-rule g c =
    let st = g.D.Disk.state in
    let v = c.args.geometry.now in
    let i = c.loop-group.invariant in
    elim c.loop-group-test.branch [
      | else-loop-group-test w ↦ absurd (omega arith)
      | then-loop-group-test+in_ok-next+in-Some+in_ok-take_in+else-group-lt4294967295 w ↦
          let next = more v.pages v.third c.args.anchor.third c.loop-group.third c.loop-group.place c.args.anchor.group c.loop-group.group (st c.args.disk.now) (st c.loop-group.disk) (st w.next_record.new.disk) (st w.take_in.new.disk)
          c.args.frames.now c.loop-group.frames w.take_in.new.frames w.in-Some.found i.state i.begun (rw w.in-Some.is at w.in_ok-next.ensures.rule) w.from-in-loop-group.result w.from-in-loop-group.ensures w.in_ok-take_in.ensures.rule in
          rw (w.disk-is, w.frames-is) (
            next.0,
            ends-high v.pages v.third c.args.anchor.third w.in-Some.found.third (w.in-Some.found.place + 5 + 2 * w.from-in-loop-group.result) c.args.anchor.group (c.loop-group.group + 1) (st c.args.disk.now)
                c.args.frames.now w.take_in.new.frames next.1 (g.D.Disk.sound c.args.disk.now) (omega arith),
          )
    ]
