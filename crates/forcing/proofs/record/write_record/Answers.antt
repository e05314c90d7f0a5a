use Rattle.std.proofs.Common.{ap, rules}
use Rattle.std.proofs.lemmas.Result.{err_from_is_err_and}
use Rattle.layout.specs.declared.head.RecordHead.{RecordHead}
use Rattle.thirds.specs.Records.{opening}
use Rattle.forcing.specs.Force.{record_at, ending}
use Rattle.forcing.proofs.Wrote.{stopped-early, wrote-append}
use Rattle.forcing.proofs.record.write_record.Goals as goal

pub write_opening-requires-clause-head : goal.write_opening-requires-clause-head
write_opening-requires-clause-head g c = search rules

pub returns-in_err-write_opening-clause-rule : goal.returns-in_err-write_opening-clause-rule
returns-in_err-write_opening-clause-rule g c third =
    let exit = err_from_is_err_and c.from_residual.result c.from_residual.ensures.1 in
    let r = record_at third c.args.place c.args.group c.args.frames.now in
    let group = ap (λ (h : RecordHead). h.group) c.head_of-head.ensures in
    rw (exit.1, exit.2) (stopped-early (opening r) (ending r) _ _ _ (rw group at (c.in_err-write_opening.ensures.rule third)))

pub returns-clause-rule : goal.returns-clause-rule
returns-clause-rule g c third =
    let r = record_at third c.args.place c.args.group c.args.frames.now in
    let group = ap (λ (h : RecordHead). h.group) c.head_of-head.ensures in
    wrote-append (opening r) (ending r) _ _ _ _ (rw group at (c.in_ok-write_opening.ensures.rule third)) (rw group at (c.write_closing.ensures.rule third))
