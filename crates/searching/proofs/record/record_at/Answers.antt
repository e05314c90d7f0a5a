use Rattle.std.proofs.Common.{◌≡◌, arith}
use Rattle.std.proofs.lemmas.Result.{err_from_is_err_and}
use Rattle.searching.proofs.Steps.{last-start, unfit, endless, pageless, found, end-lost, page-lost}
use Rattle.searching.proofs.record.record_at.Goals as goal

pub returns-then-place-count-clause-rule : goal.returns-then-place-count-clause-rule
returns-then-place-count-clause-rule g c =
    let st = g.D.Disk.state in
    let v = c.args.geometry.now in
    let last = last-start v.third c.args.third in
    let hd = rw c.in-Some.is at c.in_ok-head.ensures.rule in
    unfit v.pages v.third c.args.third c.args.place c.args.group (st c.args.disk.now) (st c.first_head.new.disk) c.in-Some.head hd (omega arith)

pub returns-in_err-one_end-clause-rule : goal.returns-in_err-one_end-clause-rule
returns-in_err-one_end-clause-rule g c =
    let st = g.D.Disk.state in
    let v = c.args.geometry.now in
    let last = last-start v.third c.args.third in
    let n : c.from-count.result ≡ c.in-Some.head.count = cc in
    let hd = rw c.in-Some.is at c.in_ok-head.ensures.rule in
    let r = c.from_residual-in_err-one_end in
    let p = err_from_is_err_and r.result r.ensures.1 in
    rw (p.1, p.2)
    (end-lost v.pages v.third c.args.third c.args.place c.args.group (st c.args.disk.now) (st c.first_head.new.disk) c.in-Some.head hd c.from-count.result n
    c.in_err-one_end.field-0.0 (st c.one_end.new.disk) (omega arith) (c.in_err-one_end.ensures.rule v.pages))

pub returns-then-not-branch-clause-rule : goal.returns-then-not-branch-clause-rule
returns-then-not-branch-clause-rule g c =
    let st = g.D.Disk.state in
    let v = c.args.geometry.now in
    let n : c.from-count.result ≡ c.in-Some.head.count = cc in
    let hd = rw c.in-Some.is at c.in_ok-head.ensures.rule in
    endless v.pages v.third c.args.third c.args.place c.args.group (st c.args.disk.now) (st c.first_head.new.disk) c.in-Some.head hd c.from-count.result n
    c.in_ok-one_end.field-0 (st c.one_end.new.disk) c.if-not-branch.true (c.in_ok-one_end.ensures.rule v.pages)

pub returns-in_err-all_copied-clause-rule : goal.returns-in_err-all_copied-clause-rule
returns-in_err-all_copied-clause-rule g c =
    let st = g.D.Disk.state in
    let v = c.args.geometry.now in
    let last = last-start v.third c.args.third in
    let n : c.from-count.result ≡ c.in-Some.head.count = cc in
    let hd = rw c.in-Some.is at c.in_ok-head.ensures.rule in
    let r = c.from_residual-in_err-all_copied in
    let p = err_from_is_err_and r.result r.ensures.1 in
    rw (p.1, p.2)
    (page-lost v.pages v.third c.args.third c.args.place c.args.group (st c.args.disk.now) (st c.first_head.new.disk) c.in-Some.head hd c.from-count.result n
    c.in_ok-one_end.field-0 (st c.one_end.new.disk) c.if-not-branch.false (c.in_ok-one_end.ensures.rule v.pages)
    c.in_err-all_copied.field-0.0 (st c.all_copied.new.disk) (omega arith) c.in_err-all_copied.ensures.rule)

pub returns-then-not-branch-2-clause-rule : goal.returns-then-not-branch-2-clause-rule
returns-then-not-branch-2-clause-rule g c =
    let st = g.D.Disk.state in
    let v = c.args.geometry.now in
    let n : c.from-count.result ≡ c.in-Some.head.count = cc in
    let hd = rw c.in-Some.is at c.in_ok-head.ensures.rule in
    pageless v.pages v.third c.args.third c.args.place c.args.group (st c.args.disk.now) (st c.first_head.new.disk) c.in-Some.head hd c.from-count.result n
    c.in_ok-one_end.field-0 (st c.one_end.new.disk) c.if-not-branch.false (c.in_ok-one_end.ensures.rule v.pages)
    c.in_ok-all_copied.field-0 (st c.all_copied.new.disk) c.if-not-branch-2.true c.in_ok-all_copied.ensures.rule

pub returns-clause-rule : goal.returns-clause-rule
returns-clause-rule g c =
    let st = g.D.Disk.state in
    let v = c.args.geometry.now in
    let last = last-start v.third c.args.third in
    let n : c.from-count.result ≡ c.in-Some.head.count = cc in
    let hd = rw c.in-Some.is at c.in_ok-head.ensures.rule in
    found v.pages v.third c.args.third c.args.place c.args.group (st c.args.disk.now) (st c.first_head.new.disk) c.in-Some.head hd c.from-count.result n
    c.in_ok-one_end.field-0 (st c.one_end.new.disk) c.if-not-branch.false (c.in_ok-one_end.ensures.rule v.pages)
    c.in_ok-all_copied.field-0 (st c.all_copied.new.disk) c.if-not-branch-2.false (omega arith) c.in_ok-all_copied.ensures.rule
