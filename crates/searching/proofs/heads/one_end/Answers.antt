use Rattle.std.proofs.Common.{arith}
use Rattle.std.proofs.lemmas.Result.{err_from_is_err_and}
use Rattle.searching.proofs.Seen.{ends-first, ends-second, ends-lost}
use Rattle.searching.proofs.heads.one_end.Goals as goal

pub returns-in_err-is_end-clause-rule : goal.returns-in_err-is_end-clause-rule
returns-in_err-is_end-clause-rule g c = λ P.
    let p = err_from_is_err_and c.from_residual.result c.from_residual.ensures.1 in
    rw (p.1, p.2) (c.args.first, omega arith, omega arith, c.in_err-is_end.ensures.rule P)

pub returns-in_err-is_end-2-clause-rule : goal.returns-in_err-is_end-2-clause-rule
returns-in_err-is_end-2-clause-rule g c = λ P.
    let st = g.D.Disk.state in
    let r = c.from_residual-in_err-is_end-2 in
    let p = err_from_is_err_and r.result r.ensures.1 in
    rw (p.1, p.2)
    (ends-lost P c.args.first c.args.second c.args.end.group c.args.end.count (st c.args.disk.now) (st c.is_end.new.disk) (st c.is_end-else-branch.new.disk) c.in_ok-is_end.field-0 c.in_err-is_end-2.field-0.0
    (omega arith) (c.in_ok-is_end.ensures.rule P) (c.in_err-is_end-2.ensures.rule P))

pub returns-then-branch-clause-rule : goal.returns-then-branch-clause-rule
returns-then-branch-clause-rule g c = λ P.
    let st = g.D.Disk.state in
    ends-first P c.args.first c.args.second c.args.end.group c.args.end.count (st c.args.disk.now) (st c.is_end.new.disk) c.in_ok-is_end.field-0 c.if-branch.true (c.in_ok-is_end.ensures.rule P)

pub returns-in_ok-is_end-2-clause-rule : goal.returns-in_ok-is_end-2-clause-rule
returns-in_ok-is_end-2-clause-rule g c = λ P.
    let st = g.D.Disk.state in
    ends-second P c.args.first c.args.second c.args.end.group c.args.end.count (st c.args.disk.now) (st c.is_end.new.disk) (st c.is_end-else-branch.new.disk) c.in_ok-is_end.field-0 c.in_ok-is_end-2.field-0
    c.if-branch.false (c.in_ok-is_end.ensures.rule P) (c.in_ok-is_end-2.ensures.rule P)
