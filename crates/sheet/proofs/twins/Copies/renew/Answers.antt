use Rattle.std.proofs.Common.{◌+◌, ◌≤◌, Ok, Err, refl, ◌∙◌, arith}
use Rattle.std.proofs.lemmas.Result.{err_from_is_err_and}
use Rattle.disk.specs.Faults.{refusal_of}
use Rattle.sheet.specs.Twins.{unread}
use Rattle.sheet.proofs.Renewing.{rewrite-refused, left, law}
use Rattle.sheet.proofs.twins.Copies.renew.Goals as goal

pub returns-in_err-cut : goal.returns-in_err-cut
returns-in_err-cut g c =
    let st = g.D.Disk.state in
    let back = c.args.back.now in
    let why = rewrite-refused _ _ _ _ _ _ c.in_err-cut.ensures.rule in
    let exit = err_from_is_err_and c.from_residual.result c.from_residual.ensures.1 in
    rw (exit.1, exit.2) (record {
      law = law _ _ _ (st c.args.disk.now) (st c.rewrite.new.disk) back back (Err (refusal_of c.in_err-cut.field-0.0)) (refl, why);
      rule = (refl, why);
      near = λ close. absurd (omega arith);
      same = c.in_err-cut.ensures.same;
    })

pub returns-in_err-fetch : goal.returns-in_err-fetch
returns-in_err-fetch g c =
    let st = g.D.Disk.state in
    let old = c.args.back.now in
    let back = c.fetch.new.back in
    let done = c.in_ok-cut.ensures in
    let stopped = c.in_err-fetch.ensures in
    let why = unread c.in_ok-cut.cut (st c.rewrite.new.disk) c.in_err-fetch.field-0.0 refl done.rule stopped.rule.1 in
    let exit = err_from_is_err_and c.from_residual-in_err-fetch.result c.from_residual-in_err-fetch.ensures.1 in
    rw (exit.1, exit.2) (record {
      law = law _ _ _ (st c.args.disk.now) (st c.fetch.new.disk) old back (Err (refusal_of c.in_err-fetch.field-0.0)) (stopped.rule.0, why);
      rule = (stopped.rule.0, why);
      near = λ close. absurd (omega arith);
      same = stopped.same ∙ done.same;
    })

pub returns : goal.returns
returns g c =
    let st = g.D.Disk.state in
    let copies = c.args.self in
    let old = c.args.back.now in
    let back = c.fetch.new.back in
    let d = st c.args.disk.now in
    let e = st c.fetch.new.disk in
    let done = c.in_ok-cut.ensures in
    let got = c.in_ok-fetch.ensures in
    let apart : copies.first + 2 ≤ copies.second = omega arith in
    let rule = left _ _ c.args.sheet.now apart old back d (st c.rewrite.new.disk) e c.in_ok-fetch.field-0 c.in_ok-cut.cut done.rule got.rule in
    record {
      law = law _ _ _ d e old back (Ok c.in_ok-cut.cut) rule;
      rule = rule;
      near = λ close. absurd (omega arith);
      same = got.same ∙ done.same;
    }
