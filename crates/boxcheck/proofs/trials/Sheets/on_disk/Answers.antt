use Rattle.std.proofs.Common.{◌≡◌, None, replicate, sym, ap, subst, arith}
use Rattle.sheet.specs.Twins.{Both}
use Rattle.failing.specs.OfFailing.{off_of, failing_state}
use Rattle.boxcheck.proofs.Telling.{told}
use Rattle.boxcheck.proofs.NeverOther.{never-other, both-written, both-seen}
use Rattle.boxcheck.proofs.trials.Sheets.on_disk.Goals as goal

pub returns : goal.returns
returns g c =
    let st = g.D.Disk.state in
    let old = c.args.self.now.old in
    let new = c.args.self.now.new in
    let disk = c.new-disk.result in
    let lent : disk.below.now ≡ c.renew.new.disk = ap (λ r. r.now) c.new-disk.ensures.below in
    let whole : c.in_ok-sector.field-0 ≡ None = grind arith in
    let both = both-written old (replicate 512 0) c.renew.new.back c.in_ok-sector.field-0 (st c.args.part.now) (st c.renew.new.disk) whole c.in_ok-sector.ensures.rule in
    let seen = both-seen old (off_of disk) (st disk.below.now) (subst (λ p. Both 2 4 old (st p)) (sym lent) both) in
    let law = c.in_ok-cut.ensures.law (omega arith) old seen in
    let seen-as = failing_state (λ r. st r.now) in
    let cut = c.in_ok-cut.cut in
    record {
      law = never-other c.renew-2.new.back old new c.which-came.result cut c.which-came.ensures law.0;
      tells = told old new c.renew.new.back c.renew-2.new.back c.fetch.new.back c.args.failure.manner (seen-as disk) (seen-as c.renew-2.new.disk) (seen-as c.fetch.new.disk) (seen-as c.survey.new.disk) cut c.in_ok-readable.readable c.which-came.result c.in_ok-source.source seen c.in_ok-cut.ensures.rule c.in_ok-source.ensures.rule c.in_ok-readable.ensures.rule c.which-came.ensures;
    }
