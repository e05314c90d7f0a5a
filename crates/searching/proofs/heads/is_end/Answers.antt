use Rattle.std.proofs.Common.{arith}
use Rattle.searching.proofs.Seen.{end-seen}
use Rattle.searching.proofs.heads.is_end.Goals as goal

pub returns-clause-rule : goal.returns-clause-rule
returns-clause-rule g c =
    let st = g.D.Disk.state in
    end-seen c.args.sector c.args.end (st c.args.disk.now) (st c.read_value.new.disk) c.in_ok-read_value.field-0 c.eq.result (grind arith) (grind arith) c.in_ok-read_value.ensures.rule
