use Rattle.std.proofs.Common.{◌≡◌, eqb, rules}
use Rattle.std.proofs.lemmas.Map.Entries.{option_filter}
use Rattle.layout.specs.declared.head.RecordHead.{RecordHead}
use Rattle.searching.proofs.Seen.{head-seen}
use Rattle.searching.proofs.heads.head_in.Goals as goal

pub returns-clause-rule : goal.returns-clause-rule
returns-clause-rule g c =
    let st = g.D.Disk.state in
    let kept : c.filter.result ≡ option_filter (λ (h : RecordHead). eqb h.group c.args.group) c.in_ok-head.head = search rules in
    head-seen c.args.pages c.args.sector c.args.group (st c.args.disk.now) (st c.read_value.new.disk) c.in_ok-head.head c.filter.result (g.D.Disk.sound c.args.disk.now) kept c.in_ok-head.ensures.rule
