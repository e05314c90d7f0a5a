use Rattle.std.proofs.Common.{◌≡◌, ◌∙◌, rules}
use Rattle.std.specs.List.{count_by}
use Rattle.frames.specs.declared.frame.Frame.{Frame}
use Rattle.frames.proofs.Heads.{changed-counted}
use Rattle.frames.proofs.table.changed_count.Goals as goal

pub returns : goal.returns
returns c =
    let counted : c.count.result ≡ count_by (λ (f : Frame). f.changed) c.args.frames.now = search rules in
    counted ∙ changed-counted c.args.frames.now
