use Rattle.std.proofs.Common.{◌<◌, length, get_or, arith}
use Rattle.std.proofs.lemmas.List.{get_or_default}
use Rattle.std.proofs.lemmas.List.Edits.{map_over_more}
use Rattle.frames.specs.Frames.{released, none_held}
use Rattle.frames.proofs.table.release.Goals as goal

pub loop-frame-preserved : goal.loop-frame-preserved
loop-frame-preserved c =
    let items = c.loop-frame.frame-items in
    let i = c.loop-frame.frame-index in
    let within : i < length items = omega arith in
    let item = get_or items i none_held in
    rw c.release.ensures (map_over_more (released c.args.third) c.args.frames.now items i item (omega arith) c.loop-frame.invariant (get_or_default items i none_held item within))
