use Rattle.std.proofs.Common.{map, length, arith}
use Rattle.std.proofs.lemmas.List.{length-map}
use Rattle.register_check.proofs.Outcomes.{items-inside, root-fault, leaves-fault}
use Rattle.register_check.proofs.Verdicts.{verdict}
use Rattle.register_check.proofs.check.check.Goals as goal

pub invariant_of-check : goal.invariant_of-check
invariant_of-check g c = record { named = items-inside (length c.args.pages.now) c.image_at-root.result c.read_row-items.result (rw c.as_slice.ensures.records at c.if-not-root_right.ensures) }

pub returns-then-not-root_right : goal.returns-then-not-root_right
returns-then-not-root_right g c =
    let pages = c.args.pages.now in
    let images = map g.P.Paged.image pages in
    let right = rw c.as_slice.ensures.records at c.if-not-root_right.ensures in
    let v = root-fault c.args.area.first c.args.area.sectors (length pages) images c.image_at-root.result c.read_row-items.result c.image_at-root.ensures c.read_row-items.ensures right in
    record { value = v; law = (_, v, verdict c.args.area.first c.args.area.sectors (length pages) images c.requires.0 c.requires.1 (length-map pages g.P.Paged.image) (omega arith)) }

pub returns : goal.returns
returns g c =
    let pages = c.args.pages.now in
    let images = map g.P.Paged.image pages in
    let right = rw c.as_slice.ensures.records at c.if-not-root_right.ensures in
    let v = leaves-fault c.args.area.first c.args.area.sectors (length pages) images c.image_at-root.result c.read_row-items.result c.image_at-root.ensures c.read_row-items.ensures c.check.result right c.check.ensures in
    record { value = v; law = (_, v, verdict c.args.area.first c.args.area.sectors (length pages) images c.requires.0 c.requires.1 (length-map pages g.P.Paged.image) (omega arith)) }
