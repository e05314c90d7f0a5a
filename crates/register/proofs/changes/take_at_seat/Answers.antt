use Rattle.std.proofs.Common.{◌≡◌, ◌-◌, [], ◌∷◌, map, length, sym, refl, ap, ◌∙◌, arith}
use Rattle.std.proofs.lemmas.Bool.Decides.{nat_tests}
use Rattle.rows.specs.Lists.{without}
use Rattle.pages.specs.Writes.{wrote}
use Rattle.register.specs.Images.{write, leaf_page, root_page, zero_first, take_writes}
use Rattle.register.proofs.BySeat.{take-by-seat, put-leaf, take-root}
use Rattle.register.proofs.changes.take_at_seat.Goals as goal
use Rattle.register.proofs.changes.take_at_seat.Goals.{else-len-gt1-via-then-len-gt1+else-len-eq0, else-len-gt1-via-else-len-gt1}

pub returns-then-len-eq0 : goal.returns-then-len-eq0
returns-then-len-eq0 g c =
    let pages = c.args.pages.now in
    let images = map g.P.Paged.image pages in
    let s = c.args.seat in
    let es = without s.leaf (s.place - 1) in
    let root = zero_first (without s.items s.at) in
    let long = ap length c.take_out.ensures in
    let by = take-by-seat (length pages) images c.args.key.now s c.requires.seated in
    let two : take_writes c.args.key.now images ≡ write s.page (leaf_page es) ∷ write 0 (root_page root) ∷ [] = grind (arith, nat_tests, by) in
    take-root g.P.Paged.written pages c.write_records.new.pages c.drop_item.new.pages s.page c.as_slice.result.now es root root c.write_records.ensures (c.as_slice.ensures.records ∙ c.take_out.ensures) c.drop_item.ensures refl
    ∙ ap (λ ws. wrote g.P.Paged.written ws pages) (sym two)

pub returns-else-len-gt1 : goal.returns-else-len-gt1
returns-else-len-gt1 g c =
    let pages = c.args.pages.now in
    let images = map g.P.Paged.image pages in
    let s = c.args.seat in
    let es = without s.leaf (s.place - 1) in
    let long = ap length c.take_out.ensures in
    let by = take-by-seat (length pages) images c.args.key.now s c.requires.seated in
    let one : take_writes c.args.key.now images ≡ write s.page (leaf_page es) ∷ [] =
    elim c.else-len-gt1.branch [ else-len-gt1-via-then-len-gt1+else-len-eq0 w ↦ grind (arith, nat_tests, by) | else-len-gt1-via-else-len-gt1 w ↦ grind (arith, nat_tests, by) ] in
    put-leaf g.P.Paged.written pages c.write_records.new.pages s.page c.as_slice.result.now es c.write_records.ensures (c.as_slice.ensures.records ∙ c.take_out.ensures) ∙ ap (λ ws. wrote g.P.Paged.written ws pages) (sym one)
