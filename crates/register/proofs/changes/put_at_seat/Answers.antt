use Rattle.std.proofs.Common.{◌≡◌, ◌-◌, ◌<◌, [], ◌∷◌, map, length, sym, refl, ap, ◌∙◌, arith}
use Rattle.std.proofs.lemmas.Bool.Decides.{nat_tests}
use Rattle.std.proofs.lemmas.List.Edits.{length-insert}
use Rattle.rows.specs.Lists.{put_at}
use Rattle.tree.specs.Tree.{lowest}
use Rattle.pages.specs.Writes.{wrote}
use Rattle.register.specs.Images.{pages_of, write, leaf_page, put_writes, split_writes}
use Rattle.register.proofs.BySeat.{put-by-seat, full-by-seat, put-leaf}
use Rattle.register.proofs.RootPages.{free-below}
use Rattle.register.proofs.changes.put_at_seat.Goals as goal

pub split-requires-clause-free : goal.split-requires-clause-free
split-requires-clause-free g c =
    let s = c.args.seat in
    let f = full-by-seat (length c.args.pages.now) (map g.P.Paged.image c.args.pages.now) c.args.new.key s c.requires.seated in
    let r = c.requires.room in
    let long = ap length c.put_in.ensures ∙ length-insert s.leaf s.place c.args.new c.requires.seated.inside in
    let few : length s.items < length c.args.pages.now - 1 = grind (arith, nat_tests) in
    free-below s.items (length c.args.pages.now) few

pub returns-then-len-le-MOST_ENTRIES : goal.returns-then-len-le-MOST_ENTRIES
returns-then-len-le-MOST_ENTRIES g c =
    let pages = c.args.pages.now in
    let images = map g.P.Paged.image pages in
    let s = c.args.seat in
    let es = put_at s.leaf s.place c.args.new in
    let long = ap length c.put_in.ensures ∙ length-insert s.leaf s.place c.args.new c.requires.seated.inside in
    let by = put-by-seat (length pages) images c.args.new.key s c.requires.seated c.args.new refl in
    let one : put_writes (length pages) c.args.new images ≡ write s.page (leaf_page es) ∷ [] = grind (arith, nat_tests, by) in
    put-leaf g.P.Paged.written pages c.write_records.new.pages s.page c.as_slice.result.now es c.write_records.ensures (c.as_slice.ensures.records ∙ c.put_in.ensures) ∙ ap (λ ws. wrote g.P.Paged.written ws pages) (sym one)

pub returns-else-len-le-MOST_ENTRIES : goal.returns-else-len-le-MOST_ENTRIES
returns-else-len-le-MOST_ENTRIES g c =
    let pages = c.args.pages.now in
    let images = map g.P.Paged.image pages in
    let s = c.args.seat in
    let es = put_at s.leaf s.place c.args.new in
    let q = lowest (length pages - 1) 1 (pages_of s.items) in
    let long = ap length c.put_in.ensures ∙ length-insert s.leaf s.place c.args.new c.requires.seated.inside in
    let by = put-by-seat (length pages) images c.args.new.key s c.requires.seated c.args.new refl in
    let halves : put_writes (length pages) c.args.new images ≡ split_writes s.at s.page q s.items es = grind (arith, nat_tests, by) in
    rw (halves, sym c.put_in.ensures) c.split.ensures
