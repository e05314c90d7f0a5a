use Rattle.std.proofs.Common.{map, get_or, set, ap, ◌∙◌}
use Rattle.pages.proofs.Edits.{edit-set, map-edit}
use Rattle.pages.proofs.paged.write_at.Goals as goal

pub returns : goal.returns
returns g c =
    let pages = c.args.pages.now in
    let page = c.args.page in
    let f : g.row.P.Denot → g.row.P.Denot = λ p. g.P.Paged.written p c.args.bytes.now in
    let old = get_or pages page c.index-pages-page.result in
    let is = ap (set pages page) c.write.ensures ∙ edit-set f page pages old c.requires (ap (get_or pages page) c.index-pages-page.is) in
    record { pages = is; images = ap (map g.P.Paged.image) is ∙ map-edit g.P.Paged.image f c.args.bytes.now (λ x. g.P.Paged.holds x c.args.bytes.now) page pages }
