use Rattle.std.proofs.Common.{List, get_or, set, ap, ◌∙◌}
use Rattle.pages.specs.Writes.{edit}
use Rattle.pages.specs.declared.records.Item.{Item}
use Rattle.register.specs.Images.{zero_key, item, no_item, root_page, zero_first}
use Rattle.register.proofs.RootPages.{zero_first-made}
use Rattle.register.proofs.roots.drop_item.Goals as goal

pub returns : goal.returns
unfolding zero_key
returns g c =
    let xs = c.take_out.new.self in
    let left = c.as_slice-2.ensures.records ∙ c.replace.ensures ∙ ap (λ is. set xs 0 (item zero_key (get_or is 0 no_item).page)) c.as_slice.ensures.records ∙ zero_first-made xs ∙ ap zero_first c.take_out.ensures in
    c.write_records.ensures ∙ ap (λ (is : List Item). edit (λ p. g.P.Paged.written p (root_page is)) 0 c.args.pages.now) left
