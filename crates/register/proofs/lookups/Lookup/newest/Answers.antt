use Rattle.std.proofs.Common.{map, length, sym, ap, ◌∙◌, rules}
use Rattle.names.specs.Orders.{before}
use Rattle.rows.specs.Lists.{last_up_to}
use Rattle.register.specs.Images.{key_of, entries_of}
use Rattle.register.specs.Names.{has_name}
use Rattle.register.proofs.FoundEntries.{kept-is}
use Rattle.register.proofs.NewestNames.{of_name, newest-stands}
use Rattle.register.proofs.lookups.Lookup.newest.Goals as goal

pub returns : goal.returns
returns g c =
    let name = c.args.name.now.bytes in
    let images = map g.P.Paged.image c.args.self.now.pages.now in
    kept-is (has_name name) c.last_up_to-last.result c.filter.result _ c.filter.ensures (λ e b p. search rules)
    ∙ ap (of_name name) (c.last_up_to-last.ensures ∙ ap (λ k. last_up_to key_of before k (entries_of images)) c.at.ensures)
    ∙ sym (newest-stands (length c.args.self.now.pages.now) name images c.args.self.now.kept)
