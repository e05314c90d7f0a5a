use Rattle.std.proofs.Common.{refl, ap, ◌∙◌, rules}
use Rattle.rows.specs.Lists.{last}
use Rattle.register.proofs.LeafPlaces.{last-is}
use Rattle.register.proofs.SeatLookUps.{up_to-here, up_to-past, up_to-prior, page-before}
use Rattle.register.proofs.lookups.Lookup.last_up_to.Goals as goal

pub returns-in-Some : goal.returns-in-Some
returns-in-Some g c = up_to-here c.args.self.now.kept (search rules) c.home-seat.ensures c.as_slice.ensures.records refl c.in-Some.last.now c.in-Some.ensures.value

pub returns-in_err-before : goal.returns-in_err-before
returns-in_err-before g c =
    c.from_residual.ensures ∙ up_to-past c.args.self.now.kept (search rules) c.home-seat.ensures c.as_slice.ensures.records c.as_slice-2.ensures.records c.in_default.ensures.value c.in_err-before.ensures.value

pub leaf-leaf-requires : goal.leaf-leaf-requires
leaf-leaf-requires g c = page-before c.args.self.now.kept (search rules) c.home-seat.ensures c.as_slice.ensures.records c.as_slice-2.ensures.records c.in_ok-before.before.now c.in_ok-before.ensures.value

pub returns : goal.returns
returns g c =
    c.copied.ensures ∙ c.last-3.ensures.value ∙ last-is c.as_slice-3.result.now ∙ ap last (c.as_slice-3.ensures.records ∙ c.leaf-leaf.ensures)
    ∙ up_to-prior c.args.self.now.kept (search rules) c.home-seat.ensures c.as_slice.ensures.records c.as_slice-2.ensures.records c.in_ok-before.before.now c.in_default.ensures.value c.in_ok-before.ensures.value
