use Rattle.std.proofs.Common.{◌+◌, refl, ap, ◌∙◌, rules}
use Rattle.rows.specs.Lists.{first}
use Rattle.register.proofs.LeafPlaces.{first-is}
use Rattle.register.proofs.SeatLookUps.{above-here, above-past, above-next, page-at}
use Rattle.register.proofs.lookups.Lookup.above.Goals as goal

pub returns-in-Some : goal.returns-in-Some
returns-in-Some g c = above-here c.args.self.now.kept (search rules) c.home-seat.ensures c.as_slice.ensures.records refl c.in-Some.entry c.in-Some.ensures.lookup

pub returns-in_err-next : goal.returns-in_err-next
returns-in_err-next g c =
    c.from_residual.ensures ∙ above-past c.args.self.now.kept (search rules) c.home-seat.ensures c.as_slice.ensures.records c.as_slice-2.ensures.records c.in_default.ensures.lookup c.in_err-next.ensures.lookup

pub leaf-leaf-requires : goal.leaf-leaf-requires
leaf-leaf-requires g c =
    page-at c.args.self.now.kept (search rules) c.home-seat.ensures c.as_slice.ensures.records c.as_slice-2.ensures.records (c.home-seat.result.at + 1) c.in_ok-next.next c.in_ok-next.ensures.lookup

pub returns : goal.returns
returns g c =
    c.copied.ensures ∙ c.first.ensures.value ∙ first-is c.as_slice-3.result.now ∙ ap first (c.as_slice-3.ensures.records ∙ c.leaf-leaf.ensures)
    ∙ above-next c.args.self.now.kept (search rules) c.home-seat.ensures c.as_slice.ensures.records c.as_slice-2.ensures.records c.in_ok-next.next c.in_default.ensures.lookup c.in_ok-next.ensures.lookup
