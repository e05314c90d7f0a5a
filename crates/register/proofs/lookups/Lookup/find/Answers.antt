use Rattle.std.proofs.Common.{eqb, refl, ◌∙◌, rules}
use Rattle.std.specs.Cmp.Lexicographic.{pointwise}
use Rattle.register.proofs.FoundEntries.{kept-is}
use Rattle.register.proofs.SeatLookUps.{found-by}
use Rattle.register.proofs.lookups.Lookup.find.Goals as goal

pub returns : goal.returns
returns g c =
    kept-is (λ e. pointwise eqb e.key c.args.key.now.bytes) c.copied-last.result c.filter.result _ c.filter.ensures (λ e b p. search rules)
    ∙ found-by c.args.self.now.kept (search rules) c.home-seat.ensures c.as_slice.ensures.records refl c.copied-last.result (c.copied-last.ensures ∙ c.last.ensures.value)
