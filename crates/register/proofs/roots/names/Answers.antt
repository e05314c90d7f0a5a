use Rattle.std.proofs.Common.{eqb, refl, rules}
use Rattle.std.proofs.lemmas.List.Recursion.{or_is}
use Rattle.tree.specs.Tree.{has}
use Rattle.register.specs.Images.{pages_of, no_item}
use Rattle.register.proofs.roots.names.Goals as goal

pub returns : goal.returns
returns c = or_is (λ is. has c.args.page (pages_of is)) (λ i. eqb c.args.page i.page) refl (λ _ _. refl) c.args.items.now no_item c.any.result (λ t. search rules) (λ t. search rules)
