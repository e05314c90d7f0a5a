use Rattle.std.proofs.Common.{◌≡◌, eqb, refl, rules, arith}
use Rattle.std.proofs.lemmas.Bool.Decides.{nat_tests}
use Rattle.std.proofs.lemmas.List.Recursion.{or_is}
use Rattle.tree.specs.Tree.{has}
use Rattle.register.specs.Images.{pages_of, no_item}
use Rattle.register_check.proofs.roots.page_right.Goals as goal

pub returns-then-from-pages : goal.returns-then-from-pages
returns-then-from-pages c =
    let named : c.any.result ≡ has c.args.item.now.page (pages_of c.args.later.now) = or_is (λ is. has c.args.item.now.page (pages_of is)) (λ i. eqb c.args.item.now.page i.page) refl (λ _ _. refl) c.args.later.now no_item c.any.result (λ t. search rules) (λ t. search rules) in
    grind (arith, nat_tests)
