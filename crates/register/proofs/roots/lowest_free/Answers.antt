use Rattle.std.proofs.Common.{◌≡◌, ℕ, ◌-◌, Bool, true, false, Some, sym, subst, rules, tests}
use Rattle.std.specs.Option.{IsSome}
use Rattle.std.proofs.lemmas.Iterator.{first_from_Range}
use Rattle.tree.specs.Tree.{has, lowest}
use Rattle.register.specs.Images.{pages_of}
use Rattle.register.proofs.RootPages.{lowest-found}
use Rattle.register.proofs.roots.lowest_free.Goals as goal

pub unwrap-requires : goal.unwrap-requires
unwrap-requires c =
    let named : ℕ → Bool = λ p. has p (pages_of c.args.items.now) in
    subst IsSome
    (sym
    (lowest-found c.args.pages (pages_of c.args.items.now) c.find.result c.requires
    (first_from_Range _ _ _ c.find.result (λ p. named p ≡ false) (λ p. named p ≡ true) c.find.ensures.ran (λ p q k. search (rules, tests)) (λ p q k. search (rules, tests)))))
    (search rules)

pub returns : goal.returns
returns c =
    let named : ℕ → Bool = λ p. has p (pages_of c.args.items.now) in
    let found : c.find.result ≡ Some (lowest (c.args.pages - 1) 1 (pages_of c.args.items.now)) =
    lowest-found c.args.pages (pages_of c.args.items.now) c.find.result c.requires
    (first_from_Range _ _ _ c.find.result (λ p. named p ≡ false) (λ p. named p ≡ true) c.find.ensures.ran (λ p q k. search (rules, tests)) (λ p q k. search (rules, tests))) in
    cc
