use Rattle.std.proofs.Common.{◌≡◌, length, rules, ◌∙◌, arith}
use Rattle.std.proofs.lemmas.Iterator.{cases_from_all, YieldsList-from_slice}
use Rattle.std.proofs.lemmas.List.Elements.{recursion_from_All}
use Rattle.std.specs.List.{AllByRecursion}
use Rattle.geometry.specs.Places.{Good}
use Rattle.journal.specs.Calls.{Loggable}
use Rattle.journal.proofs.format.geometry_for.Goals as goal
use borrow.Author.Tests.{tests}

pub returns : goal.returns
returns c =
    let made = c.in_ok-geometry.ensures.made in
    let images = c.args.images.now in
    let many : c.in_ok-pages.pages ≡ length images = search rules in
    let good : Good (length images) c.args.third c.args.sectors = rw many at made.3 in
    let each = cases_from_all _ _ _ Loggable (λ x. Loggable x → ⊥) c.if-not-all.ensures.ran (YieldsList-from_slice images cc) (λ x q k. search (rules, tests)) (λ x q k. search (rules, tests)) in
    let loggable : AllByRecursion Loggable images = recursion_from_All Loggable images (λ k d h. each k d (omega arith) h) in
    ((good, loggable), made.0 ∙ many, made.1, made.2)
