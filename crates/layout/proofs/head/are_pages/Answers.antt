use Rattle.std.proofs.Common.{◌≡◌, ◌&&◌, ltb, sym, ap, ◌∙◌, arith}
use Rattle.std.specs.List.{list_all}
use Rattle.names.specs.Names.{zeros}
use Rattle.layout.specs.Heads.{good_pages, rises}
use Rattle.layout.proofs.PageNumbers.{pages-many, pages-split}
use Rattle.layout.proofs.head.are_pages.Goals as goal
use Rattle.layout.proofs.head.are_pages.Goals.{In-Some, then-rise, else-rise}

-- the three tests in a row
tests : (c : In-Some) → good_pages c.args.count 0 c.args.limit c.args.pages.now
    ≡ (rises 0 c.in-Some.listed.now && (list_all (λ p. ltb p c.args.limit) c.in-Some.listed.now && zeros c.in-Some.others.now))
tests c = ap (λ n. good_pages n 0 c.args.limit c.args.pages.now) (sym c.from.ensures) ∙ pages-split c.args.pages.now c.from.result c.args.limit c.in-Some.listed.now c.in-Some.others.now c.in-Some.ensures.cases

pub returns-in_default : goal.returns-in_default
returns-in_default c = let few = c.in_default.ensures.cases in sym (pages-many c.args.pages.now c.args.count 0 c.args.limit (omega arith))

pub returns-then-all_below : goal.returns-then-all_below
returns-then-all_below c = let t = tests (goal.at.returns-then-all_below c).In-Some in elim c.if-rise.branch [ then-rise w ↦ grind arith | else-rise w ↦ cc ]

pub returns-else-all_below : goal.returns-else-all_below
returns-else-all_below c = let t = tests (goal.at.returns-else-all_below c).In-Some in elim c.if-rise.branch [ then-rise w ↦ grind arith | else-rise w ↦ grind arith ]
