use Rattle.std.proofs.Common.{rules}
use Rattle.register_check.specs.Extents.{ends_by}
use Rattle.std.proofs.lemmas.List.Sorted.{answers_always}
use Rattle.register_check.proofs.Chained.{chained-answer}
use Rattle.register_check.proofs.extents.in_turn.Goals as goal

pub returns : goal.returns
returns c = chained-answer (λ x y. ends_by x y.start) c.args.extents.now c.is_sorted_by.result (c.is_sorted_by.ensures.cases (λ x y. ends_by x y.start) (answers_always _ _ _ (λ f a r f2 k. search rules)))
