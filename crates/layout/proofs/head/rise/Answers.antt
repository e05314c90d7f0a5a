use Rattle.std.proofs.Common.{ltb, rules}
use Rattle.std.proofs.lemmas.List.Sorted.{answers_always}
use Rattle.layout.proofs.PageNumbers.{rises-answer}
use Rattle.layout.proofs.head.rise.Goals as goal

pub returns : goal.returns
returns c = rises-answer c.args.pages.now c.is_sorted_by.result (c.is_sorted_by.ensures.cases ltb (answers_always _ _ _ (λ f a r f2 k. search rules)))
