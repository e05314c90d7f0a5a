use Rattle.std.proofs.Common.{rules}
use Rattle.std.proofs.lemmas.List.Sorted.{answers_always}
use Rattle.names.specs.Orders.{before}
use Rattle.names.proofs.ByteOrder.{lt-before}
use Rattle.register_check.proofs.Chained.{chained-answer}
use Rattle.register_check.proofs.keys.rising.Goals as goal

pub returns : goal.returns
returns g c =
    let test = λ (x y : g.row.R.Denot). before (g.R.Keyed.key x) (g.R.Keyed.key y) in
    chained-answer test c.args.records.now c.is_sorted_by.result (c.is_sorted_by.ensures.cases test (answers_always _ _ _ (λ f a r f2 k. lt-before _ _ _ (search rules))))
