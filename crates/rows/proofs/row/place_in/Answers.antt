use Rattle.std.proofs.Common.{cond, map, refl, ap, rules, tests, arith}
use Rattle.std.proofs.lemmas.Iterator.{YieldsList-from_slice}
use Rattle.std.proofs.lemmas.Iterator.Search.{position_from_yields_List}
use Rattle.std.proofs.lemmas.List.Recursion.{is_position_or_len}
use Rattle.std.proofs.lemmas.List.Sums.{prefix_len-le-length}
use Rattle.std.proofs.lemmas.Bool.Decides.{nat_tests}
use Rattle.rows.specs.Lists.{comes_before, up_to}
use Rattle.rows.proofs.row.place_in.Goals as goal

pub returns-clause-value : goal.returns-clause-value
returns-clause-value g c =
    let records = c.args.records.now in
    let test = λ (r : g.row.R.Denot). comes_before g.R.Key.Ord.cmp c.args.wanted.now (g.R.Keyed.key r) in
    let found = position_from_yields_List test _ _ c.position.result c.position.ensures.ran (YieldsList-from_slice records c.iter.ensures.rest) (λ x b q k. search (rules, tests)) in
    let same = is_position_or_len (λ rs. up_to (comes_before g.R.Key.Ord.cmp) c.args.wanted.now (map g.R.Keyed.key rs)) test refl (λ r rs. ap (cond (test r) 0) (omega arith)) records in
    grind (arith, nat_tests, found, same, prefix_len-le-length)
