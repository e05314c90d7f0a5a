-- The cases of the tables of places, sizes, names and trees come out by computing them; those of the log are lemmas.
use Rattle.std.proofs.Common.{refl, arith}
use Rattle.names.specs.Orders.{before}
use Rattle.cases.proofs.LogCases.{two-records, second-number, heads-lost}
use Rattle.cases.proofs.worked_cases.Goals as goal

pub returns : goal.returns
unfolding before
returns c = record {
  count = refl;
  hold = (refl, ((refl, refl, refl), ((refl, omega arith, refl, refl), (refl, (refl, (two-records, (second-number, (heads-lost, tt))))))));
}
