use Rattle.std.proofs.Common.{rules}
use Rattle.names.proofs.Stored.{stored-name}
use Rattle.names.proofs.name.Name.new.Goals as goal

pub invariant-of-result : goal.invariant-of-result
invariant-of-result c = search (rules, stored-name)
