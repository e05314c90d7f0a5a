use Rattle.std.proofs.Common.{rules}
use Rattle.names.proofs.Stored.{stored-key, stored-byte-key}
use Rattle.names.proofs.key.Key.new.Goals as goal

pub invariant_of-result : goal.invariant_of-result
invariant_of-result c = search (rules, stored-key, stored-byte-key)
