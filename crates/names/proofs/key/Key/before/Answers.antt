use Rattle.std.proofs.Common.{rules}
use Rattle.names.proofs.ByteOrder.{keys-ordered, lt-before}
use Rattle.names.proofs.key.Key.before.Goals as goal

pub returns : goal.returns
returns c = record { value = search (rules, lt-before); order = keys-ordered }
