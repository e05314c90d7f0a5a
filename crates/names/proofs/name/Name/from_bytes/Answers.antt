use Rattle.std.proofs.Common.{rules}
use Rattle.names.proofs.Texts.{name-text}
use Rattle.names.proofs.name.Name.from_bytes.Goals as goal

pub returns-then-is_name : goal.returns-then-is_name
returns-then-is_name c = search (rules, name-text)
