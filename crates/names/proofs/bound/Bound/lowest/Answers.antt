use Rattle.std.proofs.Common.{refl}
use Rattle.names.proofs.ByteOrder.{zeros-below}
use Rattle.names.proofs.bound.Bound.lowest.Goals as goal

pub returns : goal.returns
returns c = record { value = refl; below = zeros-below }
