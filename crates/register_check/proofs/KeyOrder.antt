-- What the comparisons of two keys answer.
--     comparisons      `<`, and `>=`: the first does not come before the second
use Rattle.names.proofs.ByteOrder.{lt-before}
use Rattle.rows.proofs.KeyOrder.{ge-before}

pub ruleset comparisons = (lt-before, ge-before)
