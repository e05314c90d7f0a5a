-- The separator of the root's first item.
--     zero_key-long      it has 22 bytes
--     zero_key-least     none of 22 bytes comes before it
use Rattle.std.proofs.Common.{◌≡◌, ℕ, false, List, length, replicate, refl, subst}
use Rattle.names.specs.Orders.{before}
use Rattle.names.proofs.ByteOrder.{zeros-least}
use Rattle.register.specs.Images.{zero_key}

pub zero_key-long : length zero_key ≡ 22
unfolding zero_key
zero_key-long = refl

pub zero_key-least : (k : List ℕ) → length k ≡ 22 → before k zero_key ≡ false
unfolding zero_key
zero_key-least k l = subst (λ n. before k (replicate n 0) ≡ false) l (zeros-least k)
