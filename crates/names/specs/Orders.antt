-- The order of keys, and what makes a test an order.
--     before       byte by byte, the first that differs decides; the empty list comes before any other
--     Total        a test orders all of K: nothing comes before itself, what comes before y comes before all that y comes before, and of two that differ one comes first
use Rattle.std.specs.Prelude.{◌≡◌, ℕ, Bool, true, false, cond, List, [], ◌∷◌, ◌==◌, nat_lt}

unfoldable pub before : List ℕ → List ℕ → Bool
before [] [] = false
before [] (y ∷ ys) = true
before (x ∷ xs) [] = false
before (x ∷ xs) (y ∷ ys) = cond (x == y) (before xs ys) (nat_lt x y)

pub record Total {K : Type 0} (before : K → K → Bool) : Type 0 where
  pub irreflexive : (x : K) → before x x ≡ false
  pub transitive : (x y z : K) → before x y ≡ true → before y z ≡ true → before x z ≡ true
  pub decided : (x y : K) → before x y ≡ false → before y x ≡ false → x ≡ y
