-- The thirds of the log.
--     number_of     a third's number, 0 to 2
--     third_of      the third with a number, or none
--     next_of       the third after one, 0 following 2
use Rattle.std.specs.Prelude.{ℕ, zero, suc, Some, None, Option}
use Rattle.geometry.specs.declared.third.Third.{Third}
use Rattle.geometry.specs.declared.third.Third.TheVariants.{Zero, One, Two}

abbrev pub number_of : Third → ℕ
number_of Zero = 0
number_of One = 1
number_of Two = 2

abbrev pub third_of : ℕ → Option Third
third_of zero = Some Zero
third_of (suc zero) = Some One
third_of (suc (suc zero)) = Some Two
third_of (suc (suc (suc n))) = None

abbrev pub next_of : Third → Third
next_of Zero = One
next_of One = Two
next_of Two = Zero
