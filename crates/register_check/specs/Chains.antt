-- Tests of a list, each element against the next.
--     chained      each element passes with the one behind it
--     rising       the keys of records rise
use Rattle.std.specs.Prelude.{ℕ, Bool, true, ◌&&◌, List, [], ◌∷◌}
use Rattle.names.specs.Orders.{before}

abbrev pub chained : {X : Type 0} → (X → X → Bool) → List X → Bool
chained test [] = true
chained test (x ∷ []) = true
chained test (x ∷ y ∷ ys) = test x y && chained test (y ∷ ys)

abbrev pub rising : {R : Type 0} → (R → List ℕ) → List R → Bool
rising key records = chained (λ x y. before (key x) (key y)) records
