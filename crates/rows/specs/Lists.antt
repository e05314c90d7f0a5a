-- Plain lists of entries in the order of their keys: `key` tells an entry's key, and `lt` whether one key comes before another.
--     comes_before     that test, where an order compares two keys
--     up_to            how many keys, from the first on, are not above k
--     insert           a list with one entry more, before the first whose key is above its own
--     remove           a list without the entry of a key
--     Sorted           each key comes before all behind it
--     look_up          the entry of a key
--     first_above      the first entry above a key
--     last_up_to       the last entry of those in front that are not above a key
--     or_else          the first of two answers that is one
--     first, last      a list's ends
--     put_at, without  a list with x put in at the place i, and without what stands there; the library's `insert` and `remove` do this, but are named as those by a key here
use Rattle.std.specs.Prelude.{◌≡◌, ℕ, suc, Bool, true, cond, List, [], ◌∷◌, ◌++◌, take, drop, Some, None, Option}
use Rattle.std.specs.List.{AllByRecursion}
use Rattle.std.specs.declared.cmp.Ordering.{Ordering}
use Rattle.std.specs.Ordering.{is_lt}

abbrev pub comes_before : {K : Type 0} → (K → K → Ordering) → K → K → Bool
comes_before cmp x y = is_lt (cmp x y)

module _ {K : Type 0} (lt : K → K → Bool) where
  abbrev pub up_to : K → List K → ℕ
  up_to k [] = 0
  up_to k (x ∷ xs) = cond (lt k x) 0 (suc (up_to k xs))

module _ {K E : Type 0} (key : E → K) (lt : K → K → Bool) where
  abbrev pub insert : E → List E → List E
  insert e [] = e ∷ []
  insert e (x ∷ xs) = cond (lt (key e) (key x)) (e ∷ x ∷ xs) (x ∷ insert e xs)

  abbrev pub remove : K → List E → List E
  remove k [] = []
  remove k (x ∷ xs) = cond (lt (key x) k) (x ∷ remove k xs) (cond (lt k (key x)) (x ∷ xs) xs)

  abbrev pub Sorted : List E → Type 0
  Sorted [] = Unit {0}
  Sorted (x ∷ xs) = AllByRecursion (λ y. lt (key x) (key y) ≡ true) xs × Sorted xs

  abbrev pub first_above : K → List E → Option E
  first_above k [] = None
  first_above k (x ∷ xs) = cond (lt k (key x)) (Some x) (first_above k xs)

abbrev pub or_else : {X : Type 0} → Option X → Option X → Option X
or_else (Some x) o = Some x
or_else None o = o

abbrev pub first : {X : Type 0} → List X → Option X
first [] = None
first (x ∷ xs) = Some x

abbrev pub last : {X : Type 0} → List X → Option X
last [] = None
last (x ∷ xs) = or_else (last xs) (Some x)

module _ {K E : Type 0} (key : E → K) (lt : K → K → Bool) where
  abbrev pub last_up_to : K → List E → Option E
  last_up_to k [] = None
  last_up_to k (x ∷ xs) = cond (lt k (key x)) None (or_else (last_up_to k xs) (Some x))

  abbrev pub look_up : K → List E → Option E
  look_up k [] = None
  look_up k (x ∷ xs) = cond (lt (key x) k) (look_up k xs) (cond (lt k (key x)) None (Some x))

abbrev pub put_at : {X : Type 0} → List X → ℕ → X → List X
put_at xs i x = take i xs ++ x ∷ drop i xs

abbrev pub without : {X : Type 0} → List X → ℕ → List X
without xs i = take i xs ++ drop (suc i) xs
