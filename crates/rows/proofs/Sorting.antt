-- Sorted lists: what their entries' order says of putting in, taking out and looking up.
--     le-lt, lt-le, le_trans, not_back     a total order, one step after another
--     all-parts, all_insert, all_remove    what holds of each entry
--     length-insert, length-remove         how many entries there are
--     insert-left, insert-right, remove-left, remove-right     entries far from the key stay where they are
--     sorted-append, sorted-parts          two sorted lists in a row
--     sorted_insert, sorted-remove         a sorted list stays sorted
--     first-left, first-right, last-left, last-right, entry-left, entry-right     a look up in two lists in a row
use Rattle.std.proofs.Common.{◌≡◌, suc, ◌≤◌, Bool, true, false, cond, List, [], ◌∷◌, ◌++◌, length, Some, None, Option, refl, ap, arith}
use Rattle.std.specs.List.{AllByRecursion}
use Rattle.std.proofs.lemmas.Bool.{cond_both, cases_Bool}
use Rattle.std.proofs.ByRecursion.{All-weaker, All-append}
use Rattle.names.specs.Orders.{Total}
use Rattle.rows.specs.Lists.{insert, remove, Sorted, first_above, last_up_to, look_up, or_else, first, last}

module _ {K : Type 0} (lt : K → K → Bool) (o : Total lt) where
  -- not above, then below
  pub le-lt : (x y z : K) → lt y x ≡ false → lt y z ≡ true → lt x z ≡ true
  le-lt x y z p q = grind (arith, o.transitive x y z, o.decided x y, cases_Bool (lt x y))

  pub lt-le : (x y z : K) → lt x y ≡ true → lt z y ≡ false → lt x z ≡ true
  lt-le x y z p q = grind (arith, o.transitive x y z, o.decided y z, cases_Bool (lt y z))

  pub le_trans : (x y z : K) → lt y x ≡ false → lt z y ≡ false → lt z x ≡ false
  le_trans x y z p q = grind (arith, le-lt y z x, cases_Bool (lt z x))

  pub not_back : (x y : K) → lt x y ≡ true → lt y x ≡ false
  not_back x y p = grind (arith, o.transitive x y x, o.irreflexive x, cases_Bool (lt y x))

pub all-parts : {X : Type 0} (P : X → Type 0) (xs ys : List X) → AllByRecursion P (xs ++ ys) → AllByRecursion P xs × AllByRecursion P ys
all-parts P [] ys a = (tt, a)
all-parts P (x ∷ xs) ys a = let h = all-parts P xs ys a.1 in ((a.0, h.0), h.1)

pub or-or : {X : Type 0} (a b c : Option X) → or_else (or_else a b) c ≡ or_else a (or_else b c)
or-or (Some x) b c = refl
or-or None b c = refl

module _ {K E : Type 0} (key : E → K) (lt : K → K → Bool) where
  pub all_insert : (P : E → Type 0) (e : E) (es : List E) → P e → AllByRecursion P es → AllByRecursion P (insert key lt e es)
  all_insert P e [] p a = (p, tt)
  all_insert P e (x ∷ xs) p a =
      cond_both (lt (key e) (key x)) (e ∷ x ∷ xs) (x ∷ insert key lt e xs) (AllByRecursion P) (λ _. (p, a)) (λ _. (a.0, all_insert P e xs p a.1))

  pub all_remove : (P : E → Type 0) (k : K) (es : List E) → AllByRecursion P es → AllByRecursion P (remove key lt k es)
  all_remove P k [] a = tt
  all_remove P k (x ∷ xs) a =
      cond_both (lt (key x) k) (x ∷ remove key lt k xs) (cond (lt k (key x)) (x ∷ xs) xs) (AllByRecursion P) (λ _. (a.0, all_remove P k xs a.1))
      (λ _. cond_both (lt k (key x)) (x ∷ xs) xs (AllByRecursion P) (λ _. a) (λ _. a.1))

  pub length-insert : (e : E) (es : List E) → length (insert key lt e es) ≡ suc (length es)
  length-insert e [] = refl
  length-insert e (x ∷ xs) =
      cond_both (lt (key e) (key x)) (e ∷ x ∷ xs) (x ∷ insert key lt e xs) (λ ys. length ys ≡ suc (suc (length xs))) (λ _. refl) (λ _. ap suc (length-insert e xs))

  -- an entry of the key goes, and no other
  pub length-remove : (k : K) (es : List E) (e : E) → look_up key lt k es ≡ Some e → suc (length (remove key lt k es)) ≡ length es
  length-remove k [] e p = grind arith
  length-remove k (x ∷ xs) e p = let h = length-remove k xs e in grind (arith, cases_Bool (lt (key x) k), cases_Bool (lt k (key x)))

  pub length-remove-le : (k : K) (es : List E) → length (remove key lt k es) ≤ length es
  length-remove-le k [] = omega arith
  length-remove-le k (x ∷ xs) = let h = length-remove-le k xs in grind (arith, cases_Bool (lt (key x) k), cases_Bool (lt k (key x)))

  -- entries that are not above stay in front of a new one, those above it behind
  pub insert-left : (e : E) (xs ys : List E) → AllByRecursion (λ x. lt (key e) (key x) ≡ false) xs → insert key lt e (xs ++ ys) ≡ xs ++ insert key lt e ys
  insert-left e [] ys a = refl
  insert-left e (x ∷ xs) ys a = let h = insert-left e xs ys a.1 in grind arith

  pub insert-right : (e : E) (ys zs : List E) → AllByRecursion (λ z. lt (key e) (key z) ≡ true) zs → insert key lt e (ys ++ zs) ≡ insert key lt e ys ++ zs
  insert-right e [] [] a = refl
  insert-right e [] (z ∷ zs) a = grind arith
  insert-right e (y ∷ ys) zs a = let h = insert-right e ys zs a in grind (arith, cases_Bool (lt (key e) (key y)))

  pub remove-left : (k : K) (xs ys : List E) → AllByRecursion (λ x. lt (key x) k ≡ true) xs → remove key lt k (xs ++ ys) ≡ xs ++ remove key lt k ys
  remove-left k [] ys a = refl
  remove-left k (x ∷ xs) ys a = let h = remove-left k xs ys a.1 in grind arith

  -- the parts of a list in order, and back
  pub sorted-append : (xs ys : List E) → Sorted key lt xs → Sorted key lt ys → AllByRecursion (λ x. AllByRecursion (λ y. lt (key x) (key y) ≡ true) ys) xs → Sorted key lt (xs ++ ys)
  sorted-append [] ys s t a = t
  sorted-append (x ∷ xs) ys s t a = (All-append (λ y. lt (key x) (key y) ≡ true) xs ys s.0 a.0, sorted-append xs ys s.1 t a.1)

  pub record Halves (xs ys : List E) : Type 0 where
    pub left : Sorted key lt xs
    pub right : Sorted key lt ys
    pub across : AllByRecursion (λ x. AllByRecursion (λ y. lt (key x) (key y) ≡ true) ys) xs

  pub sorted-parts : (xs ys : List E) → Sorted key lt (xs ++ ys) → Halves xs ys
  sorted-parts [] ys s = record { left = tt; right = s; across = tt }
  sorted-parts (x ∷ xs) ys s =
      let h = sorted-parts xs ys s.1 in
      let a = all-parts (λ y. lt (key x) (key y) ≡ true) xs ys s.0 in
      record { left = (a.0, h.left); right = h.right; across = (a.1, h.across) }

  module _ (o : Total lt) where
    pub remove-right : (k : K) (ys zs : List E) → AllByRecursion (λ z. lt k (key z) ≡ true) zs → remove key lt k (ys ++ zs) ≡ remove key lt k ys ++ zs
    remove-right k [] [] a = refl
    remove-right k [] (z ∷ zs) a = grind (arith, not_back lt o k (key z))
    remove-right k (y ∷ ys) zs a = let h = remove-right k ys zs a in grind (arith, cases_Bool (lt (key y) k), cases_Bool (lt k (key y)))

    pub all_above : (k x : K) (ys : List E) → lt k x ≡ true → AllByRecursion (λ y. lt x (key y) ≡ true) ys → AllByRecursion (λ y. lt k (key y) ≡ true) ys
    all_above k x ys p a = All-weaker (λ y. lt x (key y) ≡ true) (λ y. lt k (key y) ≡ true) (λ y q. o.transitive k x (key y) p q) ys a

    pub sorted_insert : (e : E) (es : List E) → Sorted key lt es → look_up key lt (key e) es ≡ None → Sorted key lt (insert key lt e es)
    sorted_insert e [] s n = (tt, tt)
    sorted_insert e (x ∷ xs) s n =
        cond_both (lt (key e) (key x)) (e ∷ x ∷ xs) (x ∷ insert key lt e xs) (Sorted key lt)
        (λ p. ((p, all_above (key e) (key x) xs p s.0), s))
        (λ p. let q : lt (key x) (key e) ≡ true = grind (arith, cases_Bool (lt (key x) (key e))) in
        let m : look_up key lt (key e) xs ≡ None = grind arith in
        (all_insert (λ y. lt (key x) (key y) ≡ true) e xs q s.0, sorted_insert e xs s.1 m))

    pub sorted-remove : (k : K) (es : List E) → Sorted key lt es → Sorted key lt (remove key lt k es)
    sorted-remove k [] s = tt
    sorted-remove k (x ∷ xs) s =
        cond_both (lt (key x) k) (x ∷ remove key lt k xs) (cond (lt k (key x)) (x ∷ xs) xs) (Sorted key lt)
        (λ _. (all_remove (λ y. lt (key x) (key y) ≡ true) k xs s.0, sorted-remove k xs s.1))
        (λ _. cond_both (lt k (key x)) (x ∷ xs) xs (Sorted key lt) (λ _. s) (λ _. s.1))

    -- look-ups in three parts: below, in, and above
    pub first-left : (k : K) (xs ys : List E) → AllByRecursion (λ x. lt k (key x) ≡ false) xs → first_above key lt k (xs ++ ys) ≡ first_above key lt k ys
    first-left k [] ys a = refl
    first-left k (x ∷ xs) ys a = let h = first-left k xs ys a.1 in grind arith

    pub first-right : (k : K) (ys zs : List E) → AllByRecursion (λ z. lt k (key z) ≡ true) zs → first_above key lt k (ys ++ zs) ≡ or_else (first_above key lt k ys) (first zs)
    first-right k [] [] a = refl
    first-right k [] (z ∷ zs) a = grind arith
    first-right k (y ∷ ys) zs a = let h = first-right k ys zs a in grind (arith, cases_Bool (lt k (key y)))

    pub last-left : (k : K) (xs ys : List E) → AllByRecursion (λ x. lt k (key x) ≡ false) xs → last_up_to key lt k (xs ++ ys) ≡ or_else (last_up_to key lt k ys) (last xs)
    last-left k [] ys a = elim (last_up_to key lt k ys) as (λ v. v ≡ or_else v None) [ Some x ↦ refl | None ↦ refl ]
    last-left k (x ∷ xs) ys a = let h = last-left k xs ys a.1 in grind (arith, or-or (last_up_to key lt k ys) (last xs) (Some x))

    pub last-right : (k : K) (ys zs : List E) → AllByRecursion (λ z. lt k (key z) ≡ true) zs → last_up_to key lt k (ys ++ zs) ≡ last_up_to key lt k ys
    last-right k [] [] a = refl
    last-right k [] (z ∷ zs) a = grind arith
    last-right k (y ∷ ys) zs a = let h = last-right k ys zs a in grind (arith, cases_Bool (lt k (key y)))

    pub entry-left : (k : K) (xs ys : List E) → AllByRecursion (λ x. lt (key x) k ≡ true) xs → look_up key lt k (xs ++ ys) ≡ look_up key lt k ys
    entry-left k [] ys a = refl
    entry-left k (x ∷ xs) ys a = let h = entry-left k xs ys a.1 in grind arith

    pub entry-right : (k : K) (ys zs : List E) → AllByRecursion (λ z. lt k (key z) ≡ true) zs → look_up key lt k (ys ++ zs) ≡ look_up key lt k ys
    entry-right k [] [] a = refl
    entry-right k [] (z ∷ zs) a = grind (arith, not_back lt o k (key z))
    entry-right k (y ∷ ys) zs a = let h = entry-right k ys zs a in grind (arith, cases_Bool (lt (key y) k), cases_Bool (lt k (key y)))
