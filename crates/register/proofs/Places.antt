-- A leaf's entries with one more, and without that of a key, by place.
--     insert-is      the entry put in goes to the place after those not above it
--     remove-is      the entry taken out is the last that is not above the key
use Rattle.std.proofs.Common.{◌≡◌, ℕ, suc, ◌-◌, ◌≤◌, true, false, cond, List, [], ◌∷◌, map, Some, None, sym, refl, ap, ◌∙◌, subst, arith}
use Rattle.std.specs.List.{AllByRecursion}
use Rattle.std.proofs.lemmas.Bool.{cases_Bool}
use Rattle.names.specs.Orders.{before}
use Rattle.names.proofs.ByteOrder.{keys-ordered}
use Rattle.rows.specs.Lists.{up_to, insert, remove, look_up, Sorted, without}
use Rattle.rows.proofs.Sorting.{not_back}
use Rattle.pages.specs.declared.records.Entry.{Entry}
use Rattle.register.specs.Images.{key_of, with_entry, less_entry}

pub insert-is : (e : Entry) (es : List Entry) → insert key_of before e es ≡ with_entry es e
insert-is e [] = refl
insert-is e (x ∷ xs) = let h = insert-is e xs in grind (arith, cases_Bool (before e.key x.key))

up_to-some : (k : List ℕ) (es : List Entry) (e : Entry) → look_up key_of before k es ≡ Some e → 1 ≤ up_to before k (map key_of es)
up_to-some k [] e p = grind arith
up_to-some k (x ∷ xs) e p = grind (arith, not_back before keys-ordered k x.key, cases_Bool (before k x.key), cases_Bool (before x.key k))

up_to-none : (k : List ℕ) (es : List Entry) → AllByRecursion (λ y. before k y.key ≡ true) es → up_to before k (map key_of es) ≡ 0
up_to-none k [] a = refl
up_to-none k (x ∷ xs) a = grind arith

pub remove-is : (k : List ℕ) (es : List Entry) (e : Entry) → Sorted key_of before es → look_up key_of before k es ≡ Some e → remove key_of before k es ≡ less_entry es k
remove-is k [] e s p = refl
remove-is k (x ∷ xs) e s p =
    elim (before x.key k) as (λ b. before x.key k ≡ b → cond b (look_up key_of before k xs) (cond (before k x.key) None (Some x)) ≡ Some e
    → cond b (x ∷ remove key_of before k xs) (cond (before k x.key) (x ∷ xs) xs) ≡ less_entry (x ∷ xs) k) [
      | true ↦ λ q p. let u = up_to-some k xs e p in let n = not_back before keys-ordered x.key k q in
          let m : up_to before k (map key_of (x ∷ xs)) - 1 ≡ suc (up_to before k (map key_of xs) - 1) = grind arith in
          ap (λ ys. x ∷ ys) (remove-is k xs e s.1 p) ∙ ap (without (x ∷ xs)) (sym m)
      | false ↦ λ q p. let n : before k x.key ≡ false = grind (arith, cases_Bool (before k x.key)) in
          let h : k ≡ x.key = keys-ordered.decided k x.key n q in
          let u = up_to-none k xs (subst (λ y. AllByRecursion (λ z. before y z.key ≡ true) xs) (sym h) s.0) in
          let m : up_to before k (map key_of (x ∷ xs)) - 1 ≡ 0 = grind arith in
          ap (λ b. cond b (x ∷ xs) xs) n ∙ ap (without (x ∷ xs)) (sym m)
    ] refl p
