-- Going through entries in the order of keys.
--     all-above        all entries are above a key that comes before each of them
--     all-from         the same of a bound below every key
--     above-next       the entries above a key are the first of them and those above it
--     above-none       or there are none
use Rattle.std.proofs.Common.{◌≡◌, ℕ, true, cond, ltb, List, [], ◌∷◌, get_or, Some, None, refl, ap, ◌∙◌, subst, arith}
use Rattle.std.specs.List.{AllByRecursion}
use Rattle.std.proofs.ByRecursion.{All-weaker}
use Rattle.std.proofs.lemmas.Bool.{cases_Bool, cond_both, and_parts}
use Rattle.names.specs.Names.{is_key, is_byte_key}
use Rattle.names.specs.Orders.{before}
use Rattle.names.proofs.ByteOrder.{keys-ordered}
use Rattle.rows.specs.Lists.{first_above, Sorted}
use Rattle.rows.proofs.Sorting.{not_back}
use Rattle.pages.specs.declared.records.Entry.{Entry}
use Rattle.register.specs.Images.{key_of}
use Rattle.register.specs.Entries.{entries_above}

pub all-above : (k : List ℕ) (es : List Entry) → AllByRecursion (λ e. before k e.key ≡ true) es → entries_above k es ≡ es
all-above k [] a = refl
all-above k (x ∷ xs) a = ap (λ b. cond b (x ∷ entries_above k xs) (entries_above k xs)) a.0 ∙ ap (λ es. x ∷ es) (all-above k xs a.1)

pub all-from : (k : List ℕ) (es : List Entry) → ((j : List ℕ) → is_key j ≡ true → before k j ≡ true) → AllByRecursion (λ e. is_byte_key e.key ≡ true) es → entries_above k es ≡ es
all-from k es below keys =
    all-above k es (All-weaker (λ e. is_byte_key e.key ≡ true) (λ e. before k e.key ≡ true) (λ e p. below e.key (and_parts (is_key e.key) (ltb (get_or e.key 21 0) 256) p).0) es keys)

-- the first entry above a key is one of the list
first-in : (Q : Entry → Type 0) (k : List ℕ) (es : List Entry) (e : Entry) → AllByRecursion Q es → first_above key_of before k es ≡ Some e → Q e
first-in Q k [] e a p = grind arith
first-in Q k (x ∷ xs) e a p = let h = first-in Q k xs e a.1 in grind (arith, cases_Bool (before k x.key), a.0)

pub above-next : (k : List ℕ) (es : List Entry) (e : Entry) → Sorted key_of before es → first_above key_of before k es ≡ Some e → entries_above k es ≡ e ∷ entries_above e.key es
above-next k [] e s p = grind arith
above-next k (x ∷ xs) e s p =
    cond_both (before k x.key) (Some x) (first_above key_of before k xs) (λ o. o ≡ Some e → entries_above k (x ∷ xs) ≡ e ∷ entries_above e.key (x ∷ xs))
    (λ t q.
    let is : x ≡ e = cc in
    let own = keys-ordered.irreflexive x.key in
    let here = all-above x.key xs s.0 in
    let behind = all-above k xs (All-weaker (λ y. before x.key y.key ≡ true) (λ y. before k y.key ≡ true) (λ y. keys-ordered.transitive k x.key y.key t) xs s.0) in
    let h : entries_above k (x ∷ xs) ≡ x ∷ entries_above x.key (x ∷ xs) = grind arith in subst (λ y. entries_above k (x ∷ xs) ≡ y ∷ entries_above y.key (x ∷ xs)) is h)
    (λ f q.
    let h = above-next k xs e s.1 q in
    let back = not_back before keys-ordered x.key e.key (first-in (λ y. before x.key y.key ≡ true) k xs e s.0 q) in grind arith)
    p

pub above-none : (k : List ℕ) (es : List Entry) → first_above key_of before k es ≡ None → entries_above k es ≡ []
above-none k [] p = refl
above-none k (x ∷ xs) p = let h = above-none k xs in grind (arith, cases_Bool (before k x.key))
