-- What a leaf holds for a key, by the key's place: how many entries, from the first on, are not above it.
--     of-key           an entry, if it has a key
--     look_up-is       the key's entry is the last before the place, if it has that key
--     above-is         the lowest entry above the key is the one at the place
--     up_to-is         the highest entry not above it is the last before the place
--     got              what `get` answers
--     first-is, last-is    the first element of a list and the last, by their places
use Rattle.std.proofs.Common.{◌≡◌, ℕ, suc, ◌-◌, true, false, cond, List, [], ◌∷◌, map, length, take, Some, None, Option, eqb, sym, refl, ap, ◌∙◌, subst, arith}
use Rattle.std.specs.List.{AllByRecursion, slice_get}
use denote.Ref.{Bor}
use Rattle.std.specs.Option.{option_copied}
use Rattle.std.specs.Slice.{IsItemAt}
use Rattle.std.proofs.lemmas.Option.{slice_get_past, slice_get_read}
use Rattle.std.specs.Cmp.Lexicographic.{pointwise, bytes_decides}
use Rattle.std.proofs.lemmas.Bool.{cond_both, false_from_ne_true}
use Rattle.names.specs.Orders.{before}
use Rattle.names.proofs.ByteOrder.{keys-ordered}
use Rattle.rows.specs.Lists.{up_to, look_up, first_above, last_up_to, Sorted, or_else, first, last}
use Rattle.rows.proofs.Sorting.{not_back, last-right}
use Rattle.pages.specs.declared.records.Entry.{Entry}
use Rattle.register.specs.Images.{key_of}
use Rattle.register.proofs.FoundEntries.{kept}

pub above-is : (k : List ℕ) (es : List Entry) → first_above key_of before k es ≡ slice_get es (up_to before k (map key_of es))
above-is k [] = refl
above-is k (x ∷ xs) =
    elim (before k x.key) as (λ b. cond b (Some x) (first_above key_of before k xs) ≡ slice_get (x ∷ xs) (cond b 0 (suc (up_to before k (map key_of xs))))) [ true ↦ refl | false ↦ above-is k xs ]

pub up_to-is : (k : List ℕ) (es : List Entry) → last_up_to key_of before k es ≡ last (take (up_to before k (map key_of es)) es)
up_to-is k [] = refl
up_to-is k (x ∷ xs) =
    elim (before k x.key) as (λ b. cond b None (or_else (last_up_to key_of before k xs) (Some x)) ≡ last (take (cond b 0 (suc (up_to before k (map key_of xs)))) (x ∷ xs)))
    [ true ↦ refl | false ↦ ap (λ v. or_else v (Some x)) (up_to-is k xs) ]

abbrev pub of-key : List ℕ → Option Entry → Option Entry
of-key k o = kept (λ e. pointwise eqb e.key k) o

lower-other : (x k : List ℕ) → before x k ≡ true → pointwise eqb x k ≡ false
lower-other x k p = false_from_ne_true (pointwise eqb x k) (λ t. let z : before k k ≡ true = subst (λ y. before y k ≡ true) ((bytes_decides x k).0 t) p in let i = keys-ordered.irreflexive k in let c : ◌≡◌ {A = ℕ} 0 1 = cc in omega arith)

below-behind : (k : List ℕ) (v : Option Entry) (x : Entry) → before x.key k ≡ true → of-key k (or_else v (Some x)) ≡ of-key k v
below-behind k None x p = ap (λ b. cond b (Some x) None) (lower-other x.key k p)
below-behind k (Some y) x p = refl

look_up-last : (k : List ℕ) (es : List Entry) → Sorted key_of before es → look_up key_of before k es ≡ of-key k (last_up_to key_of before k es)
look_up-last k [] s = refl
look_up-last k (x ∷ xs) s =
    cond_both (before k x.key) None (or_else (last_up_to key_of before k xs) (Some x)) (λ v. look_up key_of before k (x ∷ xs) ≡ of-key k v)
    (λ p. let q = not_back before keys-ordered k x.key p in grind arith)
    (λ p. cond_both (before x.key k) (look_up key_of before k xs) (cond (before k x.key) None (Some x)) (λ v. v ≡ of-key k (or_else (last_up_to key_of before k xs) (Some x)))
    (λ q. look_up-last k xs s.1 ∙ sym (below-behind k (last_up_to key_of before k xs) x q))
    (λ q. let is = keys-ordered.decided x.key k q p in
    let none = last-right key_of before keys-ordered k [] xs (subst (λ j. AllByRecursion (λ y. before j y.key ≡ true) xs) is s.0) in
    ap (λ b. cond b None (Some x)) p ∙ sym (ap (λ v. of-key k (or_else v (Some x))) none ∙ ap (λ b. cond b (Some x) None) ((bytes_decides x.key k).1 is))))

pub look_up-is : (k : List ℕ) (es : List Entry) → Sorted key_of before es → look_up key_of before k es ≡ of-key k (last (take (up_to before k (map key_of es)) es))
look_up-is k es s = look_up-last k es s ∙ ap (of-key k) (up_to-is k es)

pub first-is : {X : Type 0} (xs : List X) → slice_get xs 0 ≡ first xs
first-is [] = refl
first-is (x ∷ xs) = refl

last-some : {X : Type 0} (o : Option X) (x y : X) → or_else o (Some y) ≡ or_else (or_else o (Some y)) (Some x)
last-some None x y = refl
last-some (Some z) x y = refl

pub last-is : {X : Type 0} (xs : List X) → slice_get xs (length xs - 1) ≡ last xs
last-is [] = refl
last-is (x ∷ []) = refl
last-is (x ∷ y ∷ ys) =
    let n : suc (length ys) - 1 ≡ length ys = omega arith in
    let m : suc (suc (length ys)) - 1 ≡ suc (length ys) = omega arith in
    ap (slice_get (x ∷ y ∷ ys)) m ∙ ap (slice_get (y ∷ ys)) (sym n) ∙ last-is (y ∷ ys) ∙ last-some (last ys) x y

pub got : {X : Type 0} (xs : List X) (j : ℕ) (r : Option (Bor X)) → IsItemAt xs j r → option_copied r ≡ slice_get xs j
got xs j None l = sym (slice_get_past xs j l.3)
got xs j (Some x) l = sym (slice_get_read xs (length xs) j x.now refl l.3.0 l.1)
