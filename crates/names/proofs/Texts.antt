-- Every stored name is the filling of a good text.
--     all-zeros        what passes the test of zeros is zeros
--     name-text        the text of a name
--     text-back        the text in a name's bytes is good, fills up to these bytes, and is ASCII
use Rattle.std.proofs.Common.{◌≡◌, ℕ, zero, suc, ◌+◌, ◌-◌, ◌≤◌, true, false, cond, ◌&&◌, eqb, List, [], ◌∷◌, ◌++◌, length, get_or, replicate, sym, refl, ap, ◌∙◌, ap₂, subst, not, ◌<◌, arith}
use Rattle.std.specs.Str.{IsAscii}
use Rattle.std.proofs.lemmas.List.{length-append, length-replicate}
use Rattle.std.proofs.lemmas.List.Sums.{take_while-cons}
use Rattle.std.proofs.lemmas.Bool.Decides.{nat_tests}
use Rattle.std.proofs.lemmas.Bool.{and_from, and_parts, eqb-true, both_ways}
use Rattle.names.proofs.Stored.{letters-step, letter-ascii}
use Rattle.names.specs.Names.{letter, letters, zeros, letters_then_zeros, GoodName, filled, is_name, HasText, text_of}

-- letters, and so many zeros after them
abbrev Split : List ℕ → Type 0
Split bytes = (text : List ℕ) × (n : ℕ) × (letters text ≡ true) × (bytes ≡ text ++ replicate n 0)

pub all-zeros : (bytes : List ℕ) → zeros bytes ≡ true → bytes ≡ replicate (length bytes) 0
all-zeros [] h = refl
all-zeros (b ∷ bytes) h =
    let both = and_parts (eqb b 0) (zeros bytes) h in
    ap₂ (λ x xs. x ∷ xs) (eqb-true b 0 both.0) (all-zeros bytes both.1)

split-letter : (b : ℕ) (bytes : List ℕ) → letter b ≡ true → Split bytes → Split (b ∷ bytes)
split-letter b bytes is s = (b ∷ s.0, s.1, and_from (letter b) (letters s.0) is s.2, ap (λ xs. b ∷ xs) s.3)

split-zero : (b : ℕ) (bytes : List ℕ) → (eqb b 0 && zeros bytes) ≡ true → Split (b ∷ bytes)
split-zero b bytes h =
    let both = and_parts (eqb b 0) (zeros bytes) h in ([], suc (length bytes), refl, ap₂ (λ x xs. x ∷ xs) (eqb-true b 0 both.0) (all-zeros bytes both.1))

split : (bytes : List ℕ) → letters_then_zeros bytes ≡ true → Split bytes
split [] h = ([], 0, refl, refl)
split (b ∷ bytes) h =
    elim (letter b) as (λ t. letter b ≡ t → cond t (letters_then_zeros bytes) (eqb b 0 && zeros bytes) ≡ true → Split (b ∷ bytes))
    [ true ↦ λ is rest. split-letter b bytes is (split bytes rest) | false ↦ λ is rest. split-zero b bytes rest ]
    refl
    (sym (letters-step b bytes) ∙ h)

not-empty : (text : List ℕ) (n : ℕ) → letter (get_or (text ++ replicate n 0) 0 0) ≡ true → 1 ≤ length text
not-empty [] zero h = absurd (both_ways false refl h)
not-empty [] (suc n) h = absurd (both_ways false refl h)
not-empty (b ∷ text) n h = omega arith

pub name-text : (bytes : List ℕ) → is_name bytes ≡ true → HasText bytes
name-text bytes h =
    let parts = and_parts (eqb (length bytes) 20 && letter (get_or bytes 0 0)) (letters_then_zeros bytes) h in
    let firsts = and_parts (eqb (length bytes) 20) (letter (get_or bytes 0 0)) parts.0 in
    let s = split bytes parts.1 in
    let text = s.0 in
    let n = s.1 in
    let long : length bytes ≡ 20 = eqb-true (length bytes) 20 firsts.0 in
    let sum : length bytes ≡ length text + n = ap length s.3 ∙ length-append text (replicate n 0) ∙ ap (λ k. length text + k) (length-replicate n 0) in
    let left : n ≡ 20 - length text = omega arith in
    let first : letter (get_or (text ++ replicate n 0) 0 0) ≡ true = ap (λ xs. letter (get_or xs 0 0)) (sym s.3) ∙ firsts.1 in
    (text, (not-empty text n first, omega arith, s.2), s.3 ∙ ap (λ k. text ++ replicate k 0) left)

-- The letters before zeros are what stands before the first zero.
before-zeros : (text : List ℕ) (n : ℕ) → letters text ≡ true → text_of (text ++ replicate n 0) ≡ text
before-zeros [] zero h = refl
before-zeros [] (suc n) h = refl
before-zeros (b ∷ text) n h =
    let both = and_parts (letter b) (letters text) h in
    let more = before-zeros text n both.1 in
    let passes : not (eqb b 0) ≡ true = grind (arith, nat_tests, both.0) in
    rw take_while-cons (rw (passes, more) refl)

letters-ascii : (text : List ℕ) → letters text ≡ true → (i : ℕ) → get_or text i 0 < 128
letters-ascii [] h i = omega arith
letters-ascii (b ∷ text) h zero = letter-ascii b (and_parts (letter b) (letters text) h).0
letters-ascii (b ∷ text) h (suc i) = letters-ascii text (and_parts (letter b) (letters text) h).1 i

pub text-back : (bytes : List ℕ) → is_name bytes ≡ true → GoodName (text_of bytes) × (bytes ≡ filled (text_of bytes)) × IsAscii (text_of bytes)
text-back bytes h =
    let t = name-text bytes h in
    let same : text_of bytes ≡ t.0 = ap text_of t.2 ∙ before-zeros t.0 (20 - length t.0) t.1.2 in
    subst (λ (text : List ℕ). GoodName text × (bytes ≡ filled text) × IsAscii text) (sym same) (t.1, t.2, letters-ascii t.0 t.1.2)
