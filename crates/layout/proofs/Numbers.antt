-- Numbers in bytes, and tests that open a decoder.
--     four-back                           four bytes give a number, and that number's four bytes are these
--     four-number                         a number of four bytes comes back from them
--     two-back, two-number                the same for two bytes
--     opened, was-open                    a decoder behind tests that hold, and what it says that it answered
--     tag-letters                         a tag that was found gives its letters
--     behind                              what stands behind the first bytes
use Rattle.std.proofs.Common.{◌≡◌, ℕ, ◌+◌, ◌*◌, ◌/◌, ◌%◌, ◌^◌, ◌<◌, Bool, true, false, cond, ◌&&◌, eqb, List, [], ◌∷◌, ◌++◌, length, get_or, Some, None, Option, refl, ap, ◌∙◌, arith}
use Rattle.std.proofs.lemmas.Bool.{and_parts}
use Rattle.std.proofs.lemmas.List.{get_or-append_right}
use Rattle.std.proofs.lemmas.Option.{none-some}
use Rattle.std.proofs.lemmas.Bool.Decides.{Decides-eqb}
use Rattle.layout.specs.Padded.{four_bytes, number4, tag_is}
use Rattle.names.specs.Names.{two_bytes}

pub four-number : (n : ℕ) → n < 2 ^ 32 → number4 (n / 16777216 % 256) (n / 65536 % 256) (n / 256 % 256) (n % 256) ≡ n
four-number n h =
    let a : n / 65536 ≡ n / 256 / 256 = omega arith in
    let b : n / 16777216 ≡ n / 256 / 256 / 256 = omega arith in
    rw (a, b) (omega arith)

pub four-back : (a b c d : ℕ) → a < 256 → b < 256 → c < 256 → d < 256 → four_bytes (number4 a b c d) ≡ a ∷ b ∷ c ∷ d ∷ []
four-back a b c d ha hb hc hd =
    let n = number4 a b c d in
    let w : n / 16777216 % 256 ≡ a = omega arith in
    let x : n / 65536 % 256 ≡ b = omega arith in
    let y : n / 256 % 256 ≡ c = omega arith in
    let z : n % 256 ≡ d = omega arith in
    cc

pub two-number : (n : ℕ) → n < 65536 → (n / 256 % 256) * 256 + n % 256 ≡ n
two-number n h = omega arith

pub two-back : (a b : ℕ) → a < 256 → b < 256 → two_bytes (a * 256 + b) ≡ a ∷ b ∷ []
two-back a b ha hb =
    let y : (a * 256 + b) / 256 % 256 ≡ a = omega arith in
    let z : (a * 256 + b) % 256 ≡ b = omega arith in
    cc

pub opened : {X : Type 0} (a b : Bool) (x y : X) → a ≡ true → b ≡ true → cond (a && b) x y ≡ x
opened a b x y p q = rw (p, q)

pub was-open : {X : Type 0} (b : Bool) (x : Option X) (y : X) → cond b x None ≡ Some y → (b ≡ true) × (x ≡ Some y)
was-open true x y e = (refl, e)
was-open false x y e = absurd (none-some y e)

pub tag-letters : (a b c d : ℕ) (s : List ℕ) → tag_is a b c d s ≡ true → (get_or s 0 0 ≡ a) × (get_or s 1 0 ≡ b) × (get_or s 2 0 ≡ c) × (get_or s 3 0 ≡ d)
tag-letters a b c d s h =
    let x = and_parts (eqb (get_or s 0 0) a) _ h in
    let y = and_parts (eqb (get_or s 1 0) b) _ x.1 in
    let z = and_parts (eqb (get_or s 2 0) c) _ y.1 in
    ((Decides-eqb (get_or s 0 0) a).0 x.0, (Decides-eqb (get_or s 1 0) b).0 y.0, (Decides-eqb (get_or s 2 0) c).0 z.0, (Decides-eqb (get_or s 3 0) d).0 z.1)

pub behind : (a : ℕ) (front xs : List ℕ) (i : ℕ) → length front ≡ a → get_or (front ++ xs) (a + i) 0 ≡ get_or xs i 0
behind a front xs i long = get_or-append_right front xs a (a + i) 0 long (omega arith) ∙ ap (λ j. get_or xs j 0) (omega arith)
