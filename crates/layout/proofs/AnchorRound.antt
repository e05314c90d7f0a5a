-- An anchor comes back from its sector, and from no other.
use Rattle.std.proofs.Common.{◌≡◌, ℕ, zero, suc, ◌^◌, ◌<◌, ◌&&◌, List, ◌∷◌, length, get_or, drop, Some, None, Option, sym, refl, ap, ◌∙◌, ap₂, arith}
use Rattle.geometry.specs.Thirds.{number_of, third_of}
use Rattle.geometry.specs.declared.third.Third.{Third}
use Rattle.geometry.specs.declared.third.Third.TheVariants.{Zero, One, Two}
use Rattle.names.specs.Names.{zeros}
use Rattle.layout.specs.Padded.{Decodes, padded, four_bytes, number4, tag_is}
use Rattle.layout.proofs.Decoded.{decodes}
use Rattle.layout.specs.Anchors.{AnchorFits, encode_anchor, decode_anchor, anchor_at}
use Rattle.layout.specs.declared.anchor.Anchor.{Anchor}
use Rattle.std.proofs.lemmas.Bool.{and_parts}
use Rattle.layout.proofs.Numbers.{four-number, four-back, was-open, tag-letters}
use Rattle.layout.proofs.Zeros.{gets, padded-gets}

third-back : (t : Third) → third_of (number_of t) ≡ Some t
third-back Zero = refl
third-back One = refl
third-back Two = refl

number-back : (n : ℕ) (t : Third) → third_of n ≡ Some t → number_of t ≡ n
number-back zero t e = grind arith
number-back (suc zero) t e = grind arith
number-back (suc (suc zero)) t e = grind arith
number-back (suc (suc (suc n))) t e = grind arith

parts : (g : ℕ) (o : Option Third) (a : Anchor) → anchor_at g o ≡ Some a → (o ≡ Some a.third) × (a.group ≡ g)
parts g None a e = let z : ◌≡◌ {A = ℕ} 0 1 = cc in absurd (omega arith)
parts g (Some t) a e =
    let is : record { third = t; group = g } ≡ a = cc in
    (ap (λ (x : Anchor). Some x.third) is, sym (ap (λ (x : Anchor). x.group) is))

pub anchor-round : (a : Anchor) → AnchorFits a → decode_anchor (encode_anchor a) ≡ Some a
unfolding padded
anchor-round a fits = ap₂ anchor_at (four-number a.group fits) (third-back a.third)

pub anchor-exact : (s : List ℕ) (a : Anchor) → length s ≡ 512 → ((k : ℕ) → get_or s k 0 < 256) → decode_anchor s ≡ Some a → AnchorFits a × (s ≡ encode_anchor a)
anchor-exact s a long small e =
    let open-at = was-open (tag_is 70 83 68 65 s && zeros (drop 9 s)) _ a e in
    let tests = and_parts (tag_is 70 83 68 65 s) (zeros (drop 9 s)) open-at.0 in
    let letters = tag-letters 70 83 68 65 s tests.0 in
    let part = parts (number4 (get_or s 5 0) (get_or s 6 0) (get_or s 7 0) (get_or s 8 0)) (third_of (get_or s 4 0)) a open-at.1 in
    let third = number-back (get_or s 4 0) a.third part.0 in
    let four = ap four_bytes part.1 ∙ four-back (get_or s 5 0) (get_or s 6 0) (get_or s 7 0) (get_or s 8 0) (small 5) (small 6) (small 7) (small 8) in
    let group : a.group < 2 ^ 32 = omega (arith, part.1, small 5, small 6, small 7, small 8) in
    let fields : gets 9 0 s ≡ 70 ∷ 83 ∷ 68 ∷ 65 ∷ number_of a.third ∷ four_bytes a.group = cc in
    (group, padded-gets 9 s long (omega arith) tests.1 ∙ ap padded fields)

pub anchor-decodes : {s : List ℕ} {r : Option Anchor} → length s ≡ 512 → ((k : ℕ) → get_or s k 0 < 256) → r ≡ decode_anchor s → Decodes AnchorFits encode_anchor s r
anchor-decodes = decodes AnchorFits encode_anchor decode_anchor anchor-round anchor-exact

-- What the check takes up by itself where this decoder answers.
pub ruleset anchors = (anchor-decodes)
