-- A header comes back from its sector, and from no other.
use Rattle.std.proofs.Common.{◌≡◌, ℕ, ◌+◌, ◌*◌, ◌^◌, ◌<◌, true, ◌&&◌, eqb, leb, List, ◌∷◌, ◌++◌, length, get_or, drop, Some, Option, sym, ap, ◌∙◌, ap₂, arith}
use Rattle.std.proofs.lemmas.Bool.Decides.{nat_tests, Decides-eqb}
use Rattle.geometry.specs.Places.{Good}
use Rattle.layout.specs.Padded.{Decodes, padded, four_bytes, number4, tag_is}
use Rattle.names.specs.Names.{zeros, two_bytes}
use Rattle.layout.proofs.Decoded.{decodes}
use Rattle.layout.specs.Headers.{HeaderFits, encode_header, good_numbers, header_of, decode_header}
use Rattle.layout.specs.declared.header.Header.{Header}
use Rattle.std.proofs.lemmas.Bool.{and_parts}
use Rattle.layout.proofs.Numbers.{two-number, two-back, four-number, four-back, opened, was-open, tag-letters}
use Rattle.layout.proofs.Zeros.{gets, padded-gets}

good-passes : (p t n : ℕ) → Good p t n → good_numbers p t n ≡ true
good-passes p t n good = grind (arith, nat_tests)

passes-good : (p t n : ℕ) → good_numbers p t n ≡ true → Good p t n
passes-good p t n h =
    let a = and_parts (leb 2 p) _ h in
    let b = and_parts (leb p 21) _ a.1 in
    let c = and_parts (leb (2 * p + 6) t) _ b.1 in
    let d = and_parts (leb t 1000) _ c.1 in
    (grind (arith, nat_tests, a.0), grind (arith, nat_tests, b.0), grind (arith, nat_tests, c.0), grind (arith, nat_tests, d.0), grind (arith, nat_tests, d.1))

right-numbers : (count p t n : ℕ) → n ≡ count → Good p t n → header_of count p t n ≡ Some (record { pages = p; third = t; sectors = n })
right-numbers count p t n is good =
    let same : eqb n count ≡ true = grind (arith, nat_tests) in
    opened (eqb n count) (good_numbers p t n) _ _ same (good-passes p t n good)

abbrev made : ℕ → ℕ → ℕ → Header
made p t n = record { pages = p; third = t; sectors = n }

parts : (count p t n : ℕ) (h : Header) → header_of count p t n ≡ Some h → Good p t n × (n ≡ count) × (made p t n ≡ h)
parts count p t n h e =
    let open-at = was-open (eqb n count && good_numbers p t n) _ h e in
    let tests = and_parts (eqb n count) (good_numbers p t n) open-at.0 in
    let value = open-at.1 in
    (passes-good p t n tests.1, (Decides-eqb n count).0 tests.0, cc)

pub header-round : (count : ℕ) (h : Header) → HeaderFits count h → decode_header count (encode_header h) ≡ Some h
unfolding padded
header-round count h fits =
    let p = h.pages in
    let third : h.third < 65536 = omega (arith, fits.0.3) in
    let sectors : h.sectors < 2 ^ 32 = omega (arith, fits.1, fits.2) in
    ap₂ (λ t n. header_of count p t n) (two-number h.third third) (four-number h.sectors sectors)
    ∙ right-numbers count p h.third h.sectors fits.1 fits.0

pub header-exact : (count : ℕ) (s : List ℕ) (h : Header) → length s ≡ 512 → ((k : ℕ) → get_or s k 0 < 256) → decode_header count s ≡ Some h
    → HeaderFits count h × (s ≡ encode_header h)
header-exact count s h long small is =
    let open-at = was-open (tag_is 70 83 68 86 s && (eqb (get_or s 4 0) 1 && zeros (drop 12 s))) _ h is in
    let tests = and_parts (tag_is 70 83 68 86 s) (eqb (get_or s 4 0) 1 && zeros (drop 12 s)) open-at.0 in
    let more = and_parts (eqb (get_or s 4 0) 1) (zeros (drop 12 s)) tests.1 in
    let letters = tag-letters 70 83 68 86 s tests.0 in
    let edition = (Decides-eqb (get_or s 4 0) 1).0 more.0 in
    let p = get_or s 5 0 in
    let t = get_or s 6 0 * 256 + get_or s 7 0 in
    let n = number4 (get_or s 8 0) (get_or s 9 0) (get_or s 10 0) (get_or s 11 0) in
    let part = parts count p t n h open-at.1 in
    let pages = ap (λ (x : Header). x.pages) part.2 in
    let third = ap (λ (x : Header). x.third) part.2 in
    let sectors = ap (λ (x : Header). x.sectors) part.2 in
    let good = part.0 in
    let two = ap two_bytes (sym third) ∙ two-back (get_or s 6 0) (get_or s 7 0) (small 6) (small 7) in
    let four = ap four_bytes (sym sectors) ∙ four-back (get_or s 8 0) (get_or s 9 0) (get_or s 10 0) (get_or s 11 0) (small 8) (small 9) (small 10) (small 11) in
    let fields : gets 12 0 s ≡ 70 ∷ 83 ∷ 68 ∷ 86 ∷ 1 ∷ h.pages ∷ (two_bytes h.third ++ four_bytes h.sectors) = cc in (
      (
        (omega (arith, pages, good.0), omega (arith, pages, good.1), omega (arith, pages, third, good.2), omega (arith, third, good.3), omega (arith, pages, third, sectors, good.4)),
        sym sectors ∙ part.1,
        omega (arith, part.1, small 8, small 9, small 10, small 11),
      ),
      padded-gets 12 s long (omega arith) more.1 ∙ ap padded fields,
    )

pub header-decodes : (count : ℕ) {s : List ℕ} {r : Option Header} → length s ≡ 512 → ((k : ℕ) → get_or s k 0 < 256) → r ≡ decode_header count s → Decodes (HeaderFits count) encode_header s r
header-decodes count = decodes (HeaderFits count) encode_header (decode_header count) (header-round count) (header-exact count)

-- What the check takes up by itself where this decoder answers.
pub ruleset headers = (header-decodes, nat_tests)
