-- A record's head comes back from its sector, and from no other.
use Rattle.std.proofs.Common.{◌≡◌, ℕ, ◌-◌, ◌<◌, ◌≤◌, true, ◌&&◌, leb, List, [], ◌∷◌, ◌++◌, length, get_or, take, drop, replicate, Some, Option, sym, ap, ◌∙◌, ap₂, arith, take-add}
use Rattle.std.proofs.lemmas.List.{take_at, drop_at, drop-drop, length-drop, length-take}
use Rattle.std.proofs.lemmas.Bool.Decides.{nat_tests}
use Rattle.names.specs.Names.{zeros}
use Rattle.names.proofs.Stored.{zeros-only}
use Rattle.layout.specs.Padded.{Decodes, padded, four_bytes, number4, tag_is}
use Rattle.layout.proofs.Decoded.{decodes}
use Rattle.layout.specs.Heads.{good_pages, HeadFits, encode_head, head_of, decode_head}
use Rattle.layout.specs.declared.head.RecordHead.{RecordHead}
use Rattle.std.proofs.lemmas.Bool.{and_parts}
use Rattle.layout.proofs.Numbers.{four-number, four-back, was-open, tag-letters}
use Rattle.layout.proofs.Zeros.{gets, gets-take, padded-front}

abbrev made : ℕ → ℕ → List ℕ → RecordHead
made group count pages = record { group = group; count = count; pages = pages }

head-is : (limit group count : ℕ) (rest : List ℕ) → zeros (drop 21 rest) ≡ true → 1 ≤ count → good_pages count 0 limit (take 21 rest) ≡ true
    → head_of limit group count rest ≡ Some (made group count (take 21 rest))
head-is limit group count rest z one good = grind (arith, nat_tests)

pub head-round : (limit : ℕ) (h : RecordHead) → HeadFits limit h → decode_head limit (encode_head h) ≡ Some h
unfolding padded
head-round limit h fits =
    let z = replicate (512 - length (70 ∷ 83 ∷ 68 ∷ 72 ∷ (four_bytes h.group ++ h.count ∷ h.pages))) 0 in
    let front = take_at h.pages z 21 fits.2 in
    let clear = ap zeros (drop_at h.pages z 21 fits.2) ∙ zeros-only (512 - length (70 ∷ 83 ∷ 68 ∷ 72 ∷ (four_bytes h.group ++ h.count ∷ h.pages))) in
    ap (λ g. head_of limit g h.count (h.pages ++ z)) (four-number h.group fits.0)
    ∙ head-is limit h.group h.count (h.pages ++ z) clear fits.1 (ap (good_pages h.count 0 limit) front ∙ fits.3)
    ∙ ap (λ (l : List ℕ). Some (made h.group h.count l)) front

-- The first 30 bytes are the first 9 and the 21 after them.
thirty : (s : List ℕ) → length s ≡ 512 → take 30 s ≡ gets 9 0 s ++ take 21 (drop 9 s)
thirty s long = take-add 9 21 s ∙ ap (λ l. l ++ take 21 (drop 9 s)) (gets-take 9 0 s (omega arith))

pub head-exact : (limit : ℕ) (s : List ℕ) (h : RecordHead) → length s ≡ 512 → ((k : ℕ) → get_or s k 0 < 256) → decode_head limit s ≡ Some h → HeadFits limit h × (s ≡ encode_head h)
head-exact limit s h long small is =
    let open-at = was-open (tag_is 70 83 68 72 s) _ h is in
    let letters = tag-letters 70 83 68 72 s open-at.0 in
    let rest = drop 9 s in
    let n = number4 (get_or s 4 0) (get_or s 5 0) (get_or s 6 0) (get_or s 7 0) in
    let inner = was-open (zeros (drop 21 rest) && (leb 1 (get_or s 8 0) && good_pages (get_or s 8 0) 0 limit (take 21 rest))) _ h open-at.1 in
    let tests = and_parts (zeros (drop 21 rest)) _ inner.0 in
    let more = and_parts (leb 1 (get_or s 8 0)) (good_pages (get_or s 8 0) 0 limit (take 21 rest)) tests.1 in
    let one : 1 ≤ get_or s 8 0 = grind (arith, nat_tests, more.0) in
    let value : made n (get_or s 8 0) (take 21 rest) ≡ h = let e = inner.1 in cc in
    let group = sym (ap (λ (x : RecordHead). x.group) value) in
    let count = sym (ap (λ (x : RecordHead). x.count) value) in
    let pages = sym (ap (λ (x : RecordHead). x.pages) value) in
    let four = ap four_bytes group ∙ four-back (get_or s 4 0) (get_or s 5 0) (get_or s 6 0) (get_or s 7 0) (small 4) (small 5) (small 6) (small 7) in
    let fields : gets 9 0 s ≡ 70 ∷ 83 ∷ 68 ∷ 72 ∷ (four_bytes h.group ++ h.count ∷ []) = cc in
    let clear = ap zeros (sym (drop-drop 21 9 s)) ∙ tests.0 in (
      (
        omega (arith, group, small 4, small 5, small 6, small 7),
        omega (arith, count),
        ap length pages ∙ simp (length-take, length-drop) (omega arith),
        ap₂ (λ c l. good_pages c 0 limit l) count pages ∙ more.1,
      ),
      padded-front 30 s long (omega arith) clear ∙ ap padded (thirty s long ∙ ap₂ (λ a b. a ++ b) fields (sym pages)),
    )

pub head-decodes : (limit : ℕ) {s : List ℕ} {r : Option RecordHead} → length s ≡ 512 → ((k : ℕ) → get_or s k 0 < 256) → r ≡ decode_head limit s → Decodes (HeadFits limit) encode_head s r
head-decodes limit = decodes (HeadFits limit) encode_head (decode_head limit) (head-round limit) (head-exact limit)

-- What the check takes up by itself where this decoder answers.
pub ruleset heads = (head-decodes, nat_tests)
