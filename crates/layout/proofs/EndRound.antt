-- A record's end comes back from its sector, and from no other.
use Rattle.std.proofs.Common.{◌≡◌, ℕ, ◌<◌, ◌&&◌, List, [], ◌∷◌, ◌++◌, length, get_or, drop, Some, Option, sym, ap, ◌∙◌, arith}
use Rattle.names.specs.Names.{zeros}
use Rattle.layout.specs.Padded.{padded, four_bytes, number4, tag_is, Decodes}
use Rattle.layout.proofs.Decoded.{decodes}
use Rattle.layout.specs.Ends.{EndFits, encode_end, decode_end}
use Rattle.layout.specs.declared.end.RecordEnd.{RecordEnd}
use Rattle.std.proofs.lemmas.Bool.{and_parts}
use Rattle.layout.proofs.Numbers.{four-number, four-back, was-open, tag-letters}
use Rattle.layout.proofs.Zeros.{gets, padded-gets}

abbrev made : ℕ → ℕ → RecordEnd
made group count = record { group = group; count = count }

pub end-round : (e : RecordEnd) → EndFits e → decode_end (encode_end e) ≡ Some e
unfolding padded
end-round e fits = ap (λ g. Some (made g e.count)) (four-number e.group fits.0)

pub end-exact : (s : List ℕ) (e : RecordEnd) → length s ≡ 512 → ((k : ℕ) → get_or s k 0 < 256) → decode_end s ≡ Some e → EndFits e × (s ≡ encode_end e)
end-exact s e long small is =
    let open-at = was-open (tag_is 70 83 68 69 s && zeros (drop 9 s)) _ e is in
    let tests = and_parts (tag_is 70 83 68 69 s) (zeros (drop 9 s)) open-at.0 in
    let letters = tag-letters 70 83 68 69 s tests.0 in
    let value : made (number4 (get_or s 4 0) (get_or s 5 0) (get_or s 6 0) (get_or s 7 0)) (get_or s 8 0) ≡ e = let h = open-at.1 in cc in
    let group = sym (ap (λ (x : RecordEnd). x.group) value) in
    let count = ap (λ (x : RecordEnd). x.count) value in
    let four = ap four_bytes group ∙ four-back (get_or s 4 0) (get_or s 5 0) (get_or s 6 0) (get_or s 7 0) (small 4) (small 5) (small 6) (small 7) in
    let fields : gets 9 0 s ≡ 70 ∷ 83 ∷ 68 ∷ 69 ∷ (four_bytes e.group ++ e.count ∷ []) = cc in (
      (omega (arith, group, small 4, small 5, small 6, small 7), omega (arith, count, small 8)),
      padded-gets 9 s long (omega arith) tests.1 ∙ ap padded fields,
    )

pub end-decodes : {s : List ℕ} {r : Option RecordEnd} → length s ≡ 512 → ((k : ℕ) → get_or s k 0 < 256) → r ≡ decode_end s → Decodes EndFits encode_end s r
end-decodes = decodes EndFits encode_end decode_end end-round end-exact

-- What the check takes up by itself where this decoder answers.
pub ruleset ends = (end-decodes)
