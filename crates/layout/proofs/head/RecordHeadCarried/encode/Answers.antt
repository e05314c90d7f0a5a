use Rattle.std.proofs.Common.{◌≡◌, ℕ, List, [], ◌∷◌, length, get_or, refl, ap, ◌∙◌, ap₂, arith, rules}
use borrow.Rule.Slice.PartMut.{put_mid}
use Rattle.layout.specs.Padded.{padded, four_bytes}
use Rattle.layout.proofs.Zeros.{padded-more}
use Rattle.layout.proofs.head.RecordHeadCarried.encode.Goals as goal

abbrev fields : List ℕ → ℕ → List ℕ
fields four count = 70 ∷ 83 ∷ 68 ∷ 72 ∷ get_or four 0 0 ∷ get_or four 1 0 ∷ get_or four 2 0 ∷ get_or four 3 0 ∷ count ∷ []

pub returns : goal.returns
unfolding padded
returns c =
    let h = c.args.self.now in
    let four = four_bytes h.group in
    let front = c.padded.ensures ∙ ap (λ (l : List ℕ). padded (fields l h.count)) c.to_be_bytes.ensures in
    let long : length h.pages ≡ 21 = search rules in
    ap₂ (λ (x y : List ℕ). put_mid 9 21 x y) front c.copy_from_slice.ensures.after ∙ padded-more (fields four h.count) h.pages 9 21 refl long (omega arith)
