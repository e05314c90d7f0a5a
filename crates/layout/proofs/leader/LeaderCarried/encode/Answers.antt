use Rattle.std.proofs.Common.{◌≡◌, ℕ, List, [], ◌∷◌, ◌++◌, length, refl, ◌∙◌, ap₂, arith, rules}
use borrow.Rule.Slice.PartMut.{put_mid}
use Rattle.std.proofs.lemmas.List.{length-append}
use Rattle.layout.specs.Padded.{padded, four_bytes}
use Rattle.layout.proofs.Zeros.{padded-more}
use Rattle.layout.proofs.leader.LeaderCarried.encode.Goals as goal

pub returns : goal.returns
unfolding padded
returns c =
    let l = c.args.self.now in
    let tag : List ℕ = 70 ∷ 83 ∷ 68 ∷ 76 ∷ [] in
    let long : length l.key ≡ 22 = search rules in
    let four = four_bytes l.length in
    let size : length (tag ++ l.key) ≡ 26 = simp length-append (omega arith) in
    ap₂ (λ (x y : List ℕ). put_mid 26 4 x y)
    (ap₂ (λ (x y : List ℕ). put_mid 4 22 x y) c.padded.ensures c.copy_from_slice.ensures.after ∙ padded-more tag l.key 4 22 refl long (omega arith))
    (c.copy_from_slice-2.ensures.after ∙ c.to_be_bytes.ensures)
    ∙ padded-more (tag ++ l.key) four 26 4 size refl (omega arith)
