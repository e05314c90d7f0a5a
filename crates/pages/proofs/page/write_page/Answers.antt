use Rattle.std.proofs.Common.{◌≡◌, ◌+◌, ◌-◌, ◌*◌, List, ◌∷◌, ◌++◌, ℕ, length, drop, replicate, sym, ap, ◌∙◌, arith}
use Rattle.std.specs.List.{flat_map}
use Rattle.std.proofs.lemmas.List.{drop-drop, drop-replicate, length-append, length-replicate}
use Rattle.layout.specs.Padded.{padded}
use Rattle.pages.specs.Bytes.{page_of}
use Rattle.pages.proofs.page.write_page.Goals as goal

pub returns : goal.returns
unfolding page_of padded
returns g c =
    let n = length c.args.records.now in
    let k = g.R.Stored.WIDE * n in
    let js = flat_map g.R.Stored.bytes c.args.records.now in
    let front : List ℕ = 78 ∷ c.args.letter ∷ n ∷ replicate 29 0 in
    let empty : List ℕ = 78 ∷ c.args.letter ∷ n ∷ replicate 509 0 in
    let rest : drop (32 + k) empty ≡ replicate (480 - k) 0 = sym (drop-drop k 32 empty) ∙ drop-replicate k 480 0 in
    let is : c.write_all.new.page ≡ front ++ js ++ replicate (480 - k) 0 = c.write_all.ensures ∙ ap (λ x. front ++ js ++ x) rest in
    let sizes = ap length is ∙ length-append (front ++ js) (replicate (480 - k) 0) in
    let zeros : 480 - k ≡ 512 - length (front ++ js) = omega (arith, sizes, length-append front js, length-replicate {A = ℕ}, c.write_all.array_long) in
    is ∙ ap (λ m. front ++ js ++ replicate m 0) zeros
