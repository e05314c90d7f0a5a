use Rattle.std.proofs.Common.{◌≡◌, ℕ, ◌≤◌, List, ◌++◌, length, take, drop, sym, ap, ◌∙◌, ap₂, subst, arith}
use Rattle.std.proofs.lemmas.List.{take-append-drop}
use Rattle.pages.specs.Bytes.{records_of}
use Rattle.pages.specs.Decoding.{Few}
use Rattle.pages.proofs.Exact.{counted, lawful}
use Rattle.pages.proofs.Fits.{are-bytes, few-read}
use Rattle.pages.proofs.page.decode_page.Goals as goal

-- a list by its first n and the others
in-parts : {X : Type 0} (xs front old : List X) {n k : ℕ} → n ≡ k → take n xs ≡ front → drop n xs ≡ drop n old → xs ≡ front ++ drop k old
in-parts xs front old {n} e f r = sym (take-append-drop n xs) ∙ ap₂ (λ ys zs. ys ++ zs) f r ∙ ap (λ k. front ++ drop k old) e

pub returns : goal.returns
returns g c =
    let s = g.R.Stored in
    let laws = g.met.R.Stored in
    let most = length c.args.out.now in
    let page = c.args.page.now in
    let n = c.read_page-n.result in
    let out = c.read_page-n.new.out in
    let read = c.read_page-n.ensures.held in
    let few = subst (λ xs. Few s.fit most xs) (sym read) (few-read s.value s.WIDE s.fit laws.fits most page c.requires.0 c.told-page (are-bytes page c.fits-page)) in
    let small : n ≤ most = omega (arith, c.read_page-n.ensures.count) in
    rw c.then_some.ensures (record {
      value = counted s.bytes s.value s.WIDE s.fit laws.long laws.back c.args.letter most page c.requires n out small read few c.formed.result c.formed.ensures;
      law = lawful s.bytes s.value s.WIDE s.fit laws.long laws.back c.args.letter most page c.requires n out small read few c.formed.result c.formed.ensures;
      read = in-parts out (records_of s.value s.WIDE most page) c.args.out.now c.read_page-n.ensures.count read c.read_page-n.ensures.rest;
    })
