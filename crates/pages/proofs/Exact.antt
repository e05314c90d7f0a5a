-- A page is decoded just when records make it.
--     only-read            records that fit and make a page are those read from it
--     decoded, refused     what a decoder tells of a page that the records read from it make, and of one that no records make
--     counted, lawful      so the count that it answers, or none, tells of the page
use Rattle.std.proofs.Common.{◌≡◌, ℕ, ◌≤◌, Bool, true, false, List, length, take, Some, None, refl, sym, ap, ◌∙◌, subst}
use Rattle.std.specs.Bool.{Decides, then_some}
use Rattle.layout.specs.Padded.{Decodes}
use Rattle.pages.specs.Bytes.{Holds, page_of, records_of}
use Rattle.pages.specs.Decoding.{Few, told, Decoded}
use Rattle.pages.proofs.Reread.{page-back}

pub refused : {X : Type 0} (fit : X → Type 0) (bytes : X → List ℕ) (letter most : ℕ) (page : List ℕ) → ((rs : List X) → Few fit most rs → ¬ (page ≡ page_of bytes letter rs)) → Decodes (Few fit most) (page_of bytes letter) page None
refused fit bytes letter most page none = record { round = λ xs g e. absurd (none xs g e); exact = λ xs e. cc }

module _ {X : Type 0} (bytes : X → List ℕ) (value : List ℕ → X) (w : ℕ) (fit : X → Type 0) (long : (x : X) → fit x → length (bytes x) ≡ w) (back : (x : X) → fit x → value (bytes x) ≡ x)
    (letter most : ℕ) (page : List ℕ) (room : Holds w most) where
  pub only-read : (rs : List X) → Few fit most rs → page ≡ page_of bytes letter rs → records_of value w most page ≡ rs
  only-read rs f is = ap (records_of value w most) is ∙ page-back bytes value w fit long back letter most rs f.0 f.1 room.1 room.0

  pub decoded : (rs : List X) → rs ≡ records_of value w most page → Few fit most rs → page ≡ page_of bytes letter rs → Decodes (Few fit most) (page_of bytes letter) page (Some rs)
  decoded rs read f is = record {
    round = λ xs g e. ap Some (read ∙ only-read xs g e);
    exact = λ xs e.
        let same : rs ≡ xs = cc in
        let P : List X → Type 0 = λ ys. Few fit most ys × (page ≡ page_of bytes letter ys) in
        subst P same (f, is);
  }

  module _ (n : ℕ) (out : List X) (small : n ≤ most) (read : take n out ≡ records_of value w most page) (few : Few fit most (take n out)) where
    pub counted : (yes : Bool) → Decides yes (page ≡ page_of bytes letter (take n out)) → Decoded fit bytes value w letter most page out (then_some yes n)
    counted true d = (small, read, few, d.0 refl)
    counted false d = λ rs f is.
        let same = sym (only-read rs f is) ∙ sym read in
        let yes = d.1 (is ∙ ap (page_of bytes letter) same) in
        cc

    pub lawful : (yes : Bool) → Decides yes (page ≡ page_of bytes letter (take n out)) → Decodes (Few fit most) (page_of bytes letter) page (told out (then_some yes n))
    lawful true d = decoded (take n out) read few (d.0 refl)
    lawful false d = refused fit bytes letter most page (counted false d)
