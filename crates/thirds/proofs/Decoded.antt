-- What bytes say, by the answers of the decoders.
--     decoded-head, no-decoded-head          the head that was decoded, and no head if none was
--     decoded-end, no-decoded-end            the same of an end
--     decoded-anchor, no-decoded-anchor      and of an anchor
--     decoded-calm                           neither a head nor an end
--     decoded-numbers                        the page numbers of a head that is right rise, and are as many as it says
use Rattle.std.proofs.Common.{◌≡◌, ℕ, zero, suc, ◌+◌, true, leb, ltb, List, [], ◌∷◌, length, take, Some, None, Option, sym, refl, ap, ◌∙◌, arith}
use Rattle.std.proofs.lemmas.Bool.{and_parts}
use Rattle.std.proofs.lemmas.Bool.Decides.{nat_tests}
use Rattle.geometry.specs.declared.third.Third.{Third}
use Rattle.layout.proofs.TagsDiffer.{alone}
use Rattle.layout.specs.Anchors.{decode_anchor}
use Rattle.layout.specs.Ends.{decode_end}
use Rattle.layout.specs.Heads.{good_pages, HeadFits, decode_head}
use Rattle.layout.specs.declared.anchor.Anchor.{Anchor}
use Rattle.layout.specs.declared.end.RecordEnd.{RecordEnd}
use Rattle.layout.specs.declared.head.RecordHead.{RecordHead}
use Rattle.layout.specs.declared.tagged.Tagged.TheVariants as tagged
use Rattle.thirds.specs.Words.{Word, nothing, anchor, head, end, other, as_head, as_end, as_anchor, word_of, Calm, Rise}

-- A head is no end and no anchor, and an end is no anchor.
module _ (P : ℕ) (bytes : List ℕ) where
  head-no-end : (h : RecordHead) (e : RecordEnd) → decode_head P bytes ≡ Some h → decode_end bytes ≡ Some e → ⊥
  head-no-end h e p q = let x = (alone 0 P bytes (Some (tagged.Head h)) p).one (Some (tagged.End e)) q in let z : ◌≡◌ {A = ℕ} 0 1 = cc in omega arith

  head-no-anchor : (h : RecordHead) (a : Anchor) → decode_head P bytes ≡ Some h → decode_anchor bytes ≡ Some a → ⊥
  head-no-anchor h a p q = let x = (alone 0 P bytes (Some (tagged.Head h)) p).one (Some (tagged.Anchor a)) q in let z : ◌≡◌ {A = ℕ} 0 1 = cc in omega arith

  end-no-anchor : (e : RecordEnd) (a : Anchor) → decode_end bytes ≡ Some e → decode_anchor bytes ≡ Some a → ⊥
  end-no-anchor e a p q = let x = (alone 0 P bytes (Some (tagged.End e)) p).one (Some (tagged.Anchor a)) q in let z : ◌≡◌ {A = ℕ} 0 1 = cc in omega arith

  pub decoded-head : (h : RecordHead) → decode_head P bytes ≡ Some h → word_of P bytes ≡ head h.group (take h.count h.pages)
  unfolding word_of
  decoded-head h p = ap (λ o. as_head o (as_end (decode_end bytes) (as_anchor (decode_anchor bytes) other))) p

  pub decoded-end : (e : RecordEnd) → decode_end bytes ≡ Some e → word_of P bytes ≡ end e.group e.count
  unfolding word_of
  decoded-end e q =
      ap (λ o. as_head o (as_end (decode_end bytes) (as_anchor (decode_anchor bytes) other))) (none (decode_head P bytes) refl)
      ∙ ap (λ o. as_end o (as_anchor (decode_anchor bytes) other)) q
    where
      none : (o : Option RecordHead) → decode_head P bytes ≡ o → decode_head P bytes ≡ None
      none None p = p
      none (Some h) p = absurd (head-no-end h e p q)

  pub decoded-anchor : (a : Anchor) → decode_anchor bytes ≡ Some a → word_of P bytes ≡ anchor a.third a.group
  unfolding word_of
  decoded-anchor a q =
      ap (λ o. as_head o (as_end (decode_end bytes) (as_anchor (decode_anchor bytes) other))) (no-head (decode_head P bytes) refl)
      ∙ ap (λ o. as_end o (as_anchor (decode_anchor bytes) other)) (no-end (decode_end bytes) refl)
      ∙ ap (λ o. as_anchor o other) q
    where
      no-head : (o : Option RecordHead) → decode_head P bytes ≡ o → decode_head P bytes ≡ None
      no-head None p = p
      no-head (Some h) p = absurd (head-no-anchor h a p q)

      no-end : (o : Option RecordEnd) → decode_end bytes ≡ o → decode_end bytes ≡ None
      no-end None p = p
      no-end (Some e) p = absurd (end-no-anchor e a p q)

  pub no-decoded-head : decode_head P bytes ≡ None → (m : ℕ) (ns : List ℕ) → word_of P bytes ≡ head m ns → ⊥
  unfolding word_of
  no-decoded-head p m ns w = later (decode_end bytes) (decode_anchor bytes) (sym (ap (λ o. as_head o (as_end (decode_end bytes) (as_anchor (decode_anchor bytes) other))) p) ∙ w)
    where
      later : (e : Option RecordEnd) (a : Option Anchor) → as_end e (as_anchor a other) ≡ head m ns → ⊥
      later (Some e) a q = let z : ◌≡◌ {A = ℕ} 0 1 = cc in omega arith
      later None (Some a) q = let z : ◌≡◌ {A = ℕ} 0 1 = cc in omega arith
      later None None q = let z : ◌≡◌ {A = ℕ} 0 1 = cc in omega arith

  pub no-decoded-end : decode_end bytes ≡ None → (m n : ℕ) → word_of P bytes ≡ end m n → ⊥
  unfolding word_of
  no-decoded-end p m n w = later (decode_head P bytes) (decode_anchor bytes) (sym (ap (λ o. as_head (decode_head P bytes) (as_end o (as_anchor (decode_anchor bytes) other))) p) ∙ w)
    where
      later : (h : Option RecordHead) (a : Option Anchor) → as_head h (as_anchor a other) ≡ end m n → ⊥
      later (Some h) a q = let z : ◌≡◌ {A = ℕ} 0 1 = cc in omega arith
      later None (Some a) q = let z : ◌≡◌ {A = ℕ} 0 1 = cc in omega arith
      later None None q = let z : ◌≡◌ {A = ℕ} 0 1 = cc in omega arith

  pub no-decoded-anchor : decode_anchor bytes ≡ None → (f : Third) (m : ℕ) → word_of P bytes ≡ anchor f m → ⊥
  unfolding word_of
  no-decoded-anchor p f m w = later (decode_head P bytes) (decode_end bytes) (sym (ap (λ o. as_head (decode_head P bytes) (as_end (decode_end bytes) (as_anchor o other))) p) ∙ w)
    where
      later : (h : Option RecordHead) (e : Option RecordEnd) → as_head h (as_end e other) ≡ anchor f m → ⊥
      later (Some h) e q = let z : ◌≡◌ {A = ℕ} 0 1 = cc in omega arith
      later None (Some e) q = let z : ◌≡◌ {A = ℕ} 0 1 = cc in omega arith
      later None None q = let z : ◌≡◌ {A = ℕ} 0 1 = cc in omega arith

  pub decoded-calm : decode_head P bytes ≡ None → decode_end bytes ≡ None → Calm (word_of P bytes)
  decoded-calm p q = quiet (word_of P bytes) (no-decoded-head p) (no-decoded-end q)
    where
      quiet : (w : Word) → ((m : ℕ) (ns : List ℕ) → w ≡ head m ns → ⊥) → ((m n : ℕ) → w ≡ end m n → ⊥) → Calm w
      quiet nothing a b = tt
      quiet (anchor f m) a b = tt
      quiet (head m ns) a b = a m ns refl
      quiet (end m n) a b = b m n refl
      quiet other a b = tt

rise-good : (n low P : ℕ) (pages : List ℕ) → good_pages n low P pages ≡ true → Rise low P (take n pages) × (length (take n pages) ≡ n)
unfolding good_pages
rise-good zero low P pages h = (tt, refl)
rise-good (suc n) low P [] h = let z : ◌≡◌ {A = ℕ} 0 1 = cc in absurd (omega arith)
rise-good (suc n) low P (x ∷ pages) h =
    let a = and_parts (leb low x) _ h in
    let b = and_parts (ltb x P) _ a.1 in
    let rest = rise-good n (x + 1) P pages b.1 in
    ((grind (arith, nat_tests, a.0), grind (arith, nat_tests, b.0), rest.0), ap suc rest.1)

pub decoded-numbers : (P : ℕ) (h : RecordHead) → HeadFits P h → Rise 0 P (take h.count h.pages) × (length (take h.count h.pages) ≡ h.count)
decoded-numbers P h fits = rise-good h.count 0 P h.pages fits.3
