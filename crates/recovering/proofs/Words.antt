-- What a sector's bytes say, by the decoder of an anchor.
--     anchor-said        bytes that are an anchor say it
--     said-anchor        bytes that say an anchor are one
--     none-said          bytes that are no anchor say none
use Rattle.std.proofs.Common.{◌≡◌, ℕ, List, Some, None, Option, refl, ap, ap₂, ◌∙◌}
use Rattle.geometry.specs.declared.third.Third.{Third}
use Rattle.layout.specs.Anchors.{decode_anchor}
use Rattle.layout.specs.Ends.{decode_end}
use Rattle.layout.specs.Heads.{decode_head}
use Rattle.layout.specs.declared.anchor.Anchor.{Anchor}
use Rattle.layout.specs.declared.end.RecordEnd.{RecordEnd}
use Rattle.layout.specs.declared.head.RecordHead.{RecordHead}
use Rattle.layout.specs.declared.tagged.Tagged.TheVariants as tagged
use Rattle.layout.proofs.TagsDiffer.{alone}
use Rattle.thirds.specs.Words.{anchor, other, as_head, as_end, as_anchor, word_of}

no-head : (P : ℕ) (bytes : List ℕ) (a : Anchor) → decode_anchor bytes ≡ Some a → (o : Option RecordHead) → decode_head P bytes ≡ o → o ≡ None
no-head P bytes a e None h = refl
no-head P bytes a e (Some x) h = absurd (let z = (alone 0 P bytes (Some (tagged.Anchor a)) e).one (Some (tagged.Head x)) h in cc)

no-end : (P : ℕ) (bytes : List ℕ) (a : Anchor) → decode_anchor bytes ≡ Some a → (o : Option RecordEnd) → decode_end bytes ≡ o → o ≡ None
no-end P bytes a e None h = refl
no-end P bytes a e (Some x) h = absurd (let z = (alone 0 P bytes (Some (tagged.Anchor a)) e).one (Some (tagged.End x)) h in cc)

pub anchor-said : (P : ℕ) (bytes : List ℕ) (a : Anchor) → decode_anchor bytes ≡ Some a → word_of P bytes ≡ anchor a.third a.group
unfolding word_of
anchor-said P bytes a e =
    ap (λ o. as_head o (as_end (decode_end bytes) (as_anchor (decode_anchor bytes) other))) (no-head P bytes a e (decode_head P bytes) refl)
    ∙ ap (λ o. as_end o (as_anchor (decode_anchor bytes) other)) (no-end P bytes a e (decode_end bytes) refl)
    ∙ ap (λ o. as_anchor o other) e

by-head : (h : Option RecordHead) (n : Option RecordEnd) (o : Option Anchor) (f : Third) (m : ℕ) → as_head h (as_end n (as_anchor o other)) ≡ anchor f m → o ≡ Some (record { third = f; group = m })
by-head (Some x) n o f m e = cc
by-head None (Some x) o f m e = cc
by-head None None None f m e = cc
by-head None None (Some a) f m e = let t : a.third ≡ f = cc in let g : a.group ≡ m = cc in ap₂ (λ (u : Third) (n : ℕ). Some (record { third = u; group = n })) t g

pub said-anchor : (P : ℕ) (bytes : List ℕ) (f : Third) (m : ℕ) → word_of P bytes ≡ anchor f m → decode_anchor bytes ≡ Some (record { third = f; group = m })
unfolding word_of
said-anchor P bytes f m e = by-head (decode_head P bytes) (decode_end bytes) (decode_anchor bytes) f m e
