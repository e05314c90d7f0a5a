-- Which of the tagged sectors a sector is.
--     Carries      what the decoders say of it
--     Alone        no sector is two of them, and one that does not begin with F, as a page or a sector of zeros, is none
use Rattle.std.specs.Prelude.{◌≡◌, ℕ, List, Some, None, Option, ◌≢◌, slice_index}
use Rattle.layout.specs.Anchors.{decode_anchor}
use Rattle.layout.specs.Ends.{decode_end}
use Rattle.layout.specs.Heads.{decode_head}
use Rattle.layout.specs.Headers.{decode_header}
use Rattle.layout.specs.Leaders.{decode_leader}
use Rattle.layout.specs.declared.tagged.Tagged.{Tagged}
use Rattle.layout.specs.declared.tagged.Tagged.TheVariants.{Header, Anchor, Head, End, Leader}

abbrev pub Carries : ℕ → ℕ → List ℕ → Option Tagged → Type 0
Carries count pages s (Some (Header h)) = decode_header count s ≡ Some h
Carries count pages s (Some (Anchor a)) = decode_anchor s ≡ Some a
Carries count pages s (Some (Head h)) = decode_head pages s ≡ Some h
Carries count pages s (Some (End e)) = decode_end s ≡ Some e
Carries count pages s (Some (Leader l)) = decode_leader s ≡ Some l
Carries count pages s None =
    (decode_header count s ≡ None) × (decode_anchor s ≡ None) × (decode_head pages s ≡ None) × (decode_end s ≡ None) × (decode_leader s ≡ None)

pub record Alone (count pages : ℕ) (s : List ℕ) (r : Option Tagged) : Type 0 where
  pub one : (t : Option Tagged) → Carries count pages s t → r ≡ t
  pub other : (slice_index s 0 ≢ 70) → r ≡ None
