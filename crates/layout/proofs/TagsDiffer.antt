-- No sector is two of the tagged ones: the fourth letter tells them apart.
use Rattle.std.proofs.Common.{◌≡◌, ℕ, Bool, true, false, cond, eqb, List, get_or, Some, None, Option, sym, refl, ap, ◌∙◌, arith}
use Rattle.std.proofs.lemmas.Bool.Decides.{nat_tests}
use Rattle.layout.specs.Anchors.{decode_anchor}
use Rattle.layout.specs.Ends.{decode_end}
use Rattle.layout.specs.Heads.{decode_head}
use Rattle.layout.specs.Headers.{decode_header}
use Rattle.layout.specs.Leaders.{decode_leader}
use Rattle.layout.specs.Tags.{Carries, Alone}
use Rattle.layout.specs.declared.tagged.Tagged.{Tagged}
use Rattle.layout.specs.declared.tagged.Tagged.TheVariants.{Header, Anchor, Head, End, Leader}

-- The tag of a sector that carries one: an F, and a fourth letter.
abbrev Letters : List ℕ → Option Tagged → Type 0
Letters s (Some (Header h)) = (get_or s 0 0 ≡ 70) × (get_or s 3 0 ≡ 86)
Letters s (Some (Anchor a)) = (get_or s 0 0 ≡ 70) × (get_or s 3 0 ≡ 65)
Letters s (Some (Head h)) = (get_or s 0 0 ≡ 70) × (get_or s 3 0 ≡ 72)
Letters s (Some (End e)) = (get_or s 0 0 ≡ 70) × (get_or s 3 0 ≡ 69)
Letters s (Some (Leader l)) = (get_or s 0 0 ≡ 70) × (get_or s 3 0 ≡ 76)
Letters s None = Unit {0}

abbrev from : {X : Type 0} → (X → Tagged) → Option X → Option Tagged
from f None = None
from f (Some x) = Some (f x)

both-none : (b : Bool) (x y : Option Tagged) → x ≡ None → y ≡ None → cond b x y ≡ None
both-none true x y p q = p
both-none false x y p q = q

module _ (count pages : ℕ) (s : List ℕ) where
  -- what a sector carries, by its fourth letter
  abbrev pick : ℕ → Option Tagged
  pick c =
      cond (eqb c 86) (from Header (decode_header count s))
      (cond (eqb c 65) (from Anchor (decode_anchor s))
      (cond (eqb c 72) (from Head (decode_head pages s)) (cond (eqb c 69) (from End (decode_end s)) (cond (eqb c 76) (from Leader (decode_leader s)) None))))

  letters : (t : Option Tagged) → Carries count pages s t → Letters s t
  letters (Some (Header h)) e = (grind (arith, nat_tests), grind (arith, nat_tests))
  letters (Some (Anchor a)) e = (grind (arith, nat_tests), grind (arith, nat_tests))
  letters (Some (Head h)) e = (grind (arith, nat_tests), grind (arith, nat_tests))
  letters (Some (End x)) e = (grind (arith, nat_tests), grind (arith, nat_tests))
  letters (Some (Leader l)) e = (grind (arith, nat_tests), grind (arith, nat_tests))
  letters None e = tt

  picked : (t : Option Tagged) → Carries count pages s t → pick (get_or s 3 0) ≡ t
  picked (Some (Header h)) e = ap pick (letters (Some (Header h)) e).1 ∙ ap (from Header) e
  picked (Some (Anchor a)) e = ap pick (letters (Some (Anchor a)) e).1 ∙ ap (from Anchor) e
  picked (Some (Head h)) e = ap pick (letters (Some (Head h)) e).1 ∙ ap (from Head) e
  picked (Some (End x)) e = ap pick (letters (Some (End x)) e).1 ∙ ap (from End) e
  picked (Some (Leader l)) e = ap pick (letters (Some (Leader l)) e).1 ∙ ap (from Leader) e
  picked None e =
      let c = get_or s 3 0 in
      both-none (eqb c 86) _ _ (ap (from Header) e.0)
      (both-none (eqb c 65) _ _ (ap (from Anchor) e.1)
      (both-none (eqb c 72) _ _ (ap (from Head) e.2)
      (both-none (eqb c 69) _ _ (ap (from End) e.3) (both-none (eqb c 76) _ _ (ap (from Leader) e.4) refl))))

  no-letter : (t : Option Tagged) → Letters s t → (get_or s 0 0 ≡ 70 → ⊥) → t ≡ None
  no-letter (Some (Header h)) l ne = absurd (ne l.0)
  no-letter (Some (Anchor a)) l ne = absurd (ne l.0)
  no-letter (Some (Head h)) l ne = absurd (ne l.0)
  no-letter (Some (End x)) l ne = absurd (ne l.0)
  no-letter (Some (Leader x)) l ne = absurd (ne l.0)
  no-letter None l ne = refl

  pub alone : (r : Option Tagged) → Carries count pages s r → Alone count pages s r
  alone r a = record { one = λ t b. sym (picked r a) ∙ picked t b; other = λ ne. no-letter r (letters r a) ne }
