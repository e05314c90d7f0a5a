-- What a cut write leaves at its own sector, near it and far from it.
--     length-cut       no sector is lost
--     cut-far          a sector at least two away is as before
--     cut-here         the sector itself is as before, holds the new bytes, or is unreadable
use Rattle.std.proofs.Common.{◌≡◌, ℕ, ◌+◌, ◌-◌, ◌<◌, ◌≤◌, ◌≢◌, ◌⊎◌, List, length, get_or, set, sym, ap, ◌∙◌, inl, inr, ⊎_elim, arith}
use Rattle.std.proofs.lemmas.List.{length-set, get_or-set_same, get_or-set_other}
use Rattle.std.proofs.lemmas.Bool.{cases_eq}
use Rattle.disk.specs.Sectors.{Sector, unreadable, holds}
use Rattle.disk.specs.Rules.{Cut, cut-before, cut-new, cut-own, cut-below, cut-above}

module _ (s : ℕ) (bytes : List ℕ) (d e : List Sector) where
  pub length-cut : Cut s bytes d e → length e ≡ length d
  length-cut (cut-before h) = ap length h
  length-cut (cut-new h) = ap length h ∙ length-set d s (holds bytes)
  length-cut (cut-own h) = ap length h ∙ length-set d s unreadable
  length-cut (cut-below h) = ap length h ∙ length-set (set d s unreadable) (s - 1) unreadable ∙ length-set d s unreadable
  length-cut (cut-above h) = ap length h ∙ length-set (set d s unreadable) (s + 1) unreadable ∙ length-set d s unreadable

  pub cut-far : (t : ℕ) (u : Sector) → (t + 2 ≤ s) ⊎ (s + 2 ≤ t) → Cut s bytes d e → get_or e t u ≡ get_or d t u
  cut-far t u far (cut-before h) = ap (λ l. get_or l t u) h
  cut-far t u far (cut-new h) = let ne : t ≢ s = omega arith in ap (λ l. get_or l t u) h ∙ get_or-set_other d s t (holds bytes) u ne
  cut-far t u far (cut-own h) = let ne : t ≢ s = omega arith in ap (λ l. get_or l t u) h ∙ get_or-set_other d s t unreadable u ne
  cut-far t u far (cut-below h) =
      let ne : t ≢ s = omega arith in
      let near : t ≢ s - 1 = omega arith in
      ap (λ l. get_or l t u) h ∙ get_or-set_other (set d s unreadable) (s - 1) t unreadable u near ∙ get_or-set_other d s t unreadable u ne
  cut-far t u far (cut-above h) =
      let ne : t ≢ s = omega arith in
      let near : t ≢ s + 1 = omega arith in
      ap (λ l. get_or l t u) h ∙ get_or-set_other (set d s unreadable) (s + 1) t unreadable u near ∙ get_or-set_other d s t unreadable u ne

  pub cut-here : s < length d → (u : Sector) → Cut s bytes d e → (get_or e s u ≡ get_or d s u) ⊎ ((get_or e s u ≡ holds bytes) ⊎ (get_or e s u ≡ unreadable))
  cut-here within u (cut-before h) = inl (ap (λ l. get_or l s u) h)
  cut-here within u (cut-new h) = inr (inl (ap (λ l. get_or l s u) h ∙ get_or-set_same d s (holds bytes) u within))
  cut-here within u (cut-own h) = inr (inr (ap (λ l. get_or l s u) h ∙ get_or-set_same d s unreadable u within))
  cut-here within u (cut-below h) =
      inr
      (inr
      (ap (λ l. get_or l s u) h
      ∙ ⊎_elim
      (λ (q : s ≡ s - 1).
      let w : s < length (set d s unreadable) = omega (arith, length-set d s unreadable) in
      ap (λ i. get_or (set (set d s unreadable) i unreadable) s u) (sym q) ∙ get_or-set_same (set d s unreadable) s unreadable u w)
      (λ (ne : s ≢ s - 1). get_or-set_other (set d s unreadable) (s - 1) s unreadable u ne ∙ get_or-set_same d s unreadable u within)
      (cases_eq s (s - 1))))
  cut-here within u (cut-above h) =
      let ne : s ≢ s + 1 = omega arith in
      inr (inr (ap (λ l. get_or l s u) h ∙ get_or-set_other (set d s unreadable) (s + 1) s unreadable u ne ∙ get_or-set_same d s unreadable u within))
