-- Two copies that lie two sectors apart: a cut in the write of one leaves the other.
--     both-doubled         both copies hold what was written to both
--     cut-stands           what stands after a cut
use Rattle.std.proofs.Common.{◌≡◌, ℕ, ◌+◌, ◌<◌, ◌≤◌, true, ◌≢◌, ◌⊎◌, List, length, get_or, set, refl, ap, ◌∙◌, inl, inr, ⊎_elim, arith}
use Rattle.std.proofs.lemmas.List.{length-set, get_or-set_same, get_or-set_other}
use Rattle.disk.specs.Sectors.{Sector, unreadable, holds, DiskState, count, At}
use Rattle.disk.specs.Rules.{Cut}
use Rattle.disk.proofs.Cuts.{length-cut, cut-far, cut-here}
use Rattle.sheet.specs.Twins.{Both, on-first, on-second, Stands, old-stands, new-stands, Doubled, CutIn, no-power, in-first, in-second}
use Rattle.sheet.proofs.Standing.{at-same}

-- The sector that was written last.
at-set : (d e : DiskState) (s : ℕ) (x : Sector) → s < count d → e.sectors ≡ set d.sectors s x → At e s x
at-set d e s x within is = record {
  exists = omega (arith, ap length is, length-set d.sectors s x);
  is = ap (λ l. get_or l s unreadable) is ∙ get_or-set_same d.sectors s x unreadable within;
}

module _ (first second : ℕ) (apart : first + 2 ≤ second) where
  -- the disk once the first copy is written
  half : List ℕ → DiskState → DiskState
  half new d = record { power = true; sectors = set d.sectors first (holds new) }

  half-holds : (new : List ℕ) (d : DiskState) → first < count d → At (half new d) first (holds new)
  unfolding half
  half-holds new d within = at-set d (half new d) first (holds new) within refl

  pub both-doubled : (new : List ℕ) (d e : DiskState) → Doubled first second new d e → Both first second new e
  unfolding half
  both-doubled new d e h =
      let ne : first ≢ second = omega arith in
      let at = half-holds new d h.first-exists in
      let long = length-set d.sectors first (holds new) in (
        record {
          exists = omega (arith, at.exists, ap length h.written, length-set (half new d).sectors second (holds new));
          is = ap (λ l. get_or l first unreadable) h.written ∙ get_or-set_other (half new d).sectors second first (holds new) unreadable ne ∙ at.is;
        },
        at-set (half new d) e second (holds new) (omega (arith, h.second-exists, long)) h.written,
      )

  -- a sector far from a cut write
  at-far : (s t : ℕ) (bytes : List ℕ) (d e : DiskState) (x : Sector) → (t + 2 ≤ s) ⊎ (s + 2 ≤ t) → Cut s bytes d.sectors e.sectors → At d t x → At e t x
  at-far s t bytes d e x far cut at = record {
    exists = omega (arith, at.exists, length-cut s bytes d.sectors e.sectors cut);
    is = cut-far s bytes d.sectors e.sectors t unreadable far cut ∙ at.is;
  }

  at-here : (s : ℕ) (bytes : List ℕ) (d e : DiskState) (x y : Sector) → Cut s bytes d.sectors e.sectors → At d s y → get_or e.sectors s unreadable ≡ x → At e s x
  at-here s bytes d e x y cut at is = record { exists = omega (arith, at.exists, length-cut s bytes d.sectors e.sectors cut); is = is }

  first-cut : (old new : List ℕ) (d e : DiskState) → Cut first new d.sectors e.sectors → Both first second old d → Stands first second old new e
  first-cut old new d e cut both =
      let here = at-here first new d e in
      let other = at-far first second new d e (holds old) (inr apart) cut both.1 in
      ⊎_elim
      (λ (q : get_or e.sectors first unreadable ≡ get_or d.sectors first unreadable). old-stands first (on-first refl (here (holds old) (holds old) cut both.0 (q ∙ both.0.is))))
      (λ q. ⊎_elim
      (λ (n : get_or e.sectors first unreadable ≡ holds new). new-stands first (on-first refl (here (holds new) (holds old) cut both.0 n)))
      (λ (n : get_or e.sectors first unreadable ≡ unreadable). old-stands second (on-second refl (here unreadable (holds old) cut both.0 n) other))
      q)
      (cut-here first new d.sectors e.sectors both.0.exists unreadable cut)

  pub cut-stands : (old new : List ℕ) (d e : DiskState) (s : ℕ) → CutIn first second new d s e.sectors → Both first second old d → Stands first second old new e
  unfolding half
  cut-stands old new d e s (no-power is was same) both = old-stands first (on-first refl (at-same d e first (holds old) same both.0))
  cut-stands old new d e s (in-first is on exists cut) both = first-cut old new d e cut both
  cut-stands old new d e s (in-second is on exists there cut) both =
      new-stands first (on-first refl (at-far second first new (half new d) e (holds new) (inl apart) cut (half-holds new d exists)))
