-- A survey, one sector at a time.
--     Seen             the first i of the five sectors are looked at
--     none-seen        none is at the start
--     more-seen        one sector more
--     look-refused     the next sector was refused
--     all-seen         all five are looked at
use Rattle.std.proofs.Common.{◌≡◌, ℕ, ◌+◌, ◌<◌, ◌≤◌, Bool, true, false, ◌≢◌, List, length, get_or, take, drop, set, replicate, Ok, Err, sym, refl, ap, ◌∙◌, subst, ⊎_elim, arith, below_more}
use Rattle.std.proofs.lemmas.List.{length-set, length-map, length-take, length-drop, get_or-set_same, get_or-set_other, get_or-map, get_or-take, get_or-drop, get_or_default, same_lists}
use Rattle.std.proofs.lemmas.Bool.{cases_lt}
use Rattle.disk.specs.Sectors.{DiskState, unreadable, count}
use Rattle.disk.specs.Rules.{ReadOff}
use Rattle.disk.specs.declared.faults.Fault.{Fault}
use Rattle.disk.specs.declared.faults.Fault.TheVariants.{PowerOff, Unreadable, NoSuchSector}
use Rattle.sheet.specs.Surveys.{can_read, Looks, marks, Surveys}

pub record Seen (first : ℕ) (d e : DiskState) (i : ℕ) (readable : List Bool) : Type 0 where
  pub same : e ≡ d
  pub on : 0 < i → d.power ≡ true
  pub exist : 0 < i → first + i ≤ count d
  pub long : length readable ≡ 5
  pub each : (k : ℕ) → k < i → get_or readable k false ≡ can_read (get_or d.sectors (first + k) unreadable)

module _ (first : ℕ) (d : DiskState) where
  pub none-seen : Seen first d d 0 (replicate 5 false)
  none-seen = record { same = refl; on = λ h. absurd (omega arith); exist = λ h. absurd (omega arith); long = refl; each = λ k h. absurd (omega arith) }

  module _ (m : DiskState) (i : ℕ) (readable : List Bool) (seen : Seen first d m i readable) (within : i < 5) where
    pub more-seen : (e : DiskState) (b : Bool) → Looks (first + i) m (Ok b) e → Seen first d e (i + 1) (set readable i b)
    more-seen e b look =
        let h = subst (λ (x : DiskState). Looks (first + i) x (Ok b) e) seen.same look in
        let here : i < length readable = omega (arith, seen.long) in
        record {
          same = h.3;
          on = λ _. h.0;
          exist = λ _. omega (arith, h.1);
          long = length-set readable i b ∙ seen.long;
          each =
              below_more
              (λ k. get_or (set readable i b) k false ≡ can_read (get_or d.sectors (first + k) unreadable))
              i
              (λ k lt. let ne : k ≢ i = omega arith in get_or-set_other readable i k b false ne ∙ seen.each k lt)
              (get_or-set_same readable i b false here ∙ h.2);
        }

    -- With the power off no sector was looked at before.
    dark-first : d.power ≡ false → first + i ≡ first
    dark-first off =
        ⊎_elim
        (λ (lt : 0 < i). let on = seen.on lt in cc)
        (λ (ge : i ≤ 0). omega arith)
        (cases_lt 0 i)

    pub look-refused : (e : DiskState) (x : Fault) → Looks (first + i) m (Err x) e → Surveys first d (Err x) e
    look-refused e x look = by-fault x (subst (λ (y : DiskState). Looks (first + i) y (Err x) e) seen.same look)
      where
        by-fault : (x : Fault) → Looks (first + i) d (Err x) e → Surveys first d (Err x) e
        by-fault (PowerOff p) h = record { from = omega (arith, h.0); below = omega (arith, h.0); dark = λ off. h.0 ∙ dark-first off; why = subst (λ (s : ℕ). ReadOff s d e) (sym h.0) h.1 }
        by-fault (Unreadable p) h = h
        by-fault NoSuchSector h = (h.0, omega (arith, h.1), h.2)

  pub all-seen : (e : DiskState) (readable : List Bool) → Seen first d e 5 readable → Surveys first d (Ok readable) e
  all-seen e readable seen =
      let l = d.sectors in
      let exist = seen.exist (omega arith) in
      let long : length (take 5 (drop first l)) ≡ 5 = simp (length-take, length-drop) (omega arith) in
      let same = same_lists readable (marks first l) (seen.long ∙ sym (length-map (take 5 (drop first l)) can_read ∙ long)) (λ k u h.
      let lt : k < 5 = omega (arith, seen.long) in
      get_or_default readable k u false h ∙ seen.each k lt
      ∙ sym (get_or-map can_read (take 5 (drop first l)) k unreadable u (omega arith) ∙ ap can_read (get_or-take 5 (drop first l) k unreadable lt ∙ get_or-drop first l k unreadable)))
      in
      (seen.on (omega arith), exist, same, seen.same)
