-- What a call does to the disk below, as it is seen where sectors are marked.
--     length_masked          no sector is left out
--     masked-other           a sector that is not marked is as it is below
--     masked-set             a write is seen, or hidden by the mark
--     masked-without         a write is seen where its mark goes
--     masked-unreadable      a spoiled sector is unreadable, marked or not
--     masked_cut             the cut rule below is the cut rule where sectors are marked
--     writes-seen, reads-seen    the rules of a write and a read with the power on again
--     spoils-seen            the rule of spoil
--     spoiling               this lemma, which the check takes up by itself
use Rattle.std.proofs.Common.{◌≡◌, ℕ, ◌+◌, ◌-◌, Bool, true, false, ◌==◌, cond, ◌⊎◌, List, length, get_or, set, Option, Some, None, Ok, Err, sym, refl, ap, ◌∙◌, inl, inr, ⊎_elim, arith}
use Rattle.std.proofs.Math.Seq.{set-set, set_comm}
use Rattle.std.proofs.lemmas.List.{get_or-set_other}
use Rattle.std.proofs.lemmas.Bool.{cases_eq, eqb-false, eqb-true, false_from_ne_true, or_parts}
use Rattle.disk.specs.Sectors.{Sector, unreadable, holds, DiskState, At}
use Rattle.disk.specs.Faults.{Answer}
use Rattle.disk.specs.Rules.{ReadOff, read-was-off, read-failed, Reads, Cut, cut-before, cut-new, cut-own, cut-below, cut-above, WriteOff, write-was-off, write-failed, Writes, Spoils}
use Rattle.disk.specs.declared.faults.Fault.TheVariants.{PowerOff, Unreadable, NoSuchSector}
use Rattle.marking.specs.Marks.{names, is_lost, IsLost, unless, without, kept, hide, masked}
use Rattle.marking.specs.Phases.{lost_in, seen, again}
use Rattle.failing.specs.Phases.{off_in}
use Rattle.marking.specs.MarkingSound.{length_hide}
use Rattle.marking.specs.declared.lost.Lost.{Lost}
use Rattle.failing.specs.declared.phase.Phase.{Phase}
use Rattle.failing.specs.declared.phase.Phase.TheVariants.{Off, On}

hide-other : (mark : Option ℕ) (l : List Sector) (s : ℕ) (x : Sector) → names mark s ≡ false → get_or (hide mark l) s x ≡ get_or l s x
hide-other None l s x h = refl
hide-other (Some t) l s x h = get_or-set_other l t s unreadable x (λ e. eqb-false t s h (sym e))

hide-set : (mark : Option ℕ) (l : List Sector) (s : ℕ) (x : Sector) → (hide mark (set l s x) ≡ hide mark l) ⊎ (hide mark (set l s x) ≡ set (hide mark l) s x)
hide-set None l s x = inr refl
hide-set (Some t) l s x =
    ⊎_elim
    (λ (e : s ≡ t). inl (ap (λ i. set (set l i x) t unreadable) e ∙ set-set l t x unreadable))
    (λ ne. inr (set_comm l s t x unreadable ne))
    (cases_eq s t)

hide-unreadable : (mark : Option ℕ) (l : List Sector) (s : ℕ) → hide mark (set l s unreadable) ≡ set (hide mark l) s unreadable
hide-unreadable None l s = refl
hide-unreadable (Some t) l s =
    ⊎_elim
    (λ (e : s ≡ t). rw e refl)
    (λ ne. set_comm l s t unreadable unreadable ne)
    (cases_eq s t)

-- A mark that is the written sector's goes.
hide-unless : (mark : Option ℕ) (l : List Sector) (s : ℕ) (x : Sector) → hide (unless mark s) (set l s x) ≡ set (hide mark l) s x
hide-unless None l s x = refl
hide-unless (Some t) l s x = go (t == s) refl
  where
    go : (b : Bool) → (t == s) ≡ b → hide (cond b None (Some t)) (set l s x) ≡ set (set l t unreadable) s x
    go true h = sym (ap (λ i. set (set l i unreadable) s x) (eqb-true t s h) ∙ set-set l s unreadable x)
    go false h = set_comm l s t x unreadable (λ e. eqb-false t s h (sym e))

module _ (lost : Lost) where
  pub length_masked : (l : List Sector) → length (masked lost l) ≡ length l
  length_masked l = length_hide lost.neighbour (hide lost.own l) ∙ length_hide lost.own l

  pub masked-other : (l : List Sector) (s : ℕ) (x : Sector) → is_lost lost s ≡ false → get_or (masked lost l) s x ≡ get_or l s x
  masked-other l s x h =
      let no = or_parts (names lost.own s) (names lost.neighbour s) h in
      hide-other lost.neighbour (hide lost.own l) s x no.1 ∙ hide-other lost.own l s x no.0

  pub masked-set : (l : List Sector) (s : ℕ) (x : Sector)
      → (masked lost (set l s x) ≡ masked lost l) ⊎ (masked lost (set l s x) ≡ set (masked lost l) s x)
  masked-set l s x =
      ⊎_elim
      (λ (e : hide lost.own (set l s x) ≡ hide lost.own l). inl (ap (hide lost.neighbour) e))
      (λ (e : hide lost.own (set l s x) ≡ set (hide lost.own l) s x).
      ⊎_elim
      (λ (f : hide lost.neighbour (set (hide lost.own l) s x) ≡ masked lost l). inl (ap (hide lost.neighbour) e ∙ f))
      (λ (f : hide lost.neighbour (set (hide lost.own l) s x) ≡ set (masked lost l) s x). inr (ap (hide lost.neighbour) e ∙ f))
      (hide-set lost.neighbour (hide lost.own l) s x))
      (hide-set lost.own l s x)

  pub masked-unreadable : (l : List Sector) (s : ℕ) → masked lost (set l s unreadable) ≡ set (masked lost l) s unreadable
  masked-unreadable l s = ap (hide lost.neighbour) (hide-unreadable lost.own l s) ∙ hide-unreadable lost.neighbour (hide lost.own l) s

  pub masked-without : (l : List Sector) (s : ℕ) (x : Sector) → masked (without lost s) (set l s x) ≡ set (masked lost l) s x
  masked-without l s x = ap (hide (unless lost.neighbour s)) (hide-unless lost.own l s x) ∙ hide-unless lost.neighbour (hide lost.own l) s x

  pub masked_cut : (s : ℕ) (bytes : List ℕ) (d e : List Sector) → Cut s bytes d e → Cut s bytes (masked lost d) (masked lost e)
  masked_cut s bytes d e (cut-before h) = cut-before (ap (masked lost) h)
  masked_cut s bytes d e (cut-new h) =
      ⊎_elim
      (λ (f : masked lost (set d s (holds bytes)) ≡ masked lost d). cut-before (ap (masked lost) h ∙ f))
      (λ (f : masked lost (set d s (holds bytes)) ≡ set (masked lost d) s (holds bytes)). cut-new (ap (masked lost) h ∙ f))
      (masked-set d s (holds bytes))
  masked_cut s bytes d e (cut-own h) = cut-own (ap (masked lost) h ∙ masked-unreadable d s)
  masked_cut s bytes d e (cut-below h) =
      cut-below (ap (masked lost) h ∙ masked-unreadable (set d s unreadable) (s - 1) ∙ ap (λ l. set l (s - 1) unreadable) (masked-unreadable d s))
  masked_cut s bytes d e (cut-above h) =
      cut-above (ap (masked lost) h ∙ masked-unreadable (set d s unreadable) (s + 1) ∙ ap (λ l. set l (s + 1) unreadable) (masked-unreadable d s))

  -- a write with the power on again
  pub writes-seen : (s : ℕ) (bytes : List ℕ) (d : DiskState) (r : Answer) (e : DiskState) → d.power ≡ true → Writes s bytes d r e
      → Writes s bytes (seen (On lost) d) r (seen (again r (kept r s lost)) e)
  writes-seen s bytes d (Ok _) e on h =
      (h.0, omega (arith, h.1, length_masked d.sectors), h.2, ap (masked (without lost s)) h.3 ∙ masked-without d.sectors s (holds bytes))
  writes-seen s bytes d (Err (PowerOff p)) e on h = (h.0, off h.1)
    where
      off : WriteOff s bytes d e → WriteOff s bytes (seen (On lost) d) (seen (Off lost) e)
      off (write-was-off dead same) = cc
      off (write-failed _ exists dead cut) = write-failed on (omega (arith, exists, length_masked d.sectors)) refl (masked_cut s bytes d.sectors e.sectors cut)
  writes-seen s bytes d (Err (Unreadable p)) e on h = h
  writes-seen s bytes d (Err NoSuchSector) e on h = (h.0, omega (arith, h.1, length_masked d.sectors), ap (seen (On lost)) h.2)

  -- a read of a sector that is not lost, with the power on again
  pub reads-seen : (s : ℕ) (d : DiskState) (old : List ℕ) (r : Answer) (e : DiskState) (new : List ℕ) → d.power ≡ true → (IsLost s lost d → ⊥) → Reads s d old r e new
      → Reads s (seen (On lost) d) old r (seen (again r lost) e) new
  reads-seen s d old r e new on free = go r
    where
      at : (x : Sector) → At d s x → At (seen (On lost) d) s x
      at x h =
          let exists = h.exists in
          record {
            exists = omega (arith, exists, length_masked d.sectors);
            is = masked-other d.sectors s unreadable (false_from_ne_true (is_lost lost s) (λ yes. free (yes, exists))) ∙ h.is;
          }

      off : ReadOff s d e → ReadOff s (seen (On lost) d) (seen (Off lost) e)
      off (read-was-off dead same) = cc
      off (read-failed _ bytes h dead same) = read-failed on bytes (at (holds bytes) h) refl (ap (masked lost) same)

      go : (q : Answer) → Reads s d old q e new → Reads s (seen (On lost) d) old q (seen (again q lost) e) new
      go (Ok _) h = (h.0, at (holds new) h.1, ap (seen (On lost)) h.2)
      go (Err (PowerOff p)) h = (h.0, (h.1.0, off h.1.1))
      go (Err (Unreadable p)) h = (h.0, (h.1.0, h.1.1, at unreadable h.1.2, ap (seen (On lost)) h.1.3))
      go (Err NoSuchSector) h = (h.0, (h.1.0, omega (arith, h.1.1, length_masked d.sectors), ap (seen (On lost)) h.1.2))

pub spoils-seen : (phase : Phase Lost) (s : ℕ) (d : DiskState) (r : Answer) (e : DiskState) → Spoils s d r e → Spoils s (seen phase d) r (seen phase e)
spoils-seen phase s d (Ok _) e h =
    let lost = lost_in phase in
    (omega (arith, h.0, length_masked lost d.sectors), ap (λ p. cond (off_in phase) false p) h.1, ap (masked lost) h.2 ∙ masked-unreadable lost d.sectors s)
spoils-seen phase s d (Err (PowerOff p)) e h = h
spoils-seen phase s d (Err (Unreadable p)) e h = h
spoils-seen phase s d (Err NoSuchSector) e h = (omega (arith, h.0, length_masked (lost_in phase) d.sectors), ap (seen phase) h.1)

pub ruleset spoiling = (spoils-seen)
