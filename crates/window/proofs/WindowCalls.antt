-- What a call does to the disk below is what the window's call does to the window.
--     part-cut                                         the cut rule below is the cut rule of the window, where a neighbour outside is not seen
--     window-reads, window-writes, window-spoils       each call's rule, at the answer of the disk below and at the window's, which retells it
--     calls                                            these, which the check takes up by itself
use Rattle.std.proofs.Common.{◌≡◌, ℕ, zero, suc, ◌+◌, ◌-◌, ◌<◌, ◌≤◌, List, [], ◌∷◌, take, drop, set, Ok, Err, refl, ap, ◌∙◌, ⊎_elim, arith}
use Rattle.std.proofs.lemmas.List.{get_or-take, get_or-drop, drop-set-add, drop-set-lt}
use Rattle.std.proofs.lemmas.Bool.{cases_lt}
use Rattle.disk.specs.Sectors.{Sector, unreadable, holds, DiskState, count, At}
use Rattle.disk.specs.Rules.{ReadOff, read-was-off, read-failed, Reads, Cut, cut-before, cut-new, cut-own, cut-below, cut-above, WriteOff, write-was-off, write-failed, Writes, Spoils}
use Rattle.disk.specs.Faults.{Answer}
use Rattle.window.specs.Windows.{windowed, Placed, retold}
use Rattle.window.specs.WindowSound.{window-length}
use Rattle.disk.specs.declared.faults.Fault.TheVariants.{PowerOff, Unreadable, NoSuchSector}

-- `set` past the end of the front leaves it, so this wants no bound.
take-set-any : {A : Type 0} (n : ℕ) (l : List A) (i : ℕ) (x : A) → take n (set l i x) ≡ set (take n l) i x
take-set-any zero l i x = refl
take-set-any (suc n) [] i x = refl
take-set-any (suc n) (y ∷ l) zero x = refl
take-set-any (suc n) (y ∷ l) (suc i) x = ap (λ t. y ∷ t) (take-set-any n l i x)

module _ (f n : ℕ) where
  abbrev part : List Sector → List Sector
  part l = take n (drop f l)

  part-set : (l : List Sector) (i : ℕ) (x : Sector) → part (set l (f + i) x) ≡ set (part l) i x
  part-set l i x = ap (take n) (drop-set-add f l i x) ∙ take-set-any n (drop f l) i x

  -- a sector before the window is not seen
  part-set-before : (l : List Sector) (i : ℕ) (x : Sector) → i < f → part (set l i x) ≡ part l
  part-set-before l i x h = ap (take n) (drop-set-lt f l i x h)

  -- the cut rule of the disk below, as the window sees it
  pub part-cut : (i at : ℕ) (bytes : List ℕ) (d e : List Sector) → at ≡ f + i → Cut at bytes d e → Cut i bytes (part d) (part e)
  part-cut i at bytes d e p (cut-before h) = cut-before (ap part h)
  part-cut i at bytes d e p (cut-new h) = cut-new (ap part (rw p at h) ∙ part-set d i (holds bytes))
  part-cut i at bytes d e p (cut-own h) = cut-own (ap part (rw p at h) ∙ part-set d i unreadable)
  part-cut i at bytes d e p (cut-above h) =
      let q : at + 1 ≡ f + (i + 1) = omega arith in
      cut-above (ap part (rw (q, p) at h) ∙ part-set _ (i + 1) unreadable ∙ ap (λ l. set l (i + 1) unreadable) (part-set d i unreadable))
  part-cut i at bytes d e p (cut-below h) =
      ⊎_elim
      (λ (l : at - 1 < f). cut-own (ap part h ∙ part-set-before _ (at - 1) unreadable l ∙ (rw p (part-set d i unreadable))))
      (λ (l : f ≤ at - 1).
      let q : at - 1 ≡ f + (i - 1) = omega arith in
      cut-below (ap part (rw (q, p) at h) ∙ part-set _ (i - 1) unreadable ∙ ap (λ t. set t (i - 1) unreadable) (part-set d i unreadable)))
      (cases_lt (at - 1) f)

  within : (i at : ℕ) (d : DiskState) → Placed f n i d at → at < count d → (i < count (windowed f n d)) × (at ≡ f + i)
  within i at d p l =
      ⊎_elim
      (λ (h : i < count (windowed f n d)). (h, p.inside h))
      (λ (h : count (windowed f n d) ≤ i). let e = p.outside h in absurd (omega arith))
      (cases_lt i (count (windowed f n d)))

  window-at : (i at : ℕ) (d : DiskState) (x : Sector) → Placed f n i d at → At d at x → At (windowed f n d) i x
  window-at i at d x p a =
      let w = within i at d p a.exists in
      let m : i < n = omega (arith, window-length f n d.sectors) in
      record { exists = w.0; is = get_or-take n (drop f d.sectors) i unreadable m ∙ get_or-drop f d.sectors i unreadable ∙ (rw w.1 at a.is) }

  past : (i at : ℕ) (d : DiskState) → Placed f n i d at → count d ≤ at → count (windowed f n d) ≤ i
  past i at d p l =
      ⊎_elim
      (λ (h : i < count (windowed f n d)). let e = p.inside h in absurd (omega (arith, window-length f n d.sectors)))
      (λ (h : count (windowed f n d) ≤ i). h)
      (cases_lt i (count (windowed f n d)))

  window-read-off : (i at : ℕ) (d e : DiskState) → Placed f n i d at → ReadOff at d e → ReadOff i (windowed f n d) (windowed f n e)
  window-read-off i at d e p (read-was-off off same) = read-was-off off (ap (windowed f n) same)
  window-read-off i at d e p (read-failed on bytes a off same) = read-failed on bytes (window-at i at d (holds bytes) p a) off (ap part same)

  pub window-reads : (i at : ℕ) (d e : DiskState) (old new : List ℕ) (r q : Answer)
      → Placed f n i d at → Reads at d old r e new → q ≡ retold i r → Reads i (windowed f n d) old q (windowed f n e) new
  window-reads i at d e old new (Ok x) q p h is = rw is (h.0, window-at i at d (holds new) p h.1, ap (windowed f n) h.2)
  window-reads i at d e old new (Err (PowerOff _)) q p h is = rw is (h.0, (refl, window-read-off i at d e p h.1.1))
  window-reads i at d e old new (Err (Unreadable _)) q p h is = rw is (h.0, (refl, h.1.1, window-at i at d unreadable p h.1.2, ap (windowed f n) h.1.3))
  window-reads i at d e old new (Err NoSuchSector) q p h is = rw is (h.0, (h.1.0, past i at d p h.1.1, ap (windowed f n) h.1.2))

  window-write-off : (i at : ℕ) (bytes : List ℕ) (d e : DiskState) → Placed f n i d at → WriteOff at bytes d e → WriteOff i bytes (windowed f n d) (windowed f n e)
  window-write-off i at bytes d e p (write-was-off off same) = write-was-off off (ap (windowed f n) same)
  window-write-off i at bytes d e p (write-failed on l off cut) =
      let w = within i at d p l in
      write-failed on w.0 off (part-cut i at bytes d.sectors e.sectors w.1 cut)

  pub window-writes : (i at : ℕ) (bytes : List ℕ) (d e : DiskState) (r q : Answer)
      → Placed f n i d at → Writes at bytes d r e → q ≡ retold i r → Writes i bytes (windowed f n d) q (windowed f n e)
  window-writes i at bytes d e (Ok x) q p h is =
      let w = within i at d p h.1 in
      rw is (h.0, w.0, h.2, ap part (rw w.1 at h.3) ∙ part-set d.sectors i (holds bytes))
  window-writes i at bytes d e (Err (PowerOff _)) q p h is = rw is (refl, window-write-off i at bytes d e p h.1)
  window-writes i at bytes d e (Err (Unreadable _)) q p h is = rw is h
  window-writes i at bytes d e (Err NoSuchSector) q p h is = rw is (h.0, past i at d p h.1, ap (windowed f n) h.2)

  pub window-spoils : (i at : ℕ) (d e : DiskState) (r q : Answer)
      → Placed f n i d at → Spoils at d r e → q ≡ retold i r → Spoils i (windowed f n d) q (windowed f n e)
  window-spoils i at d e (Ok x) q p h is =
      let w = within i at d p h.0 in
      rw is (w.0, h.1, ap part (rw w.1 at h.2) ∙ part-set d.sectors i unreadable)
  window-spoils i at d e (Err (PowerOff _)) q p h is = rw is h
  window-spoils i at d e (Err (Unreadable _)) q p h is = rw is h
  window-spoils i at d e (Err NoSuchSector) q p h is = rw is (past i at d p h.0, ap (windowed f n) h.1)

pub ruleset calls = (window-reads, window-writes, window-spoils)
