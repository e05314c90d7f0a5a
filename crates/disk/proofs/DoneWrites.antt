-- Writes that are done, one more at a time, and the writes of a run.
--     after-push               the sectors after one write more
--     length-after             writes change no count
--     done-none                no write is done at the start
--     done-more                a list's first writes are done, and so is the next one
--     length-run, nth-run      how many writes a run has, and which stands at a place
--     run-more                 one write of a run more is done
--     run-stopped, run-done    what a run's writes come to
use Rattle.std.proofs.Common.{◌≡◌, ℕ, zero, suc, ◌+◌, ◌<◌, ◌≤◌, List, [], ◌∷◌, ◌++◌, length, get_or, take, set, Ok, Err, sym, refl, ap, ◌∙◌, subst, ⊎_elim, add-zero, arith}
use Rattle.std.proofs.lemmas.List.{length-set, take_more, length-take, get_or-take, take_all}
use Rattle.std.proofs.lemmas.Bool.{cases_lt}
use Rattle.disk.specs.Sectors.{Sector, holds, DiskState, count}
use Rattle.disk.specs.Faults.{Answer}
use Rattle.disk.specs.Rules.{Writes}
use Rattle.disk.specs.WriteLists.{Write, put, after, nth, Done, Stopped, run_of, WritesRun}
use Rattle.disk.specs.declared.faults.Fault.{Fault}
use Rattle.disk.specs.declared.faults.Fault.TheVariants.{PowerOff, Unreadable, NoSuchSector}

pub after-push : (ws : List Write) (w : Write) (l : List Sector) → after (ws ++ w ∷ []) l ≡ put w (after ws l)
unfolding after
after-push [] w l = refl
after-push (v ∷ ws) w l = after-push ws w (put v l)

pub length-after : (ws : List Write) (l : List Sector) → length (after ws l) ≡ length l
unfolding after
length-after [] l = refl
length-after (w ∷ ws) l = length-after ws (put w l) ∙ length-set l w.to (holds w.bytes)

pub done-none : (ws : List Write) (d : DiskState) → Done (take 0 ws) d d
unfolding after
done-none ws d = record { power = refl; on = λ h. absurd (omega arith); exist = λ k h. absurd (omega arith); sectors = refl }

pub done-more : (ws : List Write) (k : ℕ) (d m e : DiskState) → k < length ws → Done (take k ws) d m
    → Writes (nth ws k).to (nth ws k).bytes m (Ok tt) e
    → Done (take (k + 1) ws) d e
done-more ws k d m e h done wrote =
    let same = done.sectors in
    let long = ap length same ∙ length-after (take k ws) d.sectors in
    let here : (nth ws k).to < count d = omega (arith, wrote.1) in
    record {
      power = wrote.2 ∙ sym wrote.0 ∙ done.power;
      on = λ _. sym done.power ∙ wrote.0;
      exist = λ j l.
          let within : j < k + 1 = omega (arith, length-take (k + 1) ws) in
          rw (ap (λ (w : Write). w.to) (get_or-take (k + 1) ws j (record { to = 0; bytes = [] }) within))
          (⊎_elim
          (λ (lt : j < k).
          let old = done.exist j (simp length-take (omega arith)) in
          rw (ap (λ (w : Write). w.to) (get_or-take k ws j (record { to = 0; bytes = [] }) lt)) at old)
          (λ (ge : k ≤ j). let is : j ≡ k = omega arith in rw is here)
          (cases_lt j k));
      sectors =
          wrote.3 ∙ ap (λ l. set l (nth ws k).to (holds (nth ws k).bytes)) same ∙ sym (after-push (take k ws) (nth ws k) d.sectors)
          ∙ ap (λ vs. after vs d.sectors) (sym (take_more ws k (record { to = 0; bytes = [] }) h));
    }

pub length-run : (first : ℕ) (blocks : List (List ℕ)) → length (run_of first blocks) ≡ length blocks
unfolding run_of
length-run first [] = refl
length-run first (block ∷ blocks) = ap suc (length-run (first + 1) blocks)

pub nth-run : (first : ℕ) (blocks : List (List ℕ)) (k : ℕ) → k < length blocks
    → ((nth (run_of first blocks) k).to ≡ first + k) × ((nth (run_of first blocks) k).bytes ≡ get_or blocks k [])
unfolding run_of
nth-run first [] k h = absurd (omega arith)
nth-run first (block ∷ blocks) zero h = (sym (add-zero first), refl)
nth-run first (block ∷ blocks) (suc k) h = let rest = nth-run (first + 1) blocks k (omega arith) in (omega (arith, rest.0), rest.1)

-- What a write did, under other names for its sector and its bytes.
write-as : (s s' : ℕ) (b b' : List ℕ) (d e : DiskState) (r : Answer) → s ≡ s' → b ≡ b' → Writes s b d r e → Writes s' b' d r e
write-as s s' b b' d e r p q h = subst (λ (t : List ℕ). Writes s' t d r e) q (subst (λ (t : ℕ). Writes t b d r e) p h)

pub run-more : (first : ℕ) (blocks : List (List ℕ)) (i : ℕ) (d m e : DiskState)
    → i < length blocks
    → Done (take i (run_of first blocks)) d m
    → Writes (first + i) (get_or blocks i []) m (Ok tt) e
    → Done (take (i + 1) (run_of first blocks)) d e
run-more first blocks i d m e within done wrote =
    let is = nth-run first blocks i within in
    done-more (run_of first blocks) i d m e (omega (arith, length-run first blocks)) done (write-as _ _ _ _ m e (Ok tt) (sym is.0) (sym is.1) wrote)

-- The i-th write of a run that lies on the disk was refused, the others before it done.
pub run-stopped : (first : ℕ) (blocks : List (List ℕ)) (i : ℕ) (d m e : DiskState) (x : Fault)
    → first + length blocks ≤ count d
    → i < length blocks
    → Done (take i (run_of first blocks)) d m
    → Writes (first + i) (get_or blocks i []) m (Err x) e
    → WritesRun first blocks d (Err x) e
run-stopped first blocks i d m e x fits within done refused =
    let is = nth-run first blocks i within in
    let long = length-run first blocks in
    let stopped : Stopped (run_of first blocks) d x e = record { many = i; mid = m; within = omega arith; done = done; refused = write-as (first + i) _ (get_or blocks i []) _ m e (Err x) (sym is.0) (sym is.1) refused } in
    by-fault x refused stopped
  where
    by-fault : (y : Fault) → Writes (first + i) (get_or blocks i []) m (Err y) e → Stopped (run_of first blocks) d y e → WritesRun first blocks d (Err y) e
    by-fault (PowerOff p) h stopped = (fits, stopped)
    by-fault (Unreadable p) h stopped = h
    by-fault NoSuchSector h stopped = absurd (omega (arith, h.1, ap length done.sectors, length-after (take i (run_of first blocks)) d.sectors))

-- The last write of a run that lies on the disk was done.
pub run-done : (first : ℕ) (blocks : List (List ℕ)) (d e : DiskState) → first + length blocks ≤ count d → Done (take (length blocks) (run_of first blocks)) d e
    → WritesRun first blocks d (Ok tt) e
run-done first blocks d e fits done =
    let all = take_all (length blocks) (run_of first blocks) (omega (arith, length-run first blocks)) in
    (fits, rw all at done)
