-- Lists of writes, one after the other.
--     after-append       the sectors after two lists
--     done-nothing       no write is done
--     done-one           one write is done
--     stopped-one        one write was refused
--     wrote-one          one write, done or refused
--     write-as           a write, under other names for its sector and its bytes
--     done-append        two lists are done
--     stopped-early      the first list was stopped
--     stopped-late       the second one was, the first being done
--     wrote-append       the first list is done, and the second one is written
--     stopped-first      the same of one write before others: it was refused
--     wrote-rest         it was done, and the others are written
use Rattle.std.proofs.Common.{◌≡◌, ℕ, ◌+◌, ◌-◌, ◌<◌, ◌≤◌, List, [], ◌∷◌, ◌++◌, length, take, Ok, Err, sym, refl, ap, ◌∙◌, subst, ⊎_elim, arith}
use Rattle.std.proofs.Math.Seq.{take-append-add}
use Rattle.std.proofs.lemmas.List.{take-append-le, length-append, get_or_append_left, get_or-append-add}
use Rattle.std.proofs.lemmas.Bool.{cases_lt}
use Rattle.disk.specs.Sectors.{Sector, DiskState, count}
use Rattle.disk.specs.Faults.{Answer}
use Rattle.disk.specs.Rules.{Writes}
use Rattle.disk.specs.WriteLists.{Write, put, after, nth, Done, Stopped, Wrote}
use Rattle.disk.specs.declared.faults.Fault.{Fault}
use Rattle.disk.proofs.DoneWrites.{length-after}
use Rattle.thirds.specs.Cuts.{write}

pub after-append : (ws vs : List Write) (l : List Sector) → after (ws ++ vs) l ≡ after vs (after ws l)
unfolding after
after-append [] vs l = refl
after-append (w ∷ ws) vs l = after-append ws vs (put w l)

pub done-nothing : (d : DiskState) → Done [] d d
unfolding after
done-nothing d = record { power = refl; on = λ h. absurd (omega arith); exist = λ k h. absurd (omega arith); sectors = refl }

pub done-one : (s : ℕ) (bytes : List ℕ) (d e : DiskState) → Writes s bytes d (Ok tt) e → Done (write s bytes ∷ []) d e
unfolding after
done-one s bytes d e h = record { power = h.2 ∙ sym h.0; on = λ _. h.0; exist = λ k l. let is : k ≡ 0 = omega arith in rw is h.1; sectors = h.3 }

pub stopped-one : (s : ℕ) (bytes : List ℕ) (d e : DiskState) (x : Fault) → Writes s bytes d (Err x) e → Stopped (write s bytes ∷ []) d x e
stopped-one s bytes d e x h = record { many = 0; mid = d; within = omega arith; done = done-nothing d; refused = h }

pub wrote-one : (s : ℕ) (bytes : List ℕ) (d e : DiskState) (r : Answer) → Writes s bytes d r e → Wrote (write s bytes ∷ []) d r e
wrote-one s bytes d e (Ok _) h = done-one s bytes d e h
wrote-one s bytes d e (Err x) h = stopped-one s bytes d e x h

-- What a write did, under other names for its sector and its bytes.
pub write-as : (s s' : ℕ) (b b' : List ℕ) (d e : DiskState) (r : Answer) → s ≡ s' → b ≡ b' → Writes s b d r e → Writes s' b' d r e
write-as s s' b b' d e r p q h = subst (λ (t : List ℕ). Writes s' t d r e) q (subst (λ (t : ℕ). Writes t b d r e) p h)

-- The same, under another name for the write.
write-at : (w v : Write) (d e : DiskState) (r : Answer) → w ≡ v → Writes w.to w.bytes d r e → Writes v.to v.bytes d r e
write-at w v d e r p h = subst (λ (u : Write). Writes u.to u.bytes d r e) p h

-- The write at a place of the second list.
nth-late : (ws vs : List Write) (k : ℕ) → nth (ws ++ vs) (length ws + k) ≡ nth vs k
nth-late ws vs k = get_or-append-add ws vs k (record { to = 0; bytes = [] })

pub done-append : (ws vs : List Write) (d m e : DiskState) → Done ws d m → Done vs m e → Done (ws ++ vs) d e
done-append ws vs d m e one two =
    let same : count m ≡ count d = ap length one.sectors ∙ length-after ws d.sectors in
    record {
      power = two.power ∙ one.power;
      on = λ h. ⊎_elim one.on (λ (none : length ws ≤ 0). sym one.power ∙ two.on (omega (arith, length-append ws vs))) (cases_lt 0 (length ws));
      exist = λ k h.
          ⊎_elim
          (λ (lt : k < length ws). rw (get_or_append_left ws vs (record { to = 0; bytes = [] }) k lt) (one.exist k lt))
          (λ (ge : length ws ≤ k).
          let late : length ws + (k - length ws) ≡ k = omega arith in
          let here : (nth vs (k - length ws)).to < count m = two.exist (k - length ws) (omega (arith, length-append ws vs)) in
          let is : nth (ws ++ vs) k ≡ nth vs (k - length ws) = rw late at (nth-late ws vs (k - length ws)) in
          rw (is, ← same) here)
          (cases_lt k (length ws));
      sectors = two.sectors ∙ ap (after vs) one.sectors ∙ sym (after-append ws vs d.sectors);
    }

pub stopped-early : (ws vs : List Write) (d : DiskState) (x : Fault) (e : DiskState) → Stopped ws d x e → Stopped (ws ++ vs) d x e
stopped-early ws vs d x e h =
    let k = h.many in
    let front : take k (ws ++ vs) ≡ take k ws = take-append-le k ws vs (omega (arith, h.within)) in
    let is : nth (ws ++ vs) k ≡ nth ws k = get_or_append_left ws vs (record { to = 0; bytes = [] }) k h.within in
    record { many = k; mid = h.mid; within = omega (arith, h.within, length-append ws vs); done = rw front h.done; refused = write-at _ _ h.mid e (Err x) (sym is) h.refused }

pub stopped-late : (ws vs : List Write) (d m : DiskState) (x : Fault) (e : DiskState) → Done ws d m → Stopped vs m x e → Stopped (ws ++ vs) d x e
stopped-late ws vs d m x e one h =
    let k = h.many in
    record {
      many = length ws + k;
      mid = h.mid;
      within = omega (arith, h.within, length-append ws vs);
      done = rw (take-append-add ws vs k) (done-append ws (take k vs) d m h.mid one h.done);
      refused = write-at _ _ h.mid e (Err x) (sym (nth-late ws vs k)) h.refused;
    }

pub wrote-append : (ws vs : List Write) (d m e : DiskState) (r : Answer) → Done ws d m → Wrote vs m r e → Wrote (ws ++ vs) d r e
wrote-append ws vs d m e (Ok _) one two = done-append ws vs d m e one two
wrote-append ws vs d m e (Err x) one two = stopped-late ws vs d m x e one two

-- The same of one write before others.
pub stopped-first : (s : ℕ) (bytes : List ℕ) (vs : List Write) (d : DiskState) (x : Fault) (e : DiskState) → Writes s bytes d (Err x) e → Stopped (write s bytes ∷ vs) d x e
stopped-first s bytes vs d x e h = stopped-early (write s bytes ∷ []) vs d x e (stopped-one s bytes d e x h)

pub wrote-rest : (s : ℕ) (bytes : List ℕ) (vs : List Write) (d m e : DiskState) (r : Answer) → Writes s bytes d (Ok tt) m → Wrote vs m r e → Wrote (write s bytes ∷ vs) d r e
wrote-rest s bytes vs d m e r h rest = wrote-append (write s bytes ∷ []) vs d m e r (done-one s bytes d m h) rest
