-- The log as far as it was read, and what follows from the next look.
--     Begun           records that were read: whatever the log has from here on, it has behind them
--     begin           none was read
--     go-on           one more was read
--     seat            where a record that was found lies
--     ends-here       no record is there: the log is what was read
--     ends-high       nor is one whose number has more than four bytes
--     more            the same as go-on, of disks that are equal
--     lost            the power failed while the images of a record were read
--     nothing-more    no record was found
use Rattle.std.proofs.Common.{◌≡◌, ℕ, ◌+◌, ◌*◌, ◌^◌, ◌<◌, ◌≤◌, List, [], ◌∷◌, ◌++◌, length, get_or, Some, None, Ok, Err, Option, sym, refl, ap, ap₂, ◌∙◌, subst, inl, inr, arith, append_assoc, ◌≢◌}
use Rattle.std.proofs.lemmas.List.{append-nil}
use Rattle.disk.specs.Sectors.{Sound, DiskState}
use Rattle.disk.specs.declared.faults.Fault.{Fault}
use Rattle.frames.specs.Frames.{none_held}
use Rattle.frames.specs.declared.frame.Frame.{Frame}
use Rattle.geometry.specs.Thirds.{next_of}
use Rattle.geometry.specs.declared.third.Third.{Third}
use Rattle.searching.specs.Looks.{listed}
use Rattle.searching.specs.LogReads.{kept, TakesIn, TakenIn, SeatSeen, LogRead}
use Rattle.searching.specs.declared.record.FoundRecord.{FoundRecord}
use Rattle.searching.proofs.Listed.{listed-good}
use Rattle.searching.proofs.Seen.{head-number}
use Rattle.searching.proofs.Taken.{many-of}
use Rattle.thirds.proofs.Thirds.{inside}
use Rattle.thirds.specs.Words.{Disk, on}
use Rattle.thirds.specs.Records.{start, Rec, many, numbers, Stands, ImagesAt, Absent}
use Rattle.thirds.specs.Reading.{paired}
use Rattle.thirds.specs.Search.{Found, found-here, found-next, Log}
use Rattle.working.specs.Values.{ReadLost}
use Rattle.thirds.specs.Homes.{or_else, image_in, newest, holder, held_by}

-- what one more record does to the newest images and their thirds
or-else-none : (o : Option (List ℕ)) → or_else o None ≡ o
or-else-none None = refl
or-else-none (Some x) = refl

or-else-more : (a b c : Option (List ℕ)) → or_else (or_else a b) c ≡ or_else a (or_else b c)
or-else-more None b c = refl
or-else-more (Some x) b c = refl

newest-last : (rs : List Rec) (q : Rec) (i : ℕ) → newest (rs ++ q ∷ []) i ≡ or_else (image_in q.pages i) (newest rs i)
newest-last [] q i = sym (or-else-none (image_in q.pages i))
newest-last (r ∷ rs) q i = ap (λ o. or_else o (image_in r.pages i)) (newest-last rs q i) ∙ or-else-more (image_in q.pages i) (newest rs i) (image_in r.pages i)

holder-new : (rs : List Rec) (q : Rec) (i : ℕ) (x : List ℕ) → image_in q.pages i ≡ Some x → holder (rs ++ q ∷ []) i ≡ Some q.third
holder-new [] q i x e = ap (λ o. held_by None o q.third) e
holder-new (r ∷ rs) q i x e = ap (λ o. held_by o (image_in r.pages i) r.third) (holder-new rs q i x e)

holder-old : (rs : List Rec) (q : Rec) (i : ℕ) → image_in q.pages i ≡ None → holder (rs ++ q ∷ []) i ≡ holder rs i
holder-old [] q i e = ap (λ o. held_by None o q.third) e
holder-old (r ∷ rs) q i e = ap (λ o. held_by o (image_in r.pages i) r.third) (holder-old rs q i e)

kept-last : (rs : List Rec) (q : Rec) (i : ℕ) (f : Frame) (o : Option (List ℕ)) → image_in q.pages i ≡ o
    → kept o (Some q.third) (kept (newest rs i) (holder rs i) f) ≡ kept (newest (rs ++ q ∷ []) i) (holder (rs ++ q ∷ []) i) f
kept-last rs q i f (Some x) e = sym (ap₂ (λ a b. kept a b f) (newest-last rs q i ∙ ap (λ o. or_else o (newest rs i)) e) (holder-new rs q i x e))
kept-last rs q i f None e = sym (ap₂ (λ a b. kept a b f) (newest-last rs q i ∙ ap (λ o. or_else o (newest rs i)) e) (holder-old rs q i e))

takes-more : (rs : List Rec) (q : Rec) (frames now later : List Frame) → TakesIn rs frames now → length later ≡ length now
    → ((i : ℕ) → i < length now → get_or later i none_held ≡ kept (image_in q.pages i) (Some q.third) (get_or now i none_held)) → TakesIn (rs ++ q ∷ []) frames later
takes-more rs q frames now later t long each = record {
  long = long ∙ t.long;
  each = λ i l.
      each i (omega (arith, t.long))
      ∙ ap (kept (image_in q.pages i) (Some q.third)) (t.each i l)
      ∙ kept-last rs q i (get_or frames i none_held) (image_in q.pages i) refl;
}

found-stands : {P T : ℕ} {σ : Disk} {f k : Third} {p m : ℕ} {r : Rec} → Found P T σ f k p m r → Stands P T σ r
found-stands (found-here a b c s) = s
found-stands (found-next n o a b c s) = s

found-from : {P T : ℕ} {σ : Disk} {f k : Third} {p m : ℕ} {r : Rec} → Found P T σ f k p m r → start T k ≤ p → start T r.third ≤ r.place
found-from {P} {T} (found-here a b c s) l = omega (arith, ap (start T) a)
found-from {P} {T} (found-next n o a b c s) l = omega (arith, ap (start T) a)

pub record Begun (P T : ℕ) (f : Third) (m : ℕ) (σ : Disk) (frames : List Frame) (k : Third) (p g : ℕ) (now : List Frame) : Type 0 where
  pub seen : List Rec
  pub goes : (rest : List Rec) (s : ℕ) → Log P T σ f k p g rest s → Log P T σ f f (start T f) m (seen ++ rest) s
  pub takes : TakesIn seen frames now
  pub from : start T k ≤ p
  pub below : p < start T k + T

pub begin : (P T : ℕ) (f : Third) (m : ℕ) (σ : Disk) (frames : List Frame) (p : ℕ) → 0 < T → p ≡ start T f → Begun P T f m σ frames f p m frames
begin P T f m σ frames p l e = record {
  seen = [];
  goes = λ rest s log. subst (λ (u : ℕ). Log P T σ f f u m rest s) e log;
  takes = record { long = refl; each = λ i l. refl };
  from = omega arith;
  below = omega arith;
}

module _ (P T : ℕ) (f k : Third) (p g : ℕ) (d e : DiskState) (r : FoundRecord) (v : SeatSeen P T f k p g d (Ok (Some r)) e) where
  -- where the record lies
  pub seat : start T k ≤ p → (start T r.third ≤ r.place) × (r.place + 5 + 2 * r.head.count < start T r.third + T)
  seat l =
      let (xs, long, there) = v.2 in
      let n = (listed-good P r.head v.1.1).0 in
      let fits = (found-stands there).fits in
      (found-from there l, omega (arith, fits.1, many-of (listed r.head) xs (long ∙ sym n)))

  pub go-on : (m : ℕ) (frames now later : List Frame) (l : DiskState) → Begun P T f m (on d.sectors) frames k p g now → TakenIn r d now (Ok tt) l later
      → Begun P T f m (on d.sectors) frames r.third (r.place + 5 + 2 * r.head.count) (g + 1) later
  go-on m frames now later l b t =
      let (xs, long, there) = v.2 in
      let n = (listed-good P r.head v.1.1).0 in
      let q : Rec = record { third = r.third; place = r.place; number = g; pages = paired (listed r.head) xs } in
      let count : many q ≡ r.head.count = many-of (listed r.head) xs (long ∙ sym n) ∙ n in
      let st = found-stands there in
      let place = seat b.from in
      record {
        seen = b.seen ++ q ∷ [];
        goes = λ rest s log.
            subst (λ (rs : List Rec). Log P T (on d.sectors) f f (start T f) m rs s) (sym (append_assoc b.seen (q ∷ []) rest))
            (b.goes (q ∷ rest) s (there, subst (λ (c : ℕ). Log P T (on d.sectors) f r.third (r.place + 5 + 2 * c) (g + 1) rest s) (sym count) log));
        takes = takes-more b.seen q frames now later b.takes t.1
            (t.2 xs long (subst (λ (c : ℕ). ImagesAt (on d.sectors) (r.place + 3) (r.place + 4 + c) q.pages) count st.images));
        from = omega (arith, place.0);
        below = place.1;
      }

module _ (P T : ℕ) (f k : Third) (p m g : ℕ) (d : DiskState) (frames now : List Frame) (b : Begun P T f m (on d.sectors) frames k p g now) where
  -- The log is what was read.
  pub ends-here : (s : ℕ) → s ≡ g → Absent P T (on d.sectors) k p g → ((next_of k ≢ f) → Absent P T (on d.sectors) (next_of k) (start T (next_of k)) g)
      → (rs : List Rec) × Log P T (on d.sectors) f f (start T f) m rs s × TakesIn rs frames now
  ends-here s e a n =
      let log = b.goes [] s (e, a, n) in
      (b.seen, subst (λ (rs : List Rec). Log P T (on d.sectors) f f (start T f) m rs s) (append-nil b.seen) log, b.takes)

  high-absent : Sound d → 2 ^ 32 ≤ g → (j : Third) (u : ℕ) → Absent P T (on d.sectors) j u g
  high-absent sound l j u r x y z st = elim st.heads [
    | inl h ↦ omega (arith, head-number P r.place r.number (numbers r.pages) d sound h)
    | inr h ↦ omega (arith, head-number P (r.place + 2) r.number (numbers r.pages) d sound h.1)
  ]

  -- No number is left.
  pub ends-high : Sound d → g ≡ 2 ^ 32 → (rs : List Rec) × Log P T (on d.sectors) f f (start T f) m rs (2 ^ 32) × TakesIn rs frames now
  ends-high sound e = ends-here (2 ^ 32) (sym e) (high-absent sound (omega arith) k p) (λ n. high-absent sound (omega arith) (next_of k) (start T (next_of k)))

-- The disk is as before throughout.
module _ (P T : ℕ) (f k : Third) (p m g : ℕ) (d a b e : DiskState) (frames now later : List Frame) (r : FoundRecord) (same : a ≡ d) (begun : Begun P T f m (on d.sectors) frames k p g now)
    (v : SeatSeen P T f k p g a (Ok (Some r)) b) where
  seen-there : SeatSeen P T f k p g d (Ok (Some r)) b
  seen-there = subst (λ (z : DiskState). SeatSeen P T f k p g z (Ok (Some r)) b) same v

  pub more : (n : ℕ) → n ≡ r.head.count → TakenIn r b now (Ok tt) e later → (e ≡ d) × Begun P T f m (on d.sectors) frames r.third (r.place + 5 + 2 * n) (g + 1) later
  more n count t =
      let u = subst (λ (z : DiskState). TakenIn r z now (Ok tt) e later) seen-there.0 t in
      (u.0, subst (λ (c : ℕ). Begun P T f m (on d.sectors) frames r.third (r.place + 5 + 2 * c) (g + 1) later) (sym count) (go-on P T f k p g d b r seen-there m frames now later e begun u))

  pub lost : (x : Fault) → TakenIn r b now (Err x) e later → LogRead P T f m d frames (Err x) e later
  lost x ((s, low, high, w), long) =
      let at = seat P T f k p g d b r seen-there begun.from in
      let (first, last) = inside T r.third in
      ((s, omega (arith, at.0), omega (arith, at.1), subst (λ (z : DiskState). ReadLost s z x e) seen-there.0 w), long ∙ begun.takes.long)

pub nothing-more : (P T : ℕ) (f k : Third) (p m g : ℕ) (d a b : DiskState) (frames now : List Frame) (o : Option FoundRecord) (s : ℕ) → a ≡ d → Begun P T f m (on d.sectors) frames k p g now → s ≡ g
    → SeatSeen P T f k p g a (Ok o) b → o ≡ None → LogRead P T f m d frames (Ok s) b now
nothing-more P T f k p m g d a b frames now (Some r) s same begun n v none = let z : ◌≡◌ {A = ℕ} 0 1 = cc in absurd (omega arith)
nothing-more P T f k p m g d a b frames now None s same begun n v none =
    let u = subst (λ (z : DiskState). SeatSeen P T f k p g z (Ok None) b) same v in
    (u.0, ends-here P T f k p m g d frames now begun s n u.1 u.2)
