-- What a change of a page and a format do to book, memory and disk.
--     change-does      the tie after a change
--     format-does      the tie after a format
use Rattle.std.proofs.Common.{◌≡◌, ℕ, zero, suc, ◌^◌, ◌<◌, ◌≤◌, ◌≢◌, false, List, [], ◌∷◌, length, get_or, set, take, Ok, Err, Result, sym, refl, ap, ◌∙◌, subst, inl, inr, arith}
use Rattle.std.proofs.lemmas.Bool.{cases_eq, true≢false}
use Rattle.std.proofs.lemmas.List.{length-set, length-take, get_or-take, get_or-set_same, get_or-set_other}
use Rattle.disk.specs.Faults.{Answer, refusal_of}
use Rattle.disk.specs.Sectors.{DiskState, count}
use Rattle.disk.specs.WriteLists.{Wrote}
use Rattle.frames.specs.Frames.{written, none_held, now_of}
use Rattle.frames.specs.declared.frame.Frame.{Frame}
use Rattle.geometry.specs.Places.{data_start}
use Rattle.journal.proofs.ForceSteps.{count-done}
use Rattle.journal.proofs.FormatLeaves.{format-leaves}
use Rattle.journal.proofs.LoggableCalm.{loggable-calm}
use Rattle.journal.proofs.Owing.{Shown, upto, DownTie, UpTie, StateTie, Tie}
use Rattle.journal.specs.Books.{Book, changed, fed, opened, ruined}
use Rattle.journal.specs.Calls.{Rest, Loggable, ChangeUp, ChangeDoes}
use Rattle.journal.specs.Formats.{FormatGood, Answered, format_writes, FormatDown, bad-numbers, not-started, good-numbers, FormatDoes}
use Rattle.journal.specs.Recoveries.{images_of}
use Rattle.journal.specs.Ties.{Tied}
use Rattle.journal.specs.declared.inner.Inner.{Inner}
use Rattle.journal.specs.declared.inner.Standing.{Standing}
use Rattle.journal.specs.declared.inner.State.{State}
use Rattle.journal.specs.declared.inner.State.TheVariants.{Down, Up}
use Rattle.pages.specs.Writes.{edit}
use Rattle.refusal.specs.declared.Refusal.{Refusal}
use Rattle.refusal.specs.declared.Refusal.TheVariants.{VolumeDown, BadName, TooLong, VersionAbove, RegisterFull, NoRun, NoSuchFile, BufferShort, PowerOff, Unreadable, LeaderDiffers, NoVolume, RegisterBroken, NumbersUsedUp, BadNumbers, NoSuchSector, VolumeUp}
use Rattle.thirds.proofs.Formatted.{formatted-up}
use Rattle.thirds.proofs.SameVolume.{wider-down}
use Rattle.thirds.proofs.Worn.{spoil-leaves}
use Rattle.thirds.specs.Disks.{system}
use Rattle.thirds.specs.Homes.{holder}
use Rattle.thirds.specs.Volumes as volume
use Rattle.thirds.specs.Volumes.{just}
use Rattle.thirds.specs.Words.{Calm, word_of}
use Rattle.geometry.specs.declared.third.Third.TheVariants.{Zero}

-- one element of a list changed
edit-here : {X : Type 0} (f : X → X) (k : ℕ) (xs : List X) (d : X) → k < length xs → get_or (edit f k xs) k d ≡ f (get_or xs k d)
unfolding edit
edit-here f k [] d l = absurd (omega arith)
edit-here f zero (x ∷ xs) d l = refl
edit-here f (suc k) (x ∷ xs) d l = edit-here f k xs d (omega arith)

edit-away : {X : Type 0} (f : X → X) (k i : ℕ) (xs : List X) (d : X) → i ≢ k → get_or (edit f k xs) i d ≡ get_or xs i d
unfolding edit
edit-away f k i [] d n = refl
edit-away f zero zero (x ∷ xs) d n = absurd (n refl)
edit-away f zero (suc i) (x ∷ xs) d n = refl
edit-away f (suc k) zero (x ∷ xs) d n = refl
edit-away f (suc k) (suc i) (x ∷ xs) d n = edit-away f k i xs d (λ e. n (ap suc e))

length-edit : {X : Type 0} (f : X → X) (k : ℕ) (xs : List X) → length (edit f k xs) ≡ length xs
unfolding edit
length-edit f k [] = refl
length-edit f zero (x ∷ xs) = refl
length-edit f (suc k) (x ∷ xs) = ap suc (length-edit f k xs)

module _ (P T : ℕ) where
  abbrev S : ℕ
  S = data_start P T

  module _ (b : Book) (page : ℕ) (bytes : List ℕ) (i j : Inner) (d : DiskState) (v : Standing) (t : UpTie P T b i d v) (l : page < P) (loggable : Loggable bytes) (frames : j.frames ≡ edit (λ f. written f bytes) page i.frames) where
    abbrev before : List Frame
    before = take P i.frames

    abbrev later : List Frame
    later = take P j.frames

    enough : P ≤ length i.frames
    enough = omega (arith, t.tied.long, length-take P i.frames)

    frame-here : get_or later page none_held ≡ written (get_or before page none_held) bytes
    frame-here = get_or-take P j.frames page none_held l ∙ ap (λ (fs : List Frame). get_or fs page none_held) frames
        ∙ edit-here (λ f. written f bytes) page i.frames none_held (omega (arith, enough, l)) ∙ ap (λ (f : Frame). written f bytes) (sym (get_or-take P i.frames page none_held l))

    frame-away : (k : ℕ) → k < P → k ≢ page → get_or later k none_held ≡ get_or before k none_held
    frame-away k h n = get_or-take P j.frames k none_held h ∙ ap (λ (fs : List Frame). get_or fs k none_held) frames ∙ edit-away (λ f. written f bytes) page k i.frames none_held n ∙ sym (get_or-take P i.frames k none_held h)

    -- what is so of the frame as before and of the written one is so of each
    each : (A : ℕ → Frame → Type 0) → A page (written (get_or before page none_held) bytes) → ((k : ℕ) → k < P → k ≢ page → A k (get_or before k none_held)) → (k : ℕ) → k < P → A k (get_or later k none_held)
    each A here away k h = elim (cases_eq k page) [
      | inl e ↦ subst (λ (n : ℕ). A n (get_or later n none_held)) (sym e) (subst (A page) (sym frame-here) here)
      | inr n ↦ subst (A k) (sym (frame-away k h n)) (away k h n)
    ]

    later-long : length later ≡ P
    later-long = length-take P j.frames ∙ (let z = ap length frames ∙ length-edit (λ f. written f bytes) page i.frames in omega (arith, z, enough))

    tied : Tied P T t.images t.anchored t.number t.records v.place later
    tied = record {
      anchored = t.tied.anchored;
      three = t.tied.three;
      first = t.tied.first;
      firsts = t.tied.firsts;
      third = t.tied.third;
      place = t.tied.place;
      next = t.tied.next;
      long = later-long;
      thirds = each (λ k f. f.third ≡ holder t.records k) (t.tied.thirds page l) (λ k h n. t.tied.thirds k h);
      forced = each (λ k f. f.forced ≡ t.images k) (t.tied.forced page l) (λ k h n. t.tied.forced k h);
      same = each (λ k f. f.changed ≡ false → f.now ≡ f.forced) (λ q. absurd (true≢false q)) (λ k h n. t.tied.same k h);
      calm = each (λ k f. Calm (word_of P f.now)) (loggable-calm P bytes loggable) (λ k h n. t.tied.calm k h);
    }

    current : Shown P T (set b.current page bytes) (now_of later)
    current = (length-set b.current page bytes ∙ t.current.0, each (λ k f. get_or (set b.current page bytes) k [] ≡ f.now) (get_or-set_same b.current page bytes [] (omega (arith, t.current.0, l))) (λ k h n. get_or-set_other b.current page k bytes [] n ∙ t.current.1 k h))

    changed-tie : UpTie P T (fed S b (changed page bytes (Ok tt))) j d v
    changed-tie = record {
      pages = t.pages;
      third = t.third;
      images = t.images;
      anchored = t.anchored;
      number = t.number;
      records = t.records;
      power = t.power;
      up = t.up;
      tied = tied;
      settled = t.settled;
      current = current;
      told = t.told;
      wear = t.wear;
      bound = t.bound;
    }

  change-refused : (v : Standing) (page : ℕ) (bytes : List ℕ) (i j : Inner) (x : Refusal) → ChangeUp v page bytes i (Err x) j → j ≡ i
  change-refused v page bytes i j VolumeDown h = absurd h
  change-refused v page bytes i j BadName h = absurd h
  change-refused v page bytes i j TooLong h = absurd h
  change-refused v page bytes i j VersionAbove h = absurd h
  change-refused v page bytes i j RegisterFull h = absurd h
  change-refused v page bytes i j NoRun h = absurd h
  change-refused v page bytes i j NoSuchFile h = absurd h
  change-refused v page bytes i j BufferShort h = absurd h
  change-refused v page bytes i j (PowerOff p) h = absurd h
  change-refused v page bytes i j (Unreadable p) h = absurd h
  change-refused v page bytes i j (LeaderDiffers p) h = absurd h
  change-refused v page bytes i j NoVolume h = absurd h
  change-refused v page bytes i j (RegisterBroken p) h = h.0
  change-refused v page bytes i j NumbersUsedUp h = h.0
  change-refused v page bytes i j BadNumbers h = absurd h
  change-refused v page bytes i j NoSuchSector h = absurd h
  change-refused v page bytes i j VolumeUp h = absurd h

  change-ruined : (b : Book) (page : ℕ) (bytes : List ℕ) (r : Result (Unit {0}) Refusal) → b.wear ≡ ruined → (fed S b (changed page bytes r)).wear ≡ ruined
  change-ruined b page bytes (Ok _) w = w
  change-ruined b page bytes (Err x) w = w

  module _ (b : Book) (page : ℕ) (bytes : List ℕ) (i j : Inner) (d e : DiskState) where
    abbrev After : Result (Unit {0}) Refusal → DiskState → Type 0
    After r y = Tie P T (fed S b (changed page bytes r)) j y

    abbrev By : State → Result (Unit {0}) Refusal → Type 0
    By Down r = (r ≡ Err VolumeDown) × (j ≡ i)
    By (Up v) r = ChangeUp v page bytes i r j

    unchanged : j ≡ i → StateTie P T b i d i.state → Tie P T b j d
    unchanged q t = inr (subst (λ (x : Inner). StateTie P T b x d x.state) (sym q) t)

    by-state : (q : State) (r : Result (Unit {0}) Refusal) → i.state ≡ q → By q r → StateTie P T b i d i.state → StateTie P T b i d q → After r d
    by-state Down r is (q, same) whole t = subst (λ (x : Result (Unit {0}) Refusal). After x d) (sym q) (unchanged same whole)
    by-state (Up v) (Err x) is h whole t = unchanged (change-refused v page bytes i j x h) whole
    by-state (Up v) (Ok _) is (l, loggable, few, state, frames) whole t =
        inr (subst (StateTie P T (fed S b (changed page bytes (Ok tt))) j d) (sym (state ∙ is)) (changed-tie b page bytes i j d v t (subst (λ (p : ℕ). page < p) t.pages l) loggable frames))

    pub change-does : (r : Result (Unit {0}) Refusal) → ChangeDoes page bytes i d r j e → Tie P T b i d → After r e
    change-does r (still, h) (inl w) = inl (change-ruined b page bytes r w)
    change-does r (still, h) (inr t) = subst (After r) (sym still) (by-state i.state r refl (as-by i.state h) t t)
      where
        as-by : (q : State) → elim q as (λ (_ : State). Type 0) [ Down ↦ (r ≡ Err VolumeDown) × (j ≡ i) | Up v ↦ ChangeUp v page bytes i r j ] → By q r
        as-by Down h = h
        as-by (Up v) h = h

-- A format.
module _ (T : ℕ) (images : List (List ℕ)) (i j : Inner) (d e : DiskState) where
  abbrev P : ℕ
  P = length images

  formatted : FormatGood T images (count d) → count d < 2 ^ 32 → (m : DiskState) → m.sectors ≡ d.sectors → Wrote (format_writes P T (count d) images) m (Ok tt) e → DownTie P T (opened images) e
  formatted good small m still h =
      let counts : count m ≡ count d = ap length still in
      let h' : Wrote (format_writes P T (count m) images) m (Ok tt) e = subst (λ (n : ℕ). Wrote (format_writes P T n images) m (Ok tt) e) (sym counts) h in
      let z = format-leaves T images m e (subst (FormatGood T images) (sym counts) good) (omega (arith, counts, small)) h' in
      let up = formatted-up P T (count m) (images_of images) (system P T e.sectors) z in
      let down = spoil-leaves P T (count m) 0 (images_of images) Zero 1 [] (system P T e.sectors) (system P T e.sectors) up (λ u. inl refl) in
      record {
        told = refl;
        images = images_of images;
        owed = inl (refl, λ k l. refl);
        lasts = subst (λ (n : ℕ). volume.Down P T n (images_of images) (upto P T 1) (system P T e.sectors)) (sym (count-done (format_writes P T (count m) images) m e h'))
            (wider-down P T (count m) (images_of images) (just 1) (upto P T 1) (system P T e.sectors) (omega arith, omega arith) down);
      }

  pub format-does : FormatDoes T images i d (Ok tt) j e → Tie P T (opened images) j e
  format-does h = go i.state refl (as-by i.state h)
    where
      By : State → Type 0
      By Down = (j ≡ i) × FormatDown T images d (Ok tt) e
      By (Up v) = (◌≡◌ {A = Result (Unit {0}) Refusal} (Ok tt) (Err VolumeUp)) × Rest i d j e

      as-by : (q : State) → elim q as (λ (_ : State). Type 0) [ Down ↦ (j ≡ i) × FormatDown T images d (Ok tt) e | Up v ↦ (◌≡◌ {A = Result (Unit {0}) Refusal} (Ok tt) (Err VolumeUp)) × Rest i d j e ] → By q
      as-by Down h = h
      as-by (Up v) h = h

      not-ok : (x : Refusal) → ◌≡◌ {A = Result (Unit {0}) Refusal} (Ok tt) (Err x) → ⊥
      not-ok x q = let z : ◌≡◌ {A = ℕ} 0 1 = cc in omega arith

      done : FormatDown T images d (Ok tt) e → DownTie P T (opened images) e
      done (bad-numbers f q s) = absurd (not-ok BadNumbers q)
      done (not-started g x s q) = absurd (not-ok (refusal_of x) q)
      done (good-numbers g small m s answer w q) = by-answer answer w q
        where
          by-answer : (a : Answer) → Wrote (format_writes P T (count d) images) m a e → Answered a (Ok tt) → DownTie P T (opened images) e
          by-answer (Ok _) w q = formatted g small m s.1 w
          by-answer (Err x) w q = absurd (not-ok (refusal_of x) q)

      go : (q : State) → i.state ≡ q → By q → Tie P T (opened images) j e
      go (Up v) is h = absurd (not-ok VolumeUp h.0)
      go Down is (same, h) = inr (subst (StateTie P T (opened images) j e) (sym (ap (λ (x : Inner). x.state) same ∙ is)) (done h))
