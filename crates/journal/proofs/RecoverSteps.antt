-- What a recovery does to book, memory and disk.
--     recover-does     the book allows it, and the tie holds after it
use Rattle.std.proofs.Common.{◌⊎◌, ◌≡◌, ℕ, ◌+◌, ◌^◌, ◌<◌, ◌≤◌, true, false, List, [], ◌∷◌, ◌++◌, length, map, get_or, take, Some, Ok, Err, Result, sym, refl, ap, ◌∙◌, subst, inl, inr, arith}
use Rattle.std.proofs.lemmas.List.{length-take, length-map, get_or-take, get_or-map, get_or_default, same_lists}
use Rattle.disk.specs.Faults.{Answer, refusal_of}
use Rattle.disk.specs.Sectors.{DiskState, Sector, count}
use Rattle.disk.specs.WriteLists.{Done, Stopped, Wrote}
use Rattle.disk.specs.declared.faults.Fault.{Fault}
use Rattle.disk.specs.declared.faults.Fault.TheVariants.{PowerOff}
use Rattle.forcing.specs.declared.place.LogPlace.{LogPlace}
use Rattle.frames.specs.Frames.{now_of, forced_of, none_held, unheld}
use Rattle.frames.specs.declared.frame.Frame.{Frame}
use Rattle.geometry.specs.Places.{data_start}
use Rattle.geometry.specs.declared.geometry.Geometry.{Geometry}
use Rattle.geometry.specs.declared.third.Third.TheVariants.{Zero}
use Rattle.journal.proofs.ForceSteps.{count-done, count-stopped}
use Rattle.journal.proofs.Owing.{Shown, upto, DownTie, UpTie, StateTie, Tie, lasting, at-work-lasts, ruin-cases, again, rests}
use Rattle.journal.proofs.NoRefusal.{recovery-finds}
use Rattle.journal.proofs.SeesPlan.{recovery-sees}
use Rattle.journal.specs.Books.{Book, Event, Wear, recovered, fed, Allowed, working, whole, one-lost, two-lost, ruined, at_work}
use Rattle.journal.specs.Calls.{Rest, Fresh, RecoverLeft, RecoverDown, not-read, used-up, was-read, RecoverDoes}
use Rattle.journal.specs.Recoveries.{SeesPlan}
use Rattle.journal.specs.Runs.{now_images, given}
use Rattle.journal.specs.Ties.{Tied}
use Rattle.journal.specs.declared.inner.Inner.{Inner}
use Rattle.journal.specs.declared.inner.Standing.{Standing}
use Rattle.journal.specs.declared.inner.State.{State}
use Rattle.journal.specs.declared.inner.State.TheVariants.{Down, Up}
use Rattle.recovering.specs.Volumes.{Seen, seen_writes}
use Rattle.recovering.specs.declared.volume.SeenVolume.{SeenVolume}
use Rattle.refusal.specs.declared.Refusal.{Refusal}
use Rattle.refusal.specs.declared.Refusal.TheVariants.{VolumeUp, NumbersUsedUp}
use Rattle.refusal.specs.declared.Refusal.TheVariants as refusal
use Rattle.thirds.proofs.Disks.{done-goes, stopped-tears}
use Rattle.thirds.proofs.Lies.{plan-lies}
use Rattle.thirds.proofs.Recovery.{plan-safe}
use Rattle.thirds.proofs.SameVolume.{wider-down}
use Rattle.thirds.specs.Cuts.{Through, Torn}
use Rattle.thirds.specs.Disks.{system}
use Rattle.thirds.specs.Records.{Rec}
use Rattle.thirds.specs.Volumes as volume
use Rattle.thirds.specs.Volumes.{one_more}
use Rattle.thirds.specs.Words.{Calm, word_of, on}

module _ (P T : ℕ) where
  -- what a call leaves of the book: it is allowed, and the tie holds
  abbrev pub Goes : Book → Event → Inner → DiskState → Type 0
  Goes b e j d = Allowed b e × Tie P T (fed (data_start P T) b e) j d

  abbrev event : DiskState → Inner → Result (Unit {0}) Refusal → Event
  event e j r = recovered e.power (given P j r)

  -- nothing is owed any more
  lost-all : (b : Book) (j : Inner) (e : DiskState) (r : Result (Unit {0}) Refusal) → b.wear ≡ ruined → Goes b (event e j r) j e
  lost-all b j e (Ok _) w = (inl w, inl (ap at_work w))
  lost-all b j e (Err x) w = (inl w, inl (ap at_work w))

  module _ (b : Book) (j : Inner) (d e : DiskState) (sound : b.wear ≡ ruined → ⊥) (t : DownTie P T b d) where
    abbrev c : ℕ
    c = b.calls + 1

    here : volume.Down P T (count d) t.images (upto P T c) (system P T d.sectors)
    here = lasting P T b.wear (count d) c t.images (system P T d.sectors) sound t.lasts

    -- a refusal that left the disk as it can be recovered
    down-after : (x : Refusal) → j.state ≡ Down → volume.Down P T (count e) t.images (upto P T (c + 1)) (system P T e.sectors) → Tie P T (fed (data_start P T) b (recovered e.power (Err x))) j e
    down-after x down k = inr (subst (StateTie P T (fed (data_start P T) b (recovered e.power (Err x))) j e) (sym down) (record {
      told = t.told;
      images = t.images;
      owed = t.owed;
      lasts = at-work-lasts P T b.wear (count e) (c + 1) t.images (system P T e.sectors) sound k;
    }))

    still-down : e.sectors ≡ d.sectors → volume.Down P T (count e) t.images (upto P T (c + 1)) (system P T e.sectors)
    still-down q = subst (λ (l : List Sector). volume.Down P T (length l) t.images (upto P T (c + 1)) (system P T l)) (sym q)
        (wider-down P T (count d) t.images (upto P T c) (upto P T (c + 1)) (system P T d.sectors) (omega arith, omega arith) here)

    as-answer : (r : Result (Unit {0}) Refusal) (x : Refusal) → r ≡ Err x → Goes b (recovered e.power (Err x)) j e → Goes b (event e j r) j e
    as-answer r x q g = subst (λ (y : Result (Unit {0}) Refusal). Goes b (event e j y) j e) (sym q) g

    -- the frames of a volume that was read
    module _ (v : SeenVolume) (frames : List Frame) (s : Seen (on d.sectors) (count d) v frames) where
      sees : SeesPlan P T t.images (upto P T c) d v frames s
      sees = recovery-sees P T t.images (upto P T c) d here v frames s

      few : P ≤ 21
      few = here.good.0.1

      -- a page's frame after the recovery
      framed : length frames ≡ 21 → (k : ℕ) → k < P → get_or (take P (map unheld frames)) k none_held ≡ unheld (get_or frames k none_held)
      framed long k l = get_or-take P (map unheld frames) k none_held l ∙ get_or-map unheld frames k none_held none_held (omega (arith, long, few, l))

      same-now : (k : ℕ) → k < P → now_of frames k ≡ forced_of frames k
      same-now k l = (s.same k (subst (λ (p : ℕ). k < p) (sym sees.pages) l)).0

      taken-long : length frames ≡ 21 → length (take P (map unheld frames)) ≡ P
      taken-long long = omega (arith, length-take P (map unheld frames), length-map frames unheld, long, few)

      tied-fresh : length frames ≡ 21 → (p : LogPlace) → Fresh (v.missing + 1) p → length p.firsts ≡ 3 → Tied P T (forced_of frames) Zero (v.missing + 1) [] p (take P (map unheld frames))
      tied-fresh long p fresh three = record {
        anchored = fresh.anchored;
        three = three;
        first = fresh.first;
        firsts = λ front back r q a. absurd (none-first front back r q);
        third = fresh.third;
        place = fresh.place;
        next = fresh.next ∙ plus-zero (v.missing + 1);
        long = taken-long long;
        thirds = λ k l. ap (λ (f : Frame). f.third) (framed long k l);
        forced = λ k l. ap (λ (f : Frame). f.forced) (framed long k l);
        same = λ k l q. ap (λ (f : Frame). f.now) (framed long k l) ∙ same-now k l ∙ sym (ap (λ (f : Frame). f.forced) (framed long k l));
        calm = λ k l. subst (λ (x : List ℕ). Calm (word_of P x)) (sym (ap (λ (f : Frame). f.now) (framed long k l) ∙ same-now k l ∙ sees.images k l)) (here.calm k l);
      }
        where
          plus-zero : (n : ℕ) → n ≡ n + 0
          plus-zero n = omega arith

          none-first : (front back : List Rec) (r : Rec) → [] ≡ front ++ r ∷ back → ⊥
          none-first [] back r q = omega (arith, ap length q)
          none-first (x ∷ front) back r q = omega (arith, ap length q)

      -- the images that the recovery gives
      module _ (long : length frames ≡ 21) (same : j.frames ≡ map unheld frames) where
        taken : take P j.frames ≡ take P (map unheld frames)
        taken = ap (take P) same

        given-long : length (now_images P j) ≡ P
        given-long = length-map (take P j.frames) (λ f. f.now) ∙ ap length taken ∙ taken-long long

        given-now : (k : ℕ) → k < P → get_or (now_images P j) k [] ≡ now_of (take P j.frames) k
        given-now k l = get_or-map (λ f. f.now) (take P j.frames) k none_held [] (omega (arith, given-long, length-map (take P j.frames) (λ f. f.now), l))

        given-forced : (k : ℕ) → k < P → get_or (now_images P j) k [] ≡ forced_of frames k
        given-forced k l = given-now k l ∙ ap (λ (fs : List Frame). now_of fs k) taken ∙ ap (λ (f : Frame). f.now) (framed long k l) ∙ same-now k l

        is-list : (xs : List (List ℕ)) → Shown P T xs t.images → now_images P j ≡ xs
        is-list xs (len, each) = same_lists (now_images P j) xs (given-long ∙ sym len) (λ k x l. at k x l)
          where
            at : (k : ℕ) (x : List ℕ) → k < length (now_images P j) → get_or (now_images P j) k x ≡ get_or xs k x
            at k x l = get_or_default (now_images P j) k x [] l ∙ given-forced k (omega (arith, given-long, l)) ∙ sees.images k (omega (arith, given-long, l)) ∙ sym (each k (omega (arith, given-long, l))) ∙ get_or_default xs k [] x (omega (arith, given-long, len, l))

        allowed : (now_images P j ≡ b.settled) ⊎ (b.pending ≡ Some (now_images P j))
        allowed = elim t.owed [ inl o ↦ inl (is-list b.settled o) | inr (xs, q, o) ↦ inr (q ∙ ap Some (sym (is-list xs o))) ]

      -- all is written
      up-after : (m : DiskState) (w : Standing) → m.power ≡ true → m.sectors ≡ d.sectors → length frames ≡ 21 → v.missing + 1 < 2 ^ 32 → Done (seen_writes (on d.sectors) v s.log (forced_of frames)) m e
          → w.geometry ≡ v.geometry → Fresh (v.missing + 1) w.place → length w.place.firsts ≡ 3 → j.frames ≡ map unheld frames
          → UpTie P T (fed (data_start P T) b (recovered e.power (Ok (now_images P j)))) j e w
      up-after m w on-now still long lasts h same fresh three frames-same =
          let ws = seen_writes (on d.sectors) v s.log (forced_of frames) in
          let plan = sees.plan lasts in
          let lies = plan-lies P T (count d) (system P T d.sectors) (forced_of frames) v.missing ws plan in
          let through = subst (λ (l : List Sector). Through ws (system P T l) (system P T e.sectors)) still (done-goes P T ws m e lies h) in
          let up = (plan-safe P T (count d) t.images (forced_of frames) (upto P T c) v.missing (system P T d.sectors) ws here plan).done (system P T e.sectors) through in
          let counts : count e ≡ count d = count-done ws m e h ∙ ap length still in
          record {
            pages = ap (λ (g : Geometry). g.pages) same ∙ sees.pages;
            third = ap (λ (g : Geometry). g.third) same ∙ sees.third;
            images = forced_of frames;
            anchored = Zero;
            number = v.missing + 1;
            records = [];
            power = h.power ∙ on-now;
            up = subst (λ (n : ℕ). volume.Up P T n (forced_of frames) Zero (v.missing + 1) [] (system P T e.sectors)) (sym counts) up;
            tied = subst (λ (fs : List Frame). Tied P T (forced_of frames) Zero (v.missing + 1) [] w.place fs) (sym (taken long frames-same)) (tied-fresh long w.place fresh three);
            settled = (given-long long frames-same, given-forced long frames-same);
            current = (given-long long frames-same, given-now long frames-same);
            told = refl;
            wear = works b.wear sound;
            bound = omega (arith, fresh.next, sees.within.1);
          }
        where
          works : (x : Wear) → (x ≡ ruined → ⊥) → at_work x ≡ working
          works working f = refl
          works whole f = refl
          works (one-lost u) f = refl
          works (two-lost u) f = refl
          works ruined f = absurd (f refl)

      -- or the power failed in a write
      cut-after : (m : DiskState) (x : Fault) → m.power ≡ true → m.sectors ≡ d.sectors → v.missing + 1 < 2 ^ 32 → Stopped (seen_writes (on d.sectors) v s.log (forced_of frames)) m x e
          → ((p : ℕ) × (x ≡ PowerOff p)) × (e.power ≡ false) × volume.Down P T (count e) t.images (upto P T (c + 1)) (system P T e.sectors)
      cut-after m x on-now still lasts h =
          let ws = seen_writes (on d.sectors) v s.log (forced_of frames) in
          let plan = sees.plan lasts in
          let lies = plan-lies P T (count d) (system P T d.sectors) (forced_of frames) v.missing ws plan in
          let (torn, off, at) = stopped-tears P T ws m x e lies (omega (arith, here.good.0.4, ap length still)) on-now h in
          let torn' = subst (λ (l : List Sector). Torn ws (system P T l) (system P T e.sectors)) still torn in
          let down = (plan-safe P T (count d) t.images (forced_of frames) (upto P T c) v.missing (system P T d.sectors) ws here plan).cut (system P T e.sectors) torn' in
          let counts : count e ≡ count d = count-stopped ws m x e h ∙ ap length still in
          (at, off, subst (λ (n : ℕ). volume.Down P T n t.images (upto P T (c + 1)) (system P T e.sectors)) (sym counts) down)

    recover-down : (r : Result (Unit {0}) Refusal) → RecoverDown d r j e → Goes b (event e j r) j e
    recover-down r (not-read x frames seen q down) =
        let (at, off, still) = recovery-finds P T t.images (upto P T c) d e x frames here seen in
        as-answer r x q (subst (λ (y : Refusal). Goes b (recovered e.power (Err y)) j e) (sym at.1) (inr (t.told, off), down-after (refusal.PowerOff at.0) down (still-down still)))
    recover-down r (used-up v frames seen big q down) =
        as-answer r NumbersUsedUp q (inr (t.told, omega (arith, (sees v frames seen.2).within.1, big)), down-after NumbersUsedUp down (still-down seen.1))
    recover-down r (was-read v frames m s answer on-now still long lasts h left) = by-answer answer h left
      where
        by-answer : (a : Answer) → Wrote (seen_writes (on d.sectors) v s.log (forced_of frames)) m a e → RecoverLeft v frames a r j → Goes b (event e j r) j e
        by-answer (Ok _) h (w, state, same, fresh, three, frames-same, q) =
            subst (λ (y : Result (Unit {0}) Refusal). Goes b (event e j y) j e) (sym q) (
              inr (t.told, allowed v frames s long frames-same),
              inr (subst (StateTie P T (fed (data_start P T) b (recovered e.power (Ok (now_images P j)))) j e) (sym state) (up-after v frames s m w on-now still long lasts h same fresh three frames-same)),
            )
        by-answer (Err x) h (down, q) =
            let (at, off, k) = cut-after v frames s m x on-now still lasts h in
            as-answer r (refusal_of x) q (subst (λ (y : Fault). Goes b (recovered e.power (Err (refusal_of y))) j e) (sym at.1) (inr (t.told, off), down-after (refusal.PowerOff at.0) down k))

  -- any recovery
  module _ (b : Book) (i j : Inner) (d e : DiskState) where
    abbrev By : State → Result (Unit {0}) Refusal → Type 0
    By Down r = RecoverDown d r j e
    By (Up v) r = (r ≡ Err VolumeUp) × Rest i d j e

    -- an up journal refuses
    while-up : (v : Standing) (r : Result (Unit {0}) Refusal) → i.state ≡ Up v → UpTie P T b i d v → (r ≡ Err VolumeUp) × Rest i d j e → Goes b (event e j r) j e
    while-up v r is t (q, rest) = subst (λ (y : Result (Unit {0}) Refusal). Goes b (event e j y) j e) (sym q) (
      inr t.told,
      rests P T (fed (data_start P T) b (recovered e.power (Err VolumeUp))) i j d e v is rest
          (again P T b (fed (data_start P T) b (recovered e.power (Err VolumeUp))) i d v refl refl refl (ap at_work t.wear ∙ sym t.wear) (omega arith) t),
    )

    pub recover-does : (r : Result (Unit {0}) Refusal) → RecoverDoes i d r j e → Tie P T b i d → Goes b (event e j r) j e
    recover-does r h (inl w) = lost-all b j e r w
    recover-does r h (inr t) = go i.state refl (as-by i.state h) t
      where
        as-by : (q : State) → elim q as (λ (_ : State). Type 0) [ Down ↦ RecoverDown d r j e | Up v ↦ (r ≡ Err VolumeUp) × Rest i d j e ] → By q r
        as-by Down h = h
        as-by (Up v) h = h

        go : (q : State) → i.state ≡ q → By q r → StateTie P T b i d q → Goes b (event e j r) j e
        go (Up v) is h t = while-up v r is t h
        go Down is h t = elim (ruin-cases P T b.wear) [ inl w ↦ lost-all b j e r w | inr sound ↦ recover-down b j d e sound t r h ]
