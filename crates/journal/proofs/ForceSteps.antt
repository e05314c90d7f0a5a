-- What a force and a shut do to book, memory and disk.
--     disk-done       all writes of a force are done: the disk is that of an up volume with the images now
--     disk-cut        one of them was cut: the disk can be recovered, as before or with the images now
--     force-does      the tie after a force
--     shut-does       the tie after a shut
--     force-owed, shut-owed     the book allows what they answer
use Rattle.std.proofs.Common.{◌≡◌, ℕ, ◌+◌, ◌^◌, ◌<◌, ◌≤◌, ◌⊎◌, Bool, true, false, cond, List, [], length, set, take, Some, Ok, Err, Result, sym, refl, ap, ◌∙◌, subst, inl, inr, arith}
use Rattle.std.proofs.lemmas.Bool.{cases_lt, cond-false}
use Rattle.std.proofs.lemmas.List.{length-set}
use Rattle.disk.proofs.Cuts.{length-cut}
use Rattle.disk.proofs.DoneWrites.{length-after}
use Rattle.disk.specs.Faults.{Answer, refusal_of}
use Rattle.disk.specs.Sectors.{DiskState, Sector, count}
use Rattle.disk.specs.Rules.{Writes, write-was-off, write-failed}
use Rattle.disk.specs.WriteLists.{Write, Done, Stopped, Wrote, after, nth}
use Rattle.disk.specs.declared.faults.Fault.{Fault}
use Rattle.disk.specs.declared.faults.Fault.TheVariants.{PowerOff, Unreadable, NoSuchSector}
use Rattle.forcing.specs.Force.{force_writes, frames_after, ForceLeaves}
use Rattle.forcing.specs.declared.place.LogPlace.{LogPlace}
use Rattle.forcing.specs.Places.{LogAfter, goes_on, record_third}
use Rattle.frames.specs.Frames.{any_changed, changed_pages, now_of}
use Rattle.frames.specs.declared.frame.Frame.{Frame}
use Rattle.geometry.specs.Places.{data_start}
use Rattle.geometry.specs.Thirds.{number_of}
use Rattle.geometry.specs.declared.geometry.Geometry.{Geometry}
use Rattle.journal.proofs.ForceTied.{force-tied, nothing-forced}
use Rattle.journal.proofs.Owing.{Shown, UpTo, upto, Lasts, DownTie, UpTie, StateTie, Tie, again}
use Rattle.journal.specs.Books.{Book, Wear, forced, shut, fed, working, whole, one-lost, two-lost, ruined, laid_up, refused_force, is_cut, RefusalOwed, ForceOwed, ShutOwed}
use Rattle.journal.specs.Calls.{most_number, Spent, Rest, ForceLeft, ForceUp, ForceAnswers, ForceDoes, ShutLeft, ShutAnswers, ShutDoes}
use Rattle.journal.specs.Ties.{Tied, Forced}
use Rattle.journal.specs.declared.inner.Inner.{Inner}
use Rattle.journal.specs.declared.inner.Standing.{Standing}
use Rattle.journal.specs.declared.inner.State.{State}
use Rattle.journal.specs.declared.inner.State.TheVariants.{Down, Up}
use Rattle.refusal.specs.declared.Refusal.{Refusal}
use Rattle.refusal.specs.declared.Refusal.TheVariants.{VolumeDown, NumbersUsedUp}
use Rattle.refusal.specs.declared.Refusal.TheVariants as refusal
use Rattle.thirds.proofs.Disks.{done-goes, stopped-tears}
use Rattle.thirds.proofs.ForceSafe.{force-safe}
use Rattle.thirds.proofs.Lies.{forces-lie}
use Rattle.thirds.proofs.SameVolume.{wider-down}
use Rattle.thirds.specs.Disks.{system}
use Rattle.thirds.specs.Forces.{leaves, from_to_next}
use Rattle.thirds.specs.Volumes as volume
use Rattle.thirds.specs.Words.{Disk, Images}

pub bool-cases : (c : Bool) → (c ≡ true) ⊎ (c ≡ false)
bool-cases true = inl refl
bool-cases false = inr refl

-- a list of writes that is done leaves as many sectors
pub count-done : (ws : List Write) (d e : DiskState) → Done ws d e → count e ≡ count d
count-done ws d e h = ap length h.sectors ∙ length-after ws d.sectors

pub count-stopped : (ws : List Write) (d : DiskState) (x : Fault) (e : DiskState) → Stopped ws d x e → count e ≡ count d
count-stopped ws d x e h = by-fault x h.refused ∙ count-done (take h.many ws) d h.mid h.done
  where
    by-fault : (y : Fault) → Writes (nth ws h.many).to (nth ws h.many).bytes h.mid (Err y) e → count e ≡ count h.mid
    by-fault (PowerOff p) (at, write-was-off off q) = ap count q
    by-fault (PowerOff p) (at, write-failed on there off cut) = length-cut (nth ws h.many).to (nth ws h.many).bytes h.mid.sectors e.sectors cut
    by-fault (Unreadable p) r = absurd r
    by-fault NoSuchSector r = ap count r.2

module _ (P T : ℕ) where
  module _ (b : Book) (i : Inner) (d : DiskState) (v : Standing) (t : UpTie P T b i d v) where
    abbrev frames : List Frame
    frames = take P i.frames

    abbrev ws : List Write
    ws = force_writes P T v.place frames

    abbrev n : ℕ
    n = t.number + length t.records

    -- a page changed, and there is a number for it
    module _ (some : any_changed frames ≡ true) (small : v.place.next < 2 ^ 32) where
      this : Forced P T t.images t.anchored t.number t.records v.place frames
      this = force-tied P T (count d) t.images t.anchored t.number t.records (system P T d.sectors) v.place frames t.up t.tied small some

      disk-done : (e : DiskState) → Done ws d e
          → volume.Up P T (count e) (now_of frames) (leaves this.forces).0 (leaves this.forces).1 (leaves this.forces).2 (system P T e.sectors) × ((leaves this.forces).1 + length (leaves this.forces).2 ≡ n + 1)
      disk-done e h =
          let lies = forces-lie P T t.images t.anchored t.number t.records this.made ws t.up.core.laid this.forces in
          let through = done-goes P T ws d e lies h in
          let z = (force-safe P T (count d) t.images (now_of frames) t.anchored t.number t.records this.made ws (system P T d.sectors) t.up this.forces this.changes).done (system P T e.sectors) through in
          (subst (λ (c : ℕ). volume.Up P T c (now_of frames) (leaves this.forces).0 (leaves this.forces).1 (leaves this.forces).2 (system P T e.sectors)) (sym (count-done ws d e h)) z.0, z.1)

      disk-cut : (x : Fault) (e : DiskState) → Stopped ws d x e
          → ((s : ℕ) × (x ≡ PowerOff s)) × (e.power ≡ false) × (count e ≡ count d)
          × (volume.Down P T (count e) t.images (from_to_next n) (system P T e.sectors) ⊎ volume.Down P T (count e) (now_of frames) (from_to_next n) (system P T e.sectors))
      disk-cut x e h =
          let lies = forces-lie P T t.images t.anchored t.number t.records this.made ws t.up.core.laid this.forces in
          let (torn, off, at) = stopped-tears P T ws d x e lies (omega (arith, t.up.good.0.4)) t.power h in
          let same = count-stopped ws d x e h in
          let z = (force-safe P T (count d) t.images (now_of frames) t.anchored t.number t.records this.made ws (system P T d.sectors) t.up this.forces this.changes).cut (system P T e.sectors) torn in (
            at,
            off,
            same,
            elim z [
              | inl a ↦ inl (subst (λ (c : ℕ). volume.Down P T c t.images (from_to_next n) (system P T e.sectors)) (sym same) a)
              | inr a ↦ inr (subst (λ (c : ℕ). volume.Down P T c (now_of frames) (from_to_next n) (system P T e.sectors)) (sym same) a)
            ],
          )

    -- the missing number is within the calls that were made
    within-calls : (W : Images) (N : ℕ) (τ : Disk) → volume.Down P T N W (from_to_next n) τ → volume.Down P T N W (upto P T (b.calls + 1 + 1)) τ
    within-calls W N τ k = wider-down P T N W (from_to_next n) (upto P T (b.calls + 1 + 1)) τ (omega arith, omega (arith, t.bound, t.tied.next)) k

    -- and a force with no changed page leaves all as it is
    module _ (none : any_changed frames ≡ false) where
      idle : (ws ≡ []) × ((k : ℕ) → k < P → now_of frames k ≡ t.images k)
      idle = nothing-forced P T t.images t.anchored t.number t.records v.place frames t.tied none

      idle-done : (e : DiskState) → Done ws d e → e.sectors ≡ d.sectors
      unfolding after
      idle-done e h = (subst (λ (us : List Write). Done us d e) idle.0 h).sectors

      idle-up : (e : DiskState) → Done ws d e → volume.Up P T (count e) t.images t.anchored t.number t.records (system P T e.sectors)
      idle-up e h = subst (λ (l : List Sector). volume.Up P T (length l) t.images t.anchored t.number t.records (system P T l)) (sym (idle-done e h)) t.up

      idle-stopped : (x : Fault) (e : DiskState) → Stopped ws d x e → ⊥
      idle-stopped x e h = let z = subst (λ (us : List Write). Stopped us d x e) idle.0 h in omega (arith, z.within)

      idle-images : Shown P T b.current t.images
      idle-images = (t.current.0, λ k l. t.current.1 k l ∙ idle.1 k l)

  -- the parts of a force with the book's numbers
  abbrev LeftAs : ℕ → ℕ → Standing → Inner → Answer → Result ℕ Refusal → Inner → Type 0
  LeftAs p q v i (Ok _) r j = (w : Standing) × (j.state ≡ Up w) × (w.geometry ≡ v.geometry) × (r ≡ Ok w.place.last) × ForceLeaves q v.place (take p i.frames) (Ok tt) w.place (take p j.frames)
  LeftAs p q v i (Err x) r j = (j.state ≡ Down) × (r ≡ Err (refusal_of x))

  left-as : (v : Standing) (i : Inner) (a : Answer) (r : Result ℕ Refusal) (j : Inner) → ForceLeft v i a r j → LeftAs v.geometry.pages v.geometry.third v i a r j
  left-as v i (Ok _) r j (w, a, g, b, c, l) = (w, a, g, b, c)
  left-as v i (Err x) r j l = l

  abbrev Parts : ℕ → ℕ → Standing → Inner → DiskState → Result ℕ Refusal → Inner → DiskState → Type 0
  Parts p q v i d r j e = (a : Answer) × Wrote (force_writes p q v.place (take p i.frames)) d a e × LeftAs p q v i a r j

  parts : (b : Book) (v : Standing) (i : Inner) (d : DiskState) (r : Result ℕ Refusal) (j : Inner) (e : DiskState) → UpTie P T b i d v → ForceUp v i d r j e → Parts P T v i d r j e
  parts b v i d r j e t u =
      subst (λ (p : ℕ). Parts p T v i d r j e) t.pages (subst (λ (q : ℕ). Parts v.geometry.pages q v i d r j e) t.third (u.answer, u.wrote, left-as v i u.answer r j u.left))

  -- a number is left for a changed page
  unspent : (b : Book) (i : Inner) (d : DiskState) (v : Standing) → UpTie P T b i d v → (Spent v i → ⊥) → any_changed (take P i.frames) ≡ true → v.place.next < 2 ^ 32
  unspent b i d v t free some = elim (cases_lt most_number v.place.next) [
    | inl big ↦ absurd (free (subst (λ (p : ℕ). any_changed (take p i.frames) ≡ true) (sym t.pages) some, big))
    | inr small ↦ omega (arith, small)
  ]

  three-firsts : (c : Bool) (xs : List ℕ) (k y : ℕ) → length (cond c xs (set xs k y)) ≡ length xs
  three-firsts true xs k y = refl
  three-firsts false xs k y = length-set xs k y

  module _ (b : Book) (i j : Inner) (d e : DiskState) (v : Standing) (t : UpTie P T b i d v) where
    abbrev kept : List Frame
    kept = take P i.frames

    forced-up : (w : Standing) → any_changed kept ≡ true → v.place.next < 2 ^ 32 → Done (force_writes P T v.place kept) d e → w.geometry ≡ v.geometry → ForceLeaves T v.place kept (Ok tt) w.place (take P j.frames) → (g : ℕ)
        → UpTie P T (fed 0 b (forced (Ok g))) j e w
    forced-up w some small h same l g =
        let this = this b i d v t some small in
        let z = disk-done b i d v t some small e h in
        let after' : LogAfter T v.place (length (changed_pages kept)) w.place = (subst (λ (c : Bool). cond c (LogAfter T v.place (length (changed_pages kept)) w.place × (take P j.frames ≡ frames_after T v.place kept)) ((w.place ≡ v.place) × (take P j.frames ≡ kept))) some l).0 in
        let three : length w.place.firsts ≡ 3 = ap length after'.firsts ∙ three-firsts (goes_on T v.place (length (changed_pages kept))) v.place.firsts (number_of (record_third T v.place (length (changed_pages kept)))) v.place.next ∙ t.tied.three in
        let later = this.later w.place (take P j.frames) l three in
        record {
          pages = ap (λ (g : Geometry). g.pages) same ∙ t.pages;
          third = ap (λ (g : Geometry). g.third) same ∙ t.third;
          images = now_of kept;
          anchored = (leaves this.forces).0;
          number = (leaves this.forces).1;
          records = (leaves this.forces).2;
          power = h.power ∙ t.power;
          up = z.0;
          tied = later.0;
          settled = t.current;
          current = (t.current.0, λ k l. t.current.1 k l ∙ sym (later.1 k l));
          told = t.told;
          wear = t.wear;
          bound = omega (arith, z.1, later.0.next, t.tied.next, t.bound);
        }

    idle-forced : (w : Standing) → any_changed kept ≡ false → Done (force_writes P T v.place kept) d e → w.geometry ≡ v.geometry → ForceLeaves T v.place kept (Ok tt) w.place (take P j.frames) → (g : ℕ)
        → UpTie P T (fed 0 b (forced (Ok g))) j e w
    idle-forced w none h same l g =
        let (place, frames) = subst (λ (c : Bool). cond c (LogAfter T v.place (length (changed_pages kept)) w.place × (take P j.frames ≡ frames_after T v.place kept)) ((w.place ≡ v.place) × (take P j.frames ≡ kept))) none l in
        record {
          pages = ap (λ (g : Geometry). g.pages) same ∙ t.pages;
          third = ap (λ (g : Geometry). g.third) same ∙ t.third;
          images = t.images;
          anchored = t.anchored;
          number = t.number;
          records = t.records;
          power = h.power ∙ t.power;
          up = idle-up b i d v t none e h;
          tied = subst (λ (p : LogPlace). Tied P T t.images t.anchored t.number t.records p (take P j.frames)) (sym place) (subst (λ (fs : List Frame). Tied P T t.images t.anchored t.number t.records v.place fs) (sym frames) t.tied);
          settled = idle-images b i d v t none;
          current = subst (λ (fs : List Frame). Shown P T b.current (now_of fs)) (sym frames) t.current;
          told = t.told;
          wear = t.wear;
          bound = subst (λ (p : LogPlace). p.next ≤ b.calls + 1 + 1) (sym place) (omega (arith, t.bound));
        }

    -- the power failed in a write
    cut-down : (c : Book) → c.up ≡ false → c.settled ≡ b.settled → c.pending ≡ Some b.current → c.calls ≡ b.calls + 1 → c.wear ≡ b.wear
        → volume.Down P T (count e) t.images (from_to_next (n b i d v t)) (system P T e.sectors) ⊎ volume.Down P T (count e) (now_of kept) (from_to_next (n b i d v t)) (system P T e.sectors) → DownTie P T c e
    cut-down c u s p k w (inl a) = record {
      told = u;
      images = t.images;
      owed = inl (subst (λ (xs : List (List ℕ)). Shown P T xs t.images) (sym s) t.settled);
      lasts = subst (λ (x : Wear). Lasts P T x (count e) (c.calls + 1) t.images (system P T e.sectors)) (sym (w ∙ t.wear))
          (subst (λ (x : ℕ). volume.Down P T (count e) t.images (upto P T (x + 1)) (system P T e.sectors)) (sym k) (within-calls b i d v t t.images (count e) (system P T e.sectors) a));
    }
    cut-down c u s p k w (inr a) = record {
      told = u;
      images = now_of kept;
      owed = inr (b.current, p, t.current);
      lasts = subst (λ (x : Wear). Lasts P T x (count e) (c.calls + 1) (now_of kept) (system P T e.sectors)) (sym (w ∙ t.wear))
          (subst (λ (x : ℕ). volume.Down P T (count e) (now_of kept) (upto P T (x + 1)) (system P T e.sectors)) (sym k) (within-calls b i d v t (now_of kept) (count e) (system P T e.sectors) a));
    }

    cut-tie : (x : Fault) → j.state ≡ Down → (Spent v i → ⊥) → Stopped (force_writes P T v.place kept) d x e → Tie P T (refused_force b (refusal_of x)) j e
    cut-tie x down free h = elim (bool-cases (any_changed kept)) [
      | inr none ↦ absurd (idle-stopped b i d v t none x e h)
      | inl some ↦ (let (at, off, same, z) = disk-cut b i d v t some (unspent b i d v t free some) x e h in
          subst (λ (y : Fault). Tie P T (refused_force b (refusal_of y)) j e) (sym at.1)
          (inr (subst (StateTie P T (refused_force b (refusal.PowerOff at.0)) j e) (sym down) (cut-down (refused_force b (refusal.PowerOff at.0)) refl refl refl refl refl z))))
    ]

    force-done : (a : Answer) (r : Result ℕ Refusal) → (Spent v i → ⊥) → Wrote (force_writes P T v.place kept) d a e → LeftAs P T v i a r j → Tie P T (fed 0 b (forced r)) j e
    force-done (Err x) r free h (down, q) = subst (λ (y : Result ℕ Refusal). Tie P T (fed 0 b (forced y)) j e) (sym q) (cut-tie x down free h)
    force-done (Ok _) r free h (w, state, same, q, l) =
        subst (λ (y : Result ℕ Refusal). Tie P T (fed 0 b (forced y)) j e) (sym q)
        (inr (subst (StateTie P T (fed 0 b (forced (Ok w.place.last))) j e) (sym state)
        (elim (bool-cases (any_changed kept)) [
          | inl some ↦ forced-up w some (unspent b i d v t free some) h same l w.place.last
          | inr none ↦ idle-forced w none h same l w.place.last
        ])))

    shut-done : (a : Answer) (r : Result (Unit {0}) Refusal) → (Spent v i → ⊥) → Wrote (force_writes P T v.place kept) d a e → ShutLeft a r j → Tie P T (fed 0 b (shut r)) j e
    shut-done (Err x) r free h (down, q) = subst (λ (y : Result (Unit {0}) Refusal). Tie P T (fed 0 b (shut y)) j e) (sym q) (cut-tie x down free h)
    shut-done (Ok _) r free h (down, q) =
        subst (λ (y : Result (Unit {0}) Refusal). Tie P T (fed 0 b (shut y)) j e) (sym q)
        (inr (subst (StateTie P T (fed 0 b (shut (Ok tt))) j e) (sym down)
        (elim (bool-cases (any_changed kept)) [
          | inl some ↦ (let small = unspent b i d v t free some in let this = this b i d v t some small in let z = disk-done b i d v t some small e h in
              laid (now_of kept) t.current ((leaves this.forces).0, (leaves this.forces).1, (leaves this.forces).2, z.0, omega (arith, z.1, t.tied.next, t.bound)))
          | inr none ↦ laid t.images (idle-images b i d v t none) (t.anchored, t.number, t.records, idle-up b i d v t none e h, omega (arith, t.tied.next, t.bound))
        ])))
      where
        laid : (W : Images) → Shown P T b.current W → UpTo P T (count e) (b.calls + 1 + 1) W (system P T e.sectors) → DownTie P T (fed 0 b (shut (Ok tt))) e
        laid W s u = record {
          told = refl;
          images = W;
          owed = inl s;
          lasts = subst (λ (x : Wear). Lasts P T (laid_up x) (count e) (b.calls + 1 + 1) W (system P T e.sectors)) (sym t.wear) u;
        }

  -- what lasts, lasts for a book that tells of more calls
  longer : (w : Wear) (N c k : ℕ) (W : Images) (τ : Disk) → c ≤ k → Lasts P T w N c W τ → Lasts P T w N k W τ
  longer working N c k W τ l h = wider-down P T N W (upto P T c) (upto P T k) τ (omega arith, l) h
  longer whole N c k W τ l (f, m, rs, u, a) = (f, m, rs, u, omega (arith, a, l))
  longer (one-lost s) N c k W τ l (σ, (f, m, rs, u, a), less) = (σ, (f, m, rs, u, omega (arith, a, l)), less)
  longer (two-lost s) N c k W τ l (σ, (f, m, rs, u, a), worn) = (σ, (f, m, rs, u, omega (arith, a, l)), worn)
  longer ruined N c k W τ l h = tt

  -- any force, and any shut
  module _ (b : Book) (i j : Inner) (d e : DiskState) where
    abbrev ForceBy : State → Result ℕ Refusal → Type 0
    ForceBy Down r = (r ≡ Err VolumeDown) × Rest i d j e
    ForceBy (Up v) r = ForceAnswers v i d r j e

    abbrev ShutBy : State → Result (Unit {0}) Refusal → Type 0
    ShutBy Down r = (r ≡ Err VolumeDown) × Rest i d j e
    ShutBy (Up v) r = ShutAnswers v i d r j e

    -- the call changed nothing, and is counted
    counted : (x : Refusal) → is_cut x ≡ false → Rest i d j e → StateTie P T b i d i.state → Tie P T (refused_force b x) j e
    counted x other (same, still) t = inr (subst (λ (y : DiskState). StateTie P T (refused_force b x) j y j.state) (sym still)
        (subst (λ (y : Inner). StateTie P T (refused_force b x) y d y.state) (sym same) (go i.state t)))
      where
        go : (q : State) → StateTie P T b i d q → StateTie P T (refused_force b x) i d q
        go (Up v) t = again P T b (refused_force b x) i d v refl refl (cond-false (is_cut x) false b.up other) refl (omega arith) t
        go Down t = record {
          told = cond-false (is_cut x) false b.up other ∙ t.told;
          images = t.images;
          owed = elim t.owed [ inl o ↦ inl o | inr (xs, q, o) ↦ inr (xs, cond-false (is_cut x) (Some b.current) b.pending other ∙ q, o) ];
          lasts = longer b.wear (count d) (b.calls + 1) (b.calls + 1 + 1) t.images (system P T d.sectors) (omega arith) t.lasts;
        }

    force-ruined : (r : Result ℕ Refusal) → b.wear ≡ ruined → (fed (data_start P T) b (forced r)).wear ≡ ruined
    force-ruined (Ok g) w = w
    force-ruined (Err x) w = w

    shut-ruined : (r : Result (Unit {0}) Refusal) → b.wear ≡ ruined → (fed (data_start P T) b (shut r)).wear ≡ ruined
    shut-ruined (Ok _) w = ap laid_up w
    shut-ruined (Err x) w = w

    pub force-does : (r : Result ℕ Refusal) → ForceDoes i d r j e → Tie P T b i d → Tie P T (fed (data_start P T) b (forced r)) j e
    force-does r h (inl w) = inl (force-ruined r w)
    force-does r h (inr t) = go i.state refl (as-by i.state h) t
      where
        as-by : (q : State) → elim q as (λ (_ : State). Type 0) [ Down ↦ (r ≡ Err VolumeDown) × Rest i d j e | Up v ↦ ForceAnswers v i d r j e ] → ForceBy q r
        as-by Down h = h
        as-by (Up v) h = h

        go : (q : State) → i.state ≡ q → ForceBy q r → StateTie P T b i d q → Tie P T (fed (data_start P T) b (forced r)) j e
        go Down is (q, rest) t = subst (λ (y : Result ℕ Refusal). Tie P T (fed (data_start P T) b (forced y)) j e) (sym q) (counted VolumeDown refl rest (subst (StateTie P T b i d) (sym is) t))
        go (Up v) is (inl (spent, q, rest)) t = subst (λ (y : Result ℕ Refusal). Tie P T (fed (data_start P T) b (forced y)) j e) (sym q) (counted NumbersUsedUp refl rest (subst (StateTie P T b i d) (sym is) t))
        go (Up v) is (inr (free, u)) t = let (a, w, l) = parts b v i d r j e t u in force-done b i j d e v t a r free w l

    pub shut-does : (r : Result (Unit {0}) Refusal) → ShutDoes i d r j e → Tie P T b i d → Tie P T (fed (data_start P T) b (shut r)) j e
    shut-does r h (inl w) = inl (shut-ruined r w)
    shut-does r h (inr t) = go i.state refl (as-by i.state h) t
      where
        as-by : (q : State) → elim q as (λ (_ : State). Type 0) [ Down ↦ (r ≡ Err VolumeDown) × Rest i d j e | Up v ↦ ShutAnswers v i d r j e ] → ShutBy q r
        as-by Down h = h
        as-by (Up v) h = h

        go : (q : State) → i.state ≡ q → ShutBy q r → StateTie P T b i d q → Tie P T (fed (data_start P T) b (shut r)) j e
        go Down is (q, rest) t = subst (λ (y : Result (Unit {0}) Refusal). Tie P T (fed (data_start P T) b (shut y)) j e) (sym q) (counted VolumeDown refl rest (subst (StateTie P T b i d) (sym is) t))
        go (Up v) is (inl (spent, q, rest)) t = subst (λ (y : Result (Unit {0}) Refusal). Tie P T (fed (data_start P T) b (shut y)) j e) (sym q) (counted NumbersUsedUp refl rest (subst (StateTie P T b i d) (sym is) t))
        go (Up v) is (inr (free, u)) t =
            let w = subst (λ (p : ℕ). Wrote (force_writes p T v.place (take p i.frames)) d u.answer e) t.pages (subst (λ (q : ℕ). Wrote (force_writes v.geometry.pages q v.place (take v.geometry.pages i.frames)) d u.answer e) t.third u.wrote) in
            shut-done b i j d e v t u.answer r free w u.left

    -- why a force or a shut of an up journal was refused
    refused-up : (v : Standing) (t : UpTie P T b i d v) (x : Fault) → (Spent v i → ⊥) → Stopped (force_writes P T v.place (take P i.frames)) d x e → RefusalOwed b (refusal_of x)
    refused-up v t x free h = elim (bool-cases (any_changed (take P i.frames))) [
      | inr none ↦ absurd (idle-stopped b i d v t none x e h)
      | inl some ↦ (let (at, off, same, z) = disk-cut b i d v t some (unspent b i d v t free some) x e h in subst (λ (y : Fault). RefusalOwed b (refusal_of y)) (sym at.1) t.told)
    ]

    pub force-owed : (r : Result ℕ Refusal) → ForceDoes i d r j e → Tie P T b i d → (b.wear ≡ ruined) ⊎ ForceOwed b r
    force-owed r h (inl w) = inl w
    force-owed r h (inr t) = inr (go i.state (as-by i.state h) t)
      where
        as-by : (q : State) → elim q as (λ (_ : State). Type 0) [ Down ↦ (r ≡ Err VolumeDown) × Rest i d j e | Up v ↦ ForceAnswers v i d r j e ] → ForceBy q r
        as-by Down h = h
        as-by (Up v) h = h

        by-answer : (v : Standing) (t : UpTie P T b i d v) (a : Answer) → (Spent v i → ⊥) → Wrote (force_writes P T v.place (take P i.frames)) d a e → LeftAs P T v i a r j → ForceOwed b r
        by-answer v t (Ok _) free h (w, state, same, q, l) = subst (ForceOwed b) (sym q) t.told
        by-answer v t (Err x) free h (down, q) = subst (ForceOwed b) (sym q) (refused-up v t x free h)

        go : (q : State) → ForceBy q r → StateTie P T b i d q → ForceOwed b r
        go Down (q, rest) t = subst (ForceOwed b) (sym q) t.told
        go (Up v) (inl (spent, q, rest)) t = subst (ForceOwed b) (sym q) t.told
        go (Up v) (inr (free, u)) t = let (a, w, l) = parts b v i d r j e t u in by-answer v t a free w l

    pub shut-owed : (r : Result (Unit {0}) Refusal) → ShutDoes i d r j e → Tie P T b i d → (b.wear ≡ ruined) ⊎ ShutOwed b r
    shut-owed r h (inl w) = inl w
    shut-owed r h (inr t) = inr (go i.state (as-by i.state h) t)
      where
        as-by : (q : State) → elim q as (λ (_ : State). Type 0) [ Down ↦ (r ≡ Err VolumeDown) × Rest i d j e | Up v ↦ ShutAnswers v i d r j e ] → ShutBy q r
        as-by Down h = h
        as-by (Up v) h = h

        by-answer : (v : Standing) (t : UpTie P T b i d v) (a : Answer) → (Spent v i → ⊥) → Wrote (force_writes P T v.place (take P i.frames)) d a e → ShutLeft a r j → ShutOwed b r
        by-answer v t (Ok _) free h (down, q) = subst (ShutOwed b) (sym q) t.told
        by-answer v t (Err x) free h (down, q) = subst (ShutOwed b) (sym q) (refused-up v t x free h)

        go : (q : State) → ShutBy q r → StateTie P T b i d q → ShutOwed b r
        go Down (q, rest) t = subst (ShutOwed b) (sym q) t.told
        go (Up v) (inl (spent, q, rest)) t = subst (ShutOwed b) (sym q) t.told
        go (Up v) (inr (free, u)) t =
            let w = subst (λ (p : ℕ). Wrote (force_writes p T v.place (take p i.frames)) d u.answer e) t.pages (subst (λ (q : ℕ). Wrote (force_writes v.geometry.pages q v.place (take v.geometry.pages i.frames)) d u.answer e) t.third u.wrote) in
            by-answer v t u.answer free w u.left
