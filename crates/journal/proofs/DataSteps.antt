-- What a write to the data, a lost sector and the loss of all memory do to book, memory and disk.
--     data-does        the tie after a write to the data
--     lose-does        the tie after a sector was lost
--     forget-does      the tie after all memory was lost
use Rattle.std.proofs.Common.{◌≡◌, ℕ, ◌+◌, ◌<◌, ◌≤◌, ◌⊎◌, Bool, true, false, cond, eqb, ltb, List, length, Ok, Err, Result, sym, refl, ap, ◌∙◌, subst, inl, inr, arith}
use Rattle.std.proofs.lemmas.Bool.{cases_lt, cond-true, cond-false, cond_both, eqb-true, lt-ltb, le-ltb, true≢false}
use Rattle.std.proofs.lemmas.List.{length-set}
use Rattle.disk.proofs.Cuts.{length-cut}
use Rattle.disk.specs.Faults.{Answer}
use Rattle.disk.specs.Rules.{Writes, WriteOff, write-was-off, write-failed, Spoils}
use Rattle.disk.specs.Sectors.{DiskState, Sector, unreadable, holds, count}
use Rattle.disk.specs.declared.faults.Fault.TheVariants.{PowerOff, Unreadable, NoSuchSector}
use Rattle.geometry.specs.Places.{data_start}
use Rattle.journal.proofs.Owing.{Shown, Less, upto, Lasts, DownTie, UpTie, StateTie, Tie, again}
use Rattle.journal.specs.Books.{Book, Wear, data-written, spoiled, forgot, fed, lose, working, whole, one-lost, two-lost, ruined}
use Rattle.journal.specs.Calls.{Rest, DataLeft, DataUp, no-data, data-write, DataDoes}
use Rattle.journal.specs.declared.inner.Inner.{Inner}
use Rattle.journal.specs.declared.inner.Standing.{Standing}
use Rattle.journal.specs.declared.inner.State.{State}
use Rattle.journal.specs.declared.inner.State.TheVariants.{Down, Up}
use Rattle.refusal.specs.declared.Refusal.{Refusal}
use Rattle.refusal.specs.declared.Refusal.TheVariants as refusal
use Rattle.thirds.proofs.Disks.{system-lost, data-unseen, data-cut-unseen}
use Rattle.thirds.proofs.SameVolume.{wider-down}
use Rattle.thirds.proofs.Worn.{spoil-leaves}
use Rattle.thirds.specs.Cuts.{Worn}
use Rattle.thirds.specs.Disks.{system}
use Rattle.thirds.specs.Volumes as volume
use Rattle.thirds.specs.Volumes.{just}
use Rattle.thirds.specs.Words.{Disk, Images}

module _ (P T : ℕ) where
  abbrev S : ℕ
  S = data_start P T

  -- an up volume whose sectors below the data are as before, with the same memory or without any
  module _ (b : Book) (i : Inner) (d e : DiskState) (v : Standing) (t : UpTie P T b i d v) (counts : count e ≡ count d) (same : system P T e.sectors ≡ system P T d.sectors) where
    up-still : volume.Up P T (count e) t.images t.anchored t.number t.records (system P T e.sectors)
    up-still = subst (λ (n : ℕ). volume.Up P T n t.images t.anchored t.number t.records (system P T e.sectors)) (sym counts)
        (subst (λ (σ : Disk). volume.Up P T (count d) t.images t.anchored t.number t.records σ) (sym same) t.up)

    stays-up : e.power ≡ true → UpTie P T b i e v
    stays-up on = record {
      pages = t.pages;
      third = t.third;
      images = t.images;
      anchored = t.anchored;
      number = t.number;
      records = t.records;
      power = on;
      up = up-still;
      tied = t.tied;
      settled = t.settled;
      current = t.current;
      told = t.told;
      wear = t.wear;
      bound = t.bound;
    }

    goes-down : (c : Book) → c.up ≡ false → c.settled ≡ b.settled → c.wear ≡ b.wear → c.calls ≡ b.calls → DownTie P T c e
    goes-down c u s w k = record {
      told = u;
      images = t.images;
      owed = inl (subst (λ (xs : List (List ℕ)). Shown P T xs t.images) (sym s) t.settled);
      lasts = subst (λ (x : Wear). Lasts P T x (count e) (c.calls + 1) t.images (system P T e.sectors)) (sym (w ∙ t.wear))
          (wider-down P T (count e) t.images (just (t.number + length t.records)) (upto P T (c.calls + 1)) (system P T e.sectors) (omega arith, omega (arith, k, t.bound, t.tied.next))
          (spoil-leaves P T (count e) 0 t.images t.anchored t.number t.records (system P T e.sectors) (system P T e.sectors) up-still (λ u. inl refl)));
    }

  down-still : (b c : Book) (d e : DiskState) → count e ≡ count d → system P T e.sectors ≡ system P T d.sectors → c.settled ≡ b.settled → c.pending ≡ b.pending → c.wear ≡ b.wear → c.calls ≡ b.calls → c.up ≡ false → DownTie P T b d → DownTie P T c e
  down-still b c d e counts same s p w k u t = record {
    told = u;
    images = t.images;
    owed = elim t.owed [
      | inl o ↦ inl (subst (λ (xs : List (List ℕ)). Shown P T xs t.images) (sym s) o)
      | inr (xs, q, o) ↦ inr (xs, p ∙ q, o)
    ];
    lasts = subst (λ (x : Wear). Lasts P T x (count e) (c.calls + 1) t.images (system P T e.sectors)) (sym w)
        (subst (λ (n : ℕ). Lasts P T b.wear (count e) (n + 1) t.images (system P T e.sectors)) (sym k)
        (subst (λ (n : ℕ). Lasts P T b.wear n (b.calls + 1) t.images (system P T e.sectors)) (sym counts)
        (subst (λ (σ : Disk). Lasts P T b.wear (count d) (b.calls + 1) t.images σ) (sym same) t.lasts)));
  }

  -- A write to the data.
  data-ruined : (b : Book) (s : ℕ) (bytes : List ℕ) (r : Result (Unit {0}) Refusal) → b.wear ≡ ruined → (fed S b (data-written s bytes r)).wear ≡ ruined
  data-ruined b s bytes (Ok _) w = w
  data-ruined b s bytes (Err x) w = w

  module _ (b : Book) (s : ℕ) (bytes : List ℕ) (i j : Inner) (d e : DiskState) where
    abbrev After : Result (Unit {0}) Refusal → Type 0
    After r = Tie P T (fed S b (data-written s bytes r)) j e

    keeps : (c : Book) (q : State) → i.state ≡ q → Rest i d j e → StateTie P T c i d q → StateTie P T c j e j.state
    keeps c q is (same, still) t = subst (StateTie P T c j e) (sym (ap (λ (x : Inner). x.state) same ∙ is))
        (subst (λ (y : DiskState). StateTie P T c j y q) (sym still) (subst (λ (x : Inner). StateTie P T c x d q) (sym same) t))

    data-up : (v : Standing) (r : Result (Unit {0}) Refusal) → i.state ≡ Up v → UpTie P T b i d v → DataUp v s bytes i d r j e → After r
    data-up v r is t (no-data l q rest) =
        subst After (sym q) (inr (keeps (fed S b (data-written s bytes (Err refusal.NoSuchSector))) (Up v) is rest (again P T b (fed S b (data-written s bytes (Err refusal.NoSuchSector))) i d v refl refl refl refl (omega arith) t)))
    data-up v r is t (data-write l answer w left) = by-answer answer w left
      where
        start : S ≤ s
        start = subst (λ (p : ℕ). data_start p T ≤ s) t.pages (subst (λ (q : ℕ). data_start v.geometry.pages q ≤ s) t.third l)

        off-only : WriteOff s bytes d e → (e.power ≡ false) × (count e ≡ count d) × (system P T e.sectors ≡ system P T d.sectors)
        off-only (write-was-off off q) = absurd (true≢false (sym t.power ∙ off))
        off-only (write-failed on there off cut) = (off, length-cut s bytes d.sectors e.sectors cut, data-cut-unseen P T s bytes d.sectors e.sectors start cut)

        by-answer : (a : Answer) → Writes s bytes d a e → DataLeft i a r j → After r
        by-answer (Ok _) w (same, q) =
            let counts : count e ≡ count d = ap length w.3 ∙ length-set d.sectors s (holds bytes) in
            let unseen : system P T e.sectors ≡ system P T d.sectors = ap (system P T) w.3 ∙ data-unseen P T s (holds bytes) d.sectors start in
            subst After (sym q) (inr (subst (StateTie P T b j e) (sym (ap (λ (x : Inner). x.state) same ∙ is))
            (subst (λ (x : Inner). UpTie P T b x e v) (sym same) (stays-up b i d e v t counts unseen w.2))))
        by-answer (Err (PowerOff p)) w (down, q) =
            let (off, counts, unseen) = off-only w.1 in
            subst After (sym q) (inr (subst (StateTie P T (fed S b (data-written s bytes (Err (refusal.PowerOff p)))) j e) (sym down)
            (goes-down b i d e v t counts unseen (fed S b (data-written s bytes (Err (refusal.PowerOff p)))) refl refl refl refl)))
        by-answer (Err (Unreadable p)) w left = absurd left
        by-answer (Err NoSuchSector) w (same, q) =
            subst After (sym q) (inr (keeps (fed S b (data-written s bytes (Err refusal.NoSuchSector))) (Up v) is (same, w.2) (again P T b (fed S b (data-written s bytes (Err refusal.NoSuchSector))) i d v refl refl refl refl (omega arith) t)))

    data-down : (r : Result (Unit {0}) Refusal) → i.state ≡ Down → DownTie P T b d → (r ≡ Err refusal.VolumeDown) × Rest i d j e → After r
    data-down r is t (q, rest) =
        subst After (sym q) (inr (keeps (fed S b (data-written s bytes (Err refusal.VolumeDown))) Down is rest
        (down-still b (fed S b (data-written s bytes (Err refusal.VolumeDown))) d d refl refl refl refl refl refl t.told t)))

    pub data-does : (r : Result (Unit {0}) Refusal) → DataDoes s bytes i d r j e → Tie P T b i d → After r
    data-does r h (inl w) = inl (data-ruined b s bytes r w)
    data-does r h (inr t) = go i.state refl h t
      where
        By : State → Type 0
        By Down = (r ≡ Err refusal.VolumeDown) × Rest i d j e
        By (Up v) = DataUp v s bytes i d r j e

        go : (q : State) → i.state ≡ q → By q → StateTie P T b i d q → After r
        go Down is h t = data-down r is t h
        go (Up v) is h t = data-up v r is t h

  -- A sector that was lost.
  -- what a volume that is down has left once one sector more was lost
  module _ (s N c : ℕ) (W : Images) (τ τ' : Disk) (less : Less P T s τ τ') where
    less-one : (t : ℕ) (σ : Disk) → s ≡ t → Less P T t σ τ → Less P T t σ τ'
    less-one t σ q l u = elim (less u) [
      | inr (a, b) ↦ inr (a, b ∙ q)
      | inl a ↦ elim (l u) [ inl x ↦ inl (a ∙ x) | inr (x, y) ↦ inr (a ∙ x, y) ]
    ]

    less-two : (t r : ℕ) (σ : Disk) → t ≤ s → s ≤ t + 1 → t ≤ r → r ≤ t + 1 → Less P T r σ τ → Worn t σ τ'
    less-two t r σ f g h k l u = elim (less u) [
      | inr (a, b) ↦ inr (a, omega (arith, b), omega (arith, b))
      | inl a ↦ elim (l u) [ inl x ↦ inl (a ∙ x) | inr (x, y) ↦ inr (a ∙ x, omega (arith, y), omega (arith, y)) ]
    ]

    worn-more : (t : ℕ) (σ : Disk) → t ≤ s → s ≤ t + 1 → Worn t σ τ → Worn t σ τ'
    worn-more t σ f g l u = elim (less u) [
      | inr (a, b) ↦ inr (a, omega (arith, b), omega (arith, b))
      | inl a ↦ elim (l u) [ inl x ↦ inl (a ∙ x) | inr (x, y, z) ↦ inr (a ∙ x, y, z) ]
    ]

    abbrev Left : Wear → Type 0
    Left w = (w ≡ ruined) ⊎ Lasts P T w N c W τ'

    left-if : (b : Bool) (x y : Wear) → (b ≡ true → Left x) → (b ≡ false → Left y) → Left (cond b x y)
    left-if b x y f g = cond_both b x y Left f g

    lose-lasts : (w : Wear) → Lasts P T w N c W τ → Left (lose s w)
    lose-lasts working l = inl refl
    lose-lasts whole l = inr (τ, l, less)
    lose-lasts (one-lost t) (σ, up, l) =
        left-if (eqb s t) (one-lost t) _ (λ q. (let e = eqb-true s t q in inr (σ, up, less-one t σ e l)))
        (λ _. left-if (eqb s (t + 1)) (two-lost t) _ (λ q. (let e = eqb-true s (t + 1) q in inr (σ, up, less-two t t σ (omega arith) (omega arith) (omega arith) (omega arith) l)))
        (λ _. left-if (eqb t (s + 1)) (two-lost s) ruined (λ q. (let e = eqb-true t (s + 1) q in inr (σ, up, less-two s t σ (omega arith) (omega arith) (omega arith) (omega arith) l))) (λ _. inl refl)))
    lose-lasts (two-lost t) (σ, up, l) =
        left-if (eqb s t) (two-lost t) _ (λ q. (let e = eqb-true s t q in inr (σ, up, worn-more t σ (omega arith) (omega arith) l)))
        (λ _. left-if (eqb s (t + 1)) (two-lost t) ruined (λ q. (let e = eqb-true s (t + 1) q in inr (σ, up, worn-more t σ (omega arith) (omega arith) l))) (λ _. inl refl))
    lose-lasts ruined l = inl refl

  module _ (b : Book) (s : ℕ) (i : Inner) (d e : DiskState) where
    abbrev Lost : Answer → Type 0
    Lost a = Tie P T (fed S b (spoiled s a)) i e

    lost-ruined : b.wear ≡ ruined → (fed S b (spoiled s (Ok tt))).wear ≡ ruined
    lost-ruined w = cond_both (ltb s S) (lose s b.wear) b.wear (λ x. x ≡ ruined) (λ _. ap (lose s) w) (λ _. w)

    -- a sector of the data
    module _ (far : S ≤ s) (lost : Spoils s d (Ok tt) e) where
      far-wear : (fed S b (spoiled s (Ok tt))).wear ≡ b.wear
      far-wear = cond-false (ltb s S) (lose s b.wear) b.wear (le-ltb s S far)

      far-count : count e ≡ count d
      far-count = ap length lost.2 ∙ length-set d.sectors s unreadable

      far-same : system P T e.sectors ≡ system P T d.sectors
      far-same = ap (system P T) lost.2 ∙ data-unseen P T s unreadable d.sectors far

      far-tie : (q : State) → StateTie P T b i d q → StateTie P T (fed S b (spoiled s (Ok tt))) i e q
      far-tie Down t = down-still b (fed S b (spoiled s (Ok tt))) d e far-count far-same refl refl far-wear refl t.told t
      far-tie (Up v) t = again P T b (fed S b (spoiled s (Ok tt))) i e v refl refl refl far-wear (omega arith) (stays-up b i d e v t far-count far-same (lost.1 ∙ t.power))

    -- a sector below the data
    module _ (near : s < S) (lost : Spoils s d (Ok tt) e) where
      near-wear : (fed S b (spoiled s (Ok tt))).wear ≡ lose s b.wear
      near-wear = cond-true (ltb s S) (lose s b.wear) b.wear (lt-ltb s S near)

      near-less : Less P T s (system P T d.sectors) (system P T e.sectors)
      near-less = subst (λ (l : List Sector). Less P T s (system P T d.sectors) (system P T l)) (sym lost.2) (λ u. system-lost P T s u d.sectors)

      near-tie : (q : State) → StateTie P T b i d q → ((fed S b (spoiled s (Ok tt))).wear ≡ ruined) ⊎ StateTie P T (fed S b (spoiled s (Ok tt))) i e q
      near-tie (Up v) t = inl (near-wear ∙ ap (lose s) t.wear)
      near-tie Down t = elim (lose-lasts s (count d) (b.calls + 1) t.images (system P T d.sectors) (system P T e.sectors) near-less b.wear t.lasts) [
        | inl w ↦ inl (near-wear ∙ w)
        | inr l ↦ inr (record {
          told = t.told;
          images = t.images;
          owed = t.owed;
          lasts = subst (λ (x : Wear). Lasts P T x (count e) (b.calls + 1) t.images (system P T e.sectors)) (sym near-wear)
              (subst (λ (n : ℕ). Lasts P T (lose s b.wear) n (b.calls + 1) t.images (system P T e.sectors)) (sym (ap length lost.2 ∙ length-set d.sectors s unreadable)) l);
        })
      ]

    pub lose-does : (a : Answer) → Spoils s d a e → Tie P T b i d → Lost a
    lose-does (Ok _) lost (inl w) = inl (lost-ruined w)
    lose-does (Ok _) lost (inr t) = elim (cases_lt s S) [
      | inl near ↦ near-tie near lost i.state t
      | inr far ↦ inr (far-tie far lost i.state t)
    ]
    lose-does (Err (PowerOff p)) lost t = absurd lost
    lose-does (Err (Unreadable p)) lost t = absurd lost
    lose-does (Err NoSuchSector) lost t = subst (λ (x : DiskState). Tie P T b i x) (sym lost.1) t

  -- The loss of all memory.
  pub forget-does : (b : Book) (i j : Inner) (d e : DiskState) → j.state ≡ Down → e.sectors ≡ d.sectors → Tie P T b i d → Tie P T (fed S b forgot) j e
  forget-does b i j d e down still (inl w) = inl w
  forget-does b i j d e down still (inr t) = inr (subst (StateTie P T (fed S b forgot) j e) (sym down) (go i.state t))
    where
      go : (q : State) → StateTie P T b i d q → DownTie P T (fed S b forgot) e
      go Down t = down-still b (fed S b forgot) d e (ap length still) (ap (system P T) still) refl refl refl refl refl t
      go (Up v) t = goes-down b i d e v t (ap length still) (ap (system P T) still) (fed S b forgot) refl refl refl refl
