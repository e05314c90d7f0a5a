-- What book, memory and disk have to do with each other all along a run.
--     Shown             a list of images is that of the pages
--     UpTo              a disk as an up volume has it, whose next group number is at most this one
--     Less              a disk less one sector
--     Lasts             what is left of a volume that is down, by what may have been lost
--     DownTie           its images are those that are settled, or those that were to be
--     UpTie             the disk is that of the records that memory knows, and the book tells of the same images
--     Tie               one or the other, unless too much was lost
--     lasting           what lasts can be recovered
--     again             another book may tell of the same
--     rests             nothing has changed
--     at-work-lasts     and has lost nothing once a recovery was called
use Rattle.std.proofs.Common.{false, ◌≡◌, ℕ, ◌+◌, ◌<◌, ◌≤◌, ◌⊎◌, true, List, [], length, get_or, take, Some, sym, refl, ap, ◌∙◌, subst, inl, inr, arith}
use Rattle.disk.specs.Sectors.{unreadable, DiskState, count}
use Rattle.geometry.specs.declared.third.Third.{Third}
use Rattle.frames.specs.Frames.{now_of}
use Rattle.journal.specs.Books.{Book, Wear, working, whole, one-lost, two-lost, ruined, at_work}
use Rattle.journal.specs.Calls.{Rest}
use Rattle.journal.specs.Ties.{Tied}
use Rattle.journal.specs.declared.inner.Inner.{Inner}
use Rattle.journal.specs.declared.inner.Standing.{Standing}
use Rattle.journal.specs.declared.inner.State.{State}
use Rattle.journal.specs.declared.inner.State.TheVariants.{Down, Up}
use Rattle.thirds.proofs.SameVolume.{wider-down}
use Rattle.thirds.proofs.Worn.{spoil-leaves}
use Rattle.thirds.specs.Cuts.{Worn}
use Rattle.thirds.specs.Disks.{system}
use Rattle.thirds.specs.Records.{Rec}
use Rattle.thirds.specs.Volumes as volume
use Rattle.thirds.specs.Volumes.{Span, just}
use Rattle.thirds.specs.Words.{Disk, Images}

module _ (P T : ℕ) where
  abbrev pub Shown : List (List ℕ) → Images → Type 0
  Shown xs X = (length xs ≡ P) × ((i : ℕ) → i < P → get_or xs i [] ≡ X i)

  abbrev pub UpTo : ℕ → ℕ → Images → Disk → Type 0
  UpTo N c W σ = (f : Third) × (m : ℕ) × (rs : List Rec) × volume.Up P T N W f m rs σ × (m + length rs ≤ c)

  abbrev pub Less : ℕ → Disk → Disk → Type 0
  Less s σ τ = (u : ℕ) → (τ u ≡ σ u) ⊎ ((τ u ≡ unreadable) × (u ≡ s))

  abbrev pub upto : ℕ → Span
  upto c = record { least = 0; greatest = c }

  abbrev pub Lasts : Wear → ℕ → ℕ → Images → Disk → Type 0
  Lasts working N c W τ = volume.Down P T N W (upto c) τ
  Lasts whole N c W τ = UpTo N c W τ
  Lasts (one-lost s) N c W τ = (σ : Disk) × UpTo N c W σ × Less s σ τ
  Lasts (two-lost s) N c W τ = (σ : Disk) × UpTo N c W σ × Worn s σ τ
  Lasts ruined N c W τ = Unit {0}

  pub record DownTie (b : Book) (d : DiskState) : Type 0 where
    pub images : Images
    pub owed : Shown b.settled images ⊎ ((xs : List (List ℕ)) × (b.pending ≡ Some xs) × Shown xs images)
    pub lasts : Lasts b.wear (count d) (b.calls + 1) images (system P T d.sectors)
    pub told : b.up ≡ false

  pub record UpTie (b : Book) (i : Inner) (d : DiskState) (v : Standing) : Type 0 where
    pub pages : v.geometry.pages ≡ P
    pub third : v.geometry.third ≡ T
    pub images : Images
    pub anchored : Third
    pub number : ℕ
    pub records : List Rec
    pub power : d.power ≡ true
    pub up : volume.Up P T (count d) images anchored number records (system P T d.sectors)
    pub tied : Tied P T images anchored number records v.place (take P i.frames)
    pub settled : Shown b.settled images
    pub current : Shown b.current (now_of (take P i.frames))
    pub told : b.up ≡ true
    pub wear : b.wear ≡ working
    pub bound : v.place.next ≤ b.calls + 1

  abbrev pub StateTie : Book → Inner → DiskState → State → Type 0
  StateTie b i d Down = DownTie b d
  StateTie b i d (Up v) = UpTie b i d v

  abbrev pub Tie : Book → Inner → DiskState → Type 0
  Tie b i d = (b.wear ≡ ruined) ⊎ StateTie b i d i.state

  upto-down : (N c t : ℕ) (W : Images) (σ τ : Disk) → UpTo N c W σ → Worn t σ τ → volume.Down P T N W (upto c) τ
  upto-down N c t W σ τ (f, m, rs, u, l) w = wider-down P T N W (just (m + length rs)) (upto c) τ (omega arith, l) (spoil-leaves P T N t W f m rs σ τ u w)

  pub lasting : (w : Wear) (N c : ℕ) (W : Images) (τ : Disk) → (w ≡ ruined → ⊥) → Lasts w N c W τ → volume.Down P T N W (upto c) τ
  lasting working N c W τ ok l = l
  lasting whole N c W τ ok l = upto-down N c 0 W τ τ l (λ u. inl refl)
  lasting (one-lost s) N c W τ ok (σ, u, less) = upto-down N c s W σ τ u (λ v. elim (less v) [ inl e ↦ inl e | inr (a, b) ↦ inr (a, omega (arith, b), omega (arith, b)) ])
  lasting (two-lost s) N c W τ ok (σ, u, worn) = upto-down N c s W σ τ u worn
  lasting ruined N c W τ ok l = absurd (ok refl)

  pub at-work-lasts : (w : Wear) (N c : ℕ) (W : Images) (τ : Disk) → (w ≡ ruined → ⊥) → volume.Down P T N W (upto c) τ → Lasts (at_work w) N c W τ
  at-work-lasts working N c W τ ok l = l
  at-work-lasts whole N c W τ ok l = l
  at-work-lasts (one-lost s) N c W τ ok l = l
  at-work-lasts (two-lost s) N c W τ ok l = l
  at-work-lasts ruined N c W τ ok l = tt

  -- whether too much was lost
  pub ruin-cases : (w : Wear) → (w ≡ ruined) ⊎ (w ≡ ruined → ⊥)
  ruin-cases working = inr (λ e. let z : ◌≡◌ {A = ℕ} 0 1 = cc in omega arith)
  ruin-cases whole = inr (λ e. let z : ◌≡◌ {A = ℕ} 0 1 = cc in omega arith)
  ruin-cases (one-lost s) = inr (λ e. let z : ◌≡◌ {A = ℕ} 0 1 = cc in omega arith)
  ruin-cases (two-lost s) = inr (λ e. let z : ◌≡◌ {A = ℕ} 0 1 = cc in omega arith)
  ruin-cases ruined = inl refl

  -- another book that tells of the same
  pub again : (b c : Book) (i : Inner) (d : DiskState) (v : Standing) → c.settled ≡ b.settled → c.current ≡ b.current → c.up ≡ b.up → c.wear ≡ b.wear → b.calls ≤ c.calls → UpTie b i d v → UpTie c i d v
  again b c i d v s k u w l t = record {
    pages = t.pages;
    third = t.third;
    images = t.images;
    anchored = t.anchored;
    number = t.number;
    records = t.records;
    power = t.power;
    up = t.up;
    tied = t.tied;
    settled = subst (λ (xs : List (List ℕ)). Shown xs t.images) (sym s) t.settled;
    current = subst (λ (xs : List (List ℕ)). Shown xs (now_of (take P i.frames))) (sym k) t.current;
    told = u ∙ t.told;
    wear = w ∙ t.wear;
    bound = omega (arith, t.bound);
  }

  -- memory and disk as before
  pub rests : (b : Book) (i j : Inner) (d e : DiskState) (v : Standing) → i.state ≡ Up v → Rest i d j e → UpTie b i d v → Tie b j e
  rests b i j d e v is (same, still) t =
      inr (subst (StateTie b j e) (sym (ap (λ (x : Inner). x.state) same ∙ is)) (subst (λ (x : DiskState). UpTie b j x v) (sym still) (subst (λ (x : Inner). UpTie b x d v) (sym same) t)))
