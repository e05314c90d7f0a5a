-- Homes written one page after the other.
--     mend-stopped, mend-done, mend-passed                                 of the homes of one side that are lost
--     redo-first-stopped, redo-second-stopped, redo-done, redo-passed      of both homes of each page with a record
use Rattle.std.proofs.Common.{◌≡◌, ℕ, ◌+◌, ◌<◌, Bool, true, false, cond, List, [], ◌∷◌, Option, Ok, Err, sym, refl, ap, ◌∙◌, subst}
use Rattle.disk.specs.Rules.{Writes}
use Rattle.disk.specs.Sectors.{DiskState}
use Rattle.disk.specs.WriteLists.{Write, Done, Stopped}
use Rattle.disk.specs.declared.faults.Fault.{Fault}
use Rattle.geometry.specs.declared.third.Third.{Third}
use Rattle.thirds.specs.Cuts.{write}
use Rattle.thirds.specs.Homes.{newest, holder, has, lost, mend, redo}
use Rattle.thirds.specs.Records.{Rec}
use Rattle.thirds.specs.Words.{Disk, Images}
use Rattle.recovering.specs.HomeReads.{is_lost}
use Rattle.recovering.proofs.Held.{some_third, newest-held, lost-written, kept-unwritten}
use Rattle.forcing.proofs.Wrote.{done-nothing, done-append, stopped-late, stopped-early, wrote-one}
use Rattle.recovering.proofs.Grown.{grown-done, grown-stopped}

module _ (σ : Disk) (X : Images) (base : ℕ) where
  abbrev part : ℕ → List Write
  part n = lost (σ (base + n)) (base + n) (X n)

  pub mend-stopped : (k n : ℕ) (d m : DiskState) (x : Fault) (e : DiskState) → k < n → is_lost (σ (base + k)) ≡ true → Done (mend σ X base k) d m → Writes (base + k) (X k) m (Err x) e
      → Stopped (mend σ X base n) d x e
  mend-stopped k n d m x e l h a w =
      grown-stopped (mend σ X base) part (λ i. refl) k n d m x e l a
      (subst (λ (ws : List Write). Stopped ws m x e) (sym (lost-written (σ (base + k)) (base + k) (X k) h)) (wrote-one (base + k) (X k) m e (Err x) w))

  pub mend-done : (k : ℕ) (d m e : DiskState) → is_lost (σ (base + k)) ≡ true → Done (mend σ X base k) d m → Writes (base + k) (X k) m (Ok tt) e → Done (mend σ X base (k + 1)) d e
  mend-done k d m e h a w =
      grown-done (mend σ X base) part (λ i. refl) k d m e a
      (subst (λ (ws : List Write). Done ws m e) (sym (lost-written (σ (base + k)) (base + k) (X k) h)) (wrote-one (base + k) (X k) m e (Ok tt) w))

  pub mend-passed : (k : ℕ) (d m : DiskState) → is_lost (σ (base + k)) ≡ false → Done (mend σ X base k) d m → Done (mend σ X base (k + 1)) d m
  mend-passed k d m h a =
      grown-done (mend σ X base) part (λ i. refl) k d m m a
      (subst (λ (ws : List Write). Done ws m m) (sym (kept-unwritten (σ (base + k)) (base + k) (X k) h)) (done-nothing m))

module _ (log : List Rec) (X : Images) (a b : ℕ) where
  abbrev two : ℕ → List Write
  two n = write (a + n) (X n) ∷ write (b + n) (X n) ∷ []

  abbrev pair : ℕ → List Write
  pair n = cond (has (newest log n)) (two n) []

  pair-is : (k : ℕ) (third : Option Third) (t : Bool) → third ≡ holder log k → some_third third ≡ t → pair k ≡ cond t (two k) []
  pair-is k third t same is = ap (λ (z : Bool). cond z (two k) []) (newest-held log k ∙ ap some_third (sym same) ∙ is)

  pub redo-first-stopped : (k n : ℕ) (third : Option Third) (d m : DiskState) (x : Fault) (e : DiskState) → k < n → third ≡ holder log k → some_third third ≡ true
      → Done (redo log X a b k) d m → Writes (a + k) (X k) m (Err x) e
      → Stopped (redo log X a b n) d x e
  redo-first-stopped k n third d m x e l same is done w =
      grown-stopped (redo log X a b) pair (λ i. refl) k n d m x e l done
      (subst (λ (ws : List Write). Stopped ws m x e) (sym (pair-is k third true same is))
      (stopped-early (write (a + k) (X k) ∷ []) (write (b + k) (X k) ∷ []) m x e (wrote-one (a + k) (X k) m e (Err x) w)))

  pub redo-second-stopped : (k n : ℕ) (third : Option Third) (d m f : DiskState) (x : Fault) (e : DiskState) → k < n → third ≡ holder log k → some_third third ≡ true
      → Done (redo log X a b k) d m → Writes (a + k) (X k) m (Ok tt) f → Writes (b + k) (X k) f (Err x) e
      → Stopped (redo log X a b n) d x e
  redo-second-stopped k n third d m f x e l same is done v w =
      grown-stopped (redo log X a b) pair (λ i. refl) k n d m x e l done
      (subst (λ (ws : List Write). Stopped ws m x e) (sym (pair-is k third true same is))
      (stopped-late (write (a + k) (X k) ∷ []) (write (b + k) (X k) ∷ []) m f x e (wrote-one (a + k) (X k) m f (Ok tt) v) (wrote-one (b + k) (X k) f e (Err x) w)))

  pub redo-done : (k : ℕ) (third : Option Third) (d m f e : DiskState) → third ≡ holder log k → some_third third ≡ true
      → Done (redo log X a b k) d m → Writes (a + k) (X k) m (Ok tt) f → Writes (b + k) (X k) f (Ok tt) e
      → Done (redo log X a b (k + 1)) d e
  redo-done k third d m f e same is done v w =
      grown-done (redo log X a b) pair (λ i. refl) k d m e done
      (subst (λ (ws : List Write). Done ws m e) (sym (pair-is k third true same is))
      (done-append (write (a + k) (X k) ∷ []) (write (b + k) (X k) ∷ []) m f e (wrote-one (a + k) (X k) m f (Ok tt) v) (wrote-one (b + k) (X k) f e (Ok tt) w)))

  pub redo-passed : (k : ℕ) (third : Option Third) (d m : DiskState) → third ≡ holder log k → some_third third ≡ false → Done (redo log X a b k) d m → Done (redo log X a b (k + 1)) d m
  redo-passed k third d m same is done =
      grown-done (redo log X a b) pair (λ i. refl) k d m m done (subst (λ (ws : List Write). Done ws m m) (sym (pair-is k third false same is)) (done-nothing m))
