-- The writes of homes, one page at a time.
--     homes-more         a page more that passes the test
--     homes-rest         a page more that does not
--     homes-stopped      a list that was stopped among its first pages was stopped
use Rattle.std.proofs.Common.{◌≡◌, ℕ, zero, suc, ◌+◌, ◌<◌, ◌≤◌, Bool, true, false, [], ◌∷◌, refl, ⊎_elim, add-one, arith}
use Rattle.std.proofs.lemmas.List.{append-nil}
use Rattle.std.proofs.lemmas.Bool.{cases_lt}
use Rattle.disk.specs.Sectors.{DiskState}
use Rattle.disk.specs.Faults.{Answer}
use Rattle.disk.specs.WriteLists.{Done, Stopped, Wrote}
use Rattle.disk.specs.declared.faults.Fault.{Fault}
use Rattle.thirds.specs.Cuts.{write}
use Rattle.thirds.specs.Homes.{both_homes}
use Rattle.thirds.specs.Words.{Images}
use Rattle.forcing.proofs.Wrote.{stopped-early, wrote-append}

module _ (test : ℕ → Bool) (X : Images) (a b : ℕ) where
  pub homes-more : (n : ℕ) (d m e : DiskState) (r : Answer) → test n ≡ true
      → Done (both_homes test X a b n) d m
      → Wrote (write (a + n) (X n) ∷ write (b + n) (X n) ∷ []) m r e
      → Wrote (both_homes test X a b (n + 1)) d r e
  homes-more n d m e r is done wrote = rw (add-one, is) (wrote-append (both_homes test X a b n) _ d m e r done wrote)

  pub homes-rest : (n : ℕ) → test n ≡ false → both_homes test X a b (n + 1) ≡ both_homes test X a b n
  homes-rest n is = rw (add-one, is, append-nil) refl

  pub homes-stopped : (n k : ℕ) (d : DiskState) (x : Fault) (e : DiskState) → n ≤ k → Stopped (both_homes test X a b n) d x e → Stopped (both_homes test X a b k) d x e
  homes-stopped n zero d x e le h = let is : n ≡ 0 = omega arith in rw is at h
  homes-stopped n (suc k) d x e le h =
      ⊎_elim
      (λ (lt : n < suc k). stopped-early (both_homes test X a b k) _ d x e (homes-stopped n k d x e (omega arith) h))
      (λ (ge : suc k ≤ n). let is : n ≡ suc k = omega arith in rw is at h)
      (cases_lt n (suc k))
