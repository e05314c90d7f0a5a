-- Writes of a list that grows part by part.
--     grown-done         all are done so far
--     grown-stopped      one is stopped in a part
use Rattle.std.proofs.Common.{◌≡◌, ℕ, zero, suc, ◌+◌, ◌<◌, ◌≤◌, List, [], ◌++◌, sym, ap, ◌∙◌, ⊎_elim, add-one, append_assoc, arith}
use Rattle.std.proofs.lemmas.Bool.{cases_lt}
use Rattle.std.proofs.lemmas.List.{append-nil}
use Rattle.disk.specs.Sectors.{DiskState}
use Rattle.disk.specs.WriteLists.{Write, Done, Stopped}
use Rattle.disk.specs.declared.faults.Fault.{Fault}
use Rattle.forcing.proofs.Wrote.{done-append, stopped-early, stopped-late}

-- G n is what the first n parts write, S n the part after them.
module _ (G S : ℕ → List Write) (step : (n : ℕ) → G (suc n) ≡ G n ++ S n) where
  front : (k n : ℕ) → k ≤ n → (rest : List Write) × (G n ≡ G k ++ rest)
  front k zero l = let z : k ≡ 0 = omega arith in ([], rw z (sym (append-nil (G 0))))
  front k (suc n) l = ⊎_elim
      (λ (m : k < suc n).
      let h = front k n (omega arith) in
      (h.0 ++ S n, step n ∙ ap (λ (ws : List Write). ws ++ S n) h.1 ∙ append_assoc (G k) h.0 (S n)))
      (λ (m : suc n ≤ k). let z : k ≡ suc n = omega arith in ([], rw z (sym (append-nil (G (suc n))))))
      (cases_lt k (suc n))

  pub grown-done : (k : ℕ) (d m e : DiskState) → Done (G k) d m → Done (S k) m e → Done (G (k + 1)) d e
  grown-done k d m e a b = let is : k + 1 ≡ suc k = add-one k in rw (is, step k) (done-append (G k) (S k) d m e a b)

  pub grown-stopped : (k n : ℕ) (d m : DiskState) (x : Fault) (e : DiskState) → k < n → Done (G k) d m → Stopped (S k) m x e → Stopped (G n) d x e
  grown-stopped k n d m x e l a b =
      let h = front (suc k) n (omega arith) in
      rw (h.1, step k) (stopped-early (G k ++ S k) h.0 d x e (stopped-late (G k) (S k) d m x e a b))
