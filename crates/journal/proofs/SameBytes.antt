-- The same bytes, written to one sector after the other.
--     same-more        one sector more
--     same-stopped     the next one was refused
--     same-done        all are done
use Rattle.std.proofs.Common.{◌≡◌, ℕ, ◌+◌, ◌<◌, List, [], length, take, replicate, Ok, Err, sym, refl, ◌∙◌, arith}
use Rattle.std.proofs.lemmas.List.{take_all, length-replicate, get_or-replicate}
use Rattle.disk.specs.Sectors.{DiskState}
use Rattle.disk.specs.Rules.{Writes}
use Rattle.disk.specs.WriteLists.{Done, Stopped, run_of}
use Rattle.disk.specs.declared.faults.Fault.{Fault}
use Rattle.disk.proofs.DoneWrites.{length-run, nth-run, run-more}
use Rattle.forcing.proofs.Wrote.{write-as}

module _ (first n : ℕ) (bytes : List ℕ) where
  length-same : length (replicate n bytes) ≡ n
  length-same = length-replicate n bytes

  pub same-more : (i : ℕ) (d m e : DiskState) → i < n → Done (take i (run_of first (replicate n bytes))) d m → Writes (first + i) bytes m (Ok tt) e
      → Done (take (i + 1) (run_of first (replicate n bytes))) d e
  same-more i d m e h done wrote =
      run-more first (replicate n bytes) i d m e (omega (arith, length-same)) done (write-as _ _ _ _ m e (Ok tt) refl (sym (get_or-replicate n i bytes [] h)) wrote)

  pub same-stopped : (i : ℕ) (d m e : DiskState) (x : Fault) → i < n → Done (take i (run_of first (replicate n bytes))) d m → Writes (first + i) bytes m (Err x) e
      → Stopped (run_of first (replicate n bytes)) d x e
  same-stopped i d m e x h done refused =
      let within : i < length (replicate n bytes) = omega (arith, length-same) in
      let is = nth-run first (replicate n bytes) i within in
      record {
        many = i;
        mid = m;
        within = omega (arith, length-run first (replicate n bytes));
        done = done;
        refused = write-as _ _ _ _ m e (Err x) (sym is.0) (sym (get_or-replicate n i bytes [] h) ∙ sym is.1) refused;
      }

  pub same-done : (d e : DiskState) → Done (take n (run_of first (replicate n bytes))) d e → Done (run_of first (replicate n bytes)) d e
  same-done d e done =
      let all = take_all n (run_of first (replicate n bytes)) (omega (arith, length-run first (replicate n bytes), length-same)) in
      rw all at done
