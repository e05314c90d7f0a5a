-- A trial tells of its renewal: its parts are what the calls after it answered.
use Rattle.std.proofs.Common.{◌≡◌, ℕ, Bool, List, Some, None, Ok, Option, sym, refl, ◌∙◌, lit≤}
use Rattle.disk.specs.Sectors.{DiskState}
use Rattle.failing.specs.declared.manner.Manner.{Manner}
use Rattle.sheet.specs.Twins.{Both, Standing, on-first, Leaves, Fetches}
use Rattle.sheet.specs.Surveys.{Surveys}
use Rattle.sheet.proofs.Standing.{one-standing}
use Rattle.sheet.proofs.TwinCuts.{both-doubled}
use Rattle.boxcheck.specs.Trials.{Tells, Told}
use Rattle.boxcheck.specs.declared.trials.Came.{Came}

-- What is read once more is what was read back.
once-more : (new was back got : List ℕ) (d m : DiskState) (s : ℕ) (cut : Option ℕ) → Leaves 2 4 new d was (Ok cut) m back → Standing 2 4 m s got → got ≡ back
once-more new was back got d m s None left stands = one-standing 2 4 m s 2 got new stands (on-first refl (both-doubled 2 4 (lit≤ tt) new d m left.0).0) ∙ sym left.1
once-more new was back got d m s (Some t) left stands = one-standing 2 4 m s left.2.0 got back stands left.2.1

module _ (old new was back got : List ℕ) (manner : Manner) (d m f e : DiskState) (cut : Option ℕ) where
  pub told : (readable : List Bool) (came : Came) (source : ℕ)
      → Both 2 4 old d
      → Leaves 2 4 new d was (Ok cut) m back
      → Fetches 2 4 m back (Ok source) f got
      → Surveys 1 f (Ok readable) e
      → Tells back old new came
      → Told old new manner (record { cut = cut; manner = manner; readable = readable; came = came; source = source })
  told readable came source both left fetched surveyed tells = record {
    before = d;
    after = m;
    was = was;
    back = back;
    both = both;
    left = left;
    chosen = refl;
    readable = cc;
    came = tells;
    source = rw (once-more new was back got d m source cut left fetched.1) at fetched.1;
  }
