-- What a renewed sheet can be told to be, and the copies as a failing disk shows them.
use Rattle.std.proofs.Common.{◌≡◌, ℕ, Bool, List, Some, None, Ok, Option, ⊎_elim, lit≤}
use Rattle.disk.specs.Sectors.{DiskState}
use Rattle.failing.specs.FailingSound.{cut_off}
use Rattle.sheet.specs.Twins.{Both, Renewed, Leaves}
use Rattle.sheet.proofs.TwinCuts.{both-doubled}
use Rattle.boxcheck.specs.Trials.{Tells}
use Rattle.boxcheck.specs.declared.trials.Came.{Came}
use Rattle.boxcheck.specs.declared.trials.Came.TheVariants.{Old, New, Other}

pub never-other : (back old new : List ℕ) (came : Came) (cut : Option ℕ) → Tells back old new came → Renewed old new (Ok cut) back → came ≡ Other → ⊥
never-other back old new Old cut tells renewed is = cc
never-other back old new New cut tells renewed is = cc
never-other back old new Other None tells renewed is = tells.1 renewed
never-other back old new Other (Some s) tells renewed is = ⊎_elim tells.0 tells.1 renewed

pub both-written : (old was back : List ℕ) (cut : Option ℕ) (d e : DiskState) → cut ≡ None → Leaves 2 4 old d was (Ok cut) e back → Both 2 4 old e
both-written old was back None d e is left = both-doubled 2 4 (lit≤ tt) old d e left.0
both-written old was back (Some s) d e is left = cc

pub both-seen : (old : List ℕ) (off : Bool) (d : DiskState) → Both 2 4 old d → Both 2 4 old (cut_off off d)
both-seen old off d both = (record { exists = both.0.exists; is = both.0.is }, record { exists = both.1.exists; is = both.1.is })
