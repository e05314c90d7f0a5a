-- What a trial of the box check says.
--     Tells        which of two sheets a third is
--     OldOrNew     a trial that was carried out read back the old sheet or the new one
--     Told         a trial tells of one renewal of a disk that held the old sheet twice: its answer, the sectors after it, what was read back and from where
--     Carried      a trial that was carried out tells so
use Rattle.std.specs.Prelude.{◌≡◌, ℕ, List, Ok, Result, ◌≢◌, IfOk}
use Rattle.failing.specs.declared.manner.Manner.{Manner}
use Rattle.disk.specs.Sectors.{DiskState}
use Rattle.sheet.specs.Twins.{Both, Standing, Leaves}
use Rattle.sheet.specs.Surveys.{marks}
use Rattle.boxcheck.specs.declared.trials.Came.{Came}
use Rattle.boxcheck.specs.declared.trials.Came.TheVariants.{Old, New, Other}
use Rattle.boxcheck.specs.declared.trials.Trial.{Trial}

abbrev pub Tells : List ℕ → List ℕ → List ℕ → Came → Type 0
Tells back old new Old = back ≡ old
Tells back old new New = back ≡ new
Tells back old new Other = (back ≢ old) × (back ≢ new)

abbrev pub OldOrNew : {E : Type 0} → Result Trial E → Type 0
OldOrNew result = IfOk result (λ trial. trial.came ≢ Other)

pub record Told (old new : List ℕ) (manner : Manner) (trial : Trial) : Type 0 where
  pub before : DiskState
  pub after : DiskState
  -- what the caller's bytes were, and what was read back
  pub was : List ℕ
  pub back : List ℕ
  pub both : Both 2 4 old before
  pub left : Leaves 2 4 new before was (Ok trial.cut) after back
  pub chosen : trial.manner ≡ manner
  pub readable : trial.readable ≡ marks 1 after.sectors
  pub came : Tells back old new trial.came
  pub source : Standing 2 4 after trial.source back

abbrev pub Carried : {E : Type 0} → List ℕ → List ℕ → Manner → Result Trial E → Type 0
Carried old new manner result = IfOk result (Told old new manner)
