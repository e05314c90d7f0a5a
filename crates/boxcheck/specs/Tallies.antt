-- Counting the trials by what came back. A count stops at the largest number of 32 bits.
--     more         a count after one trial more
--     added        one trial more
--     all_good     nothing but the two sheets came back
use Rattle.std.specs.Prelude.{ℕ, ◌+◌, min, Bool, ◌==◌}
use Rattle.boxcheck.specs.declared.trials.Came.{Came}
use Rattle.boxcheck.specs.declared.trials.Came.TheVariants.{Old, New, Other}
use Rattle.boxcheck.specs.declared.tally.Tally.{Tally}

abbrev pub more : ℕ → ℕ
more n = min (n + 1) 4294967295

abbrev pub added : Came → Tally → Tally
added Old t = record { old = more t.old; new = t.new; other = t.other }
added New t = record { old = t.old; new = more t.new; other = t.other }
added Other t = record { old = t.old; new = t.new; other = more t.other }

abbrev pub all_good : Tally → Bool
all_good t = t.other == 0
