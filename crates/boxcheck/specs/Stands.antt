-- Which images stand after a recovery, and what that counts as.
--     Stands       which of two versions the images are
--     came_of      the settled images are the old ones, the pending ones the new
--     Due          what stands counts if it is what is to stand, and else as something else
use Rattle.std.specs.Prelude.{◌≡◌, ◌≢◌, ◌⊎◌, ℕ, List}
use Rattle.boxcheck.specs.declared.images.Stood.{Stood}
use Rattle.boxcheck.specs.declared.images.Stood.TheVariants.{Settled, Pending, Other, Refused}
use Rattle.boxcheck.specs.declared.trials.Came.{Came}
use Rattle.boxcheck.specs.declared.trials.Came.TheVariants as came

abbrev pub Stands : List (List ℕ) → List (List ℕ) → List (List ℕ) → Stood → Type 0
Stands images settled pending Settled = images ≡ settled
Stands images settled pending Pending = images ≡ pending
Stands images settled pending Other = (images ≢ settled) × (images ≢ pending)
Stands images settled pending (Refused x) = ⊥

abbrev pub came_of : Stood → Came
came_of Settled = came.Old
came_of Pending = came.New
came_of Other = came.Other
came_of (Refused x) = came.Other

abbrev pub Due : Stood → Stood → Came → Type 0
Due due stood told = ((stood ≡ due) × (told ≡ came_of due)) ⊎ ((stood ≢ due) × (told ≡ came.Other))
