-- Frames before the log is read: no page has a record.
use Rattle.std.proofs.Common.{◌≡◌, ℕ, zero, suc, List, [], ◌∷◌, map, get_or, None, refl}
use Rattle.frames.specs.Frames.{none_held, unheld}
use Rattle.frames.specs.declared.frame.Frame.{Frame}

pub blank-none : (frames : List Frame) (i : ℕ) → (get_or (map unheld frames) i none_held).third ≡ None
blank-none [] i = refl
blank-none (f ∷ frames) zero = refl
blank-none (f ∷ frames) (suc i) = blank-none frames i
