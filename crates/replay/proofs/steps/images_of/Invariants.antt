use Rattle.std.proofs.Common.{◌≡◌, ℕ, [], ◌<◌, length, get_or}
use Rattle.frames.specs.Frames.{none_held}
use Rattle.replay.proofs.steps.images_of.Given as goal

abbrev pub invariant-loop-page : goal.invariant-loop-page
invariant-loop-page l = record {
  long : length l.images ≡ 21;
  frames : length l.frames ≡ 21;
  same : (k : ℕ) → k < l.page → get_or l.images k [] ≡ (get_or l.frames k none_held).now;
}
