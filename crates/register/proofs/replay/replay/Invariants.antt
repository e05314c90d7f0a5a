use Rattle.std.proofs.Common.{◌≡◌, [], map, length, take}
use Rattle.register.specs.Images.{entries_of}
use Rattle.register.specs.Changes.{told}
use Rattle.register.proofs.replay.replay.Given as goal

abbrev pub invariant-loop-i : goal.invariant-loop-i
invariant-loop-i g l = record {
  law : entries_of (map g.P.Paged.image l.register.pages.now) ≡ told (take l.i l.changes) [];
  long : length l.register.pages.now ≡ length l.fn.pages;
  named : l.register.pages.ghost_name ≡ l.initial.register.pages.ghost_name;
}
