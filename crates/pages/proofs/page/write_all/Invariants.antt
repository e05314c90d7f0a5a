use Rattle.std.proofs.Common.{◌≡◌, ◌*◌, length, take}
use Rattle.std.specs.List.{flat_map}
use Rattle.pages.proofs.Places.{put}
use Rattle.pages.proofs.page.write_all.Given as goal

abbrev pub invariant-loop-i : goal.invariant-loop-i
invariant-loop-i g l =
    (l.page ≡ put l.initial.page (flat_map g.R.Stored.bytes (take l.i l.records)))
    × (length (flat_map g.R.Stored.bytes (take l.i l.records)) ≡ l.wide * l.i) × (length l.page ≡ 512)
