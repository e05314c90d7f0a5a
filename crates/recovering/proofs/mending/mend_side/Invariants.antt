use Rattle.std.proofs.Common.{◌≡◌, ℕ, ◌+◌, ◌<◌, false, length, get_or}
use Rattle.disk.specs.WriteLists.{Done}
use Rattle.frames.specs.Frames.{forced_of}
use Rattle.recovering.specs.HomeReads.{is_lost}
use Rattle.thirds.specs.Homes.{mend}
use Rattle.thirds.specs.Words.{Disk}
use Rattle.recovering.proofs.mending.mend_side.Given as goal

abbrev pub invariant-loop-page : goal.invariant-loop-page
invariant-loop-page g l =
    let st = g.D.Disk.state in
    ((σ : Disk) → ((i : ℕ) → i < length l.frames → get_or l.lost i false ≡ is_lost (σ (l.first + i))) → Done (mend σ (forced_of l.frames) l.first l.page) (st l.initial.disk) (st l.disk))
    × (g.D.Disk.layers l.disk ≡ g.D.Disk.layers l.initial.disk)
