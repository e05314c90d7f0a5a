use Rattle.std.proofs.Common.{◌≡◌, ℕ, ◌<◌, List, length, get_or}
use Rattle.disk.specs.WriteLists.{Done}
use Rattle.frames.specs.Frames.{forced_of, none_held}
use Rattle.thirds.specs.Homes.{redo, holder}
use Rattle.thirds.specs.Records.{Rec}
use Rattle.recovering.proofs.redoing.redo_homes.Given as goal

abbrev pub invariant-loop-page : goal.invariant-loop-page
invariant-loop-page g l =
    let st = g.D.Disk.state in
    ((log : List Rec) → ((i : ℕ) → i < length l.frames → (get_or l.frames i none_held).third ≡ holder log i) → Done (redo log (forced_of l.frames) l.first l.second l.page) (st l.initial.disk) (st l.disk))
    × (g.D.Disk.layers l.disk ≡ g.D.Disk.layers l.initial.disk)
