use Rattle.std.proofs.Common.{◌≡◌, ◌+◌, length, take}
use Rattle.disk.specs.WriteLists.{Done}
use Rattle.frames.specs.Frames.{changed_pages}
use Rattle.thirds.specs.Records.{pages_at}
use Rattle.forcing.proofs.record.write_changed.Given as goal

abbrev pub invariant-loop-frame : goal.invariant-loop-frame
invariant-loop-frame g l =
    let st = g.D.Disk.state in
    let seen = changed_pages (take l.frame-index l.frames) in
    (l.sector ≡ l.first + length seen) × Done (pages_at l.first seen) (st l.initial.disk) (st l.disk) × (g.D.Disk.layers l.disk ≡ g.D.Disk.layers l.initial.disk)
