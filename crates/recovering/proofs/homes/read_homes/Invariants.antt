use Rattle.std.proofs.Common.{◌≡◌}
use Rattle.recovering.proofs.HomesSoFar.{SoFar}
use Rattle.recovering.proofs.homes.read_homes.Given as goal

abbrev pub invariant-loop-page : goal.invariant-loop-page
invariant-loop-page g l =
    let st = g.D.Disk.state in
    (st l.disk ≡ st l.initial.disk) × (g.D.Disk.layers l.disk ≡ g.D.Disk.layers l.initial.disk) × SoFar l.geometry.pages l.geometry.third (st l.initial.disk) l.page l.initial.frames l.frames l.lost
