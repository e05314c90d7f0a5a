use Rattle.std.proofs.Common.{◌≡◌}
use Rattle.disk.specs.WriteLists.{Done}
use Rattle.forcing.specs.Force.{third_in}
use Rattle.frames.specs.Frames.{forced_of}
use Rattle.thirds.specs.Homes.{both_homes, in_third}
use Rattle.forcing.proofs.homes.carry_homes.Given as goal

abbrev pub invariant-loop-page : goal.invariant-loop-page
invariant-loop-page g l =
    let st = g.D.Disk.state in
    Done (both_homes (λ i. in_third l.third (third_in l.frames i)) (forced_of l.frames) l.first l.second l.page) (st l.initial.disk) (st l.disk) × (g.D.Disk.layers l.disk ≡ g.D.Disk.layers l.initial.disk)
