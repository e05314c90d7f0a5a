use Rattle.std.proofs.Common.{◌≡◌}
use Rattle.searching.proofs.Logs.{Begun}
use Rattle.thirds.specs.Words.{on}
use Rattle.searching.proofs.log.read_log.Given as goal

abbrev pub invariant-loop-group : goal.invariant-loop-group
invariant-loop-group g l =
    let st = g.D.Disk.state in
    record {
      state : st l.disk ≡ st l.initial.disk;
      layers : g.D.Disk.layers l.disk ≡ g.D.Disk.layers l.initial.disk;
      begun : Begun l.geometry.pages l.geometry.third l.anchor.third l.anchor.group (on (st l.initial.disk).sectors) l.initial.frames l.third l.place l.group l.frames;
    }
