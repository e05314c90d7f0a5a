use Rattle.std.proofs.Common.{◌≡◌, length, take, drop}
use Rattle.replay.specs.Moves.{StepDoes, Tells}
use Rattle.replay.specs.Replays.{Chain}
use Rattle.replay.proofs.Carried.{Carried}
use Rattle.replay.proofs.replay.replay.Given as goal

abbrev pub invariant-loop-i : goal.invariant-loop-i
invariant-loop-i g l =
    let st = g.D.Disk.state in
    record {
      long : length l.outcomes ≡ length l.initial.outcomes;
      rest : drop l.i l.outcomes ≡ drop l.i l.initial.outcomes;
      same : g.D.Disk.layers l.journal.disk ≡ g.D.Disk.layers l.initial.journal.disk;
      chain : Chain StepDoes (take l.i l.steps) (take l.i l.outcomes) l.initial.journal.inner (st l.initial.journal.disk) l.journal.inner (st l.journal.disk);
      carried : Carried Tells (take l.i l.steps) (take l.i l.outcomes) l.initial.journal.inner (st l.initial.journal.disk) l.journal.inner (st l.journal.disk);
    }
