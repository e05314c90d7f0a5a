use Rattle.std.proofs.Common.{Ok, Err, refl, ap}
use Rattle.replay.specs.Moves.{TurnDoes}
use Rattle.replay.specs.declared.steps.Outcome.TheVariants.{Done, Refused}
use Rattle.replay.proofs.Moving.{suffered}
use Rattle.replay.proofs.losses.take_turn.Goals as goal

pub returns-in-Ok : goal.returns-in-Ok
returns-in-Ok g c =
    let st = g.D.Disk.state in
    let before = c.args.journal.now in
    let does : TurnDoes c.args.turn.now Done before.inner (st before.disk) before.inner (st c.spoil.new.self) = rw c.in-Spoil.is (refl, (Ok tt, c.in-Ok.ensures.rule, refl)) in
    record { same = c.spoil.ensures.same; does = does; moves = suffered c.args.turn.now Done before.inner before.inner (st before.disk) (st c.spoil.new.self) does }

pub returns-in-Err : goal.returns-in-Err
returns-in-Err g c =
    let st = g.D.Disk.state in
    let before = c.args.journal.now in
    let does : TurnDoes c.args.turn.now (Refused c.from.result) before.inner (st before.disk) before.inner (st c.spoil.new.self) =
    rw c.in-Spoil.is (refl, (Err c.in-Err.fault, c.in-Err.ensures.rule, ap Refused c.from.ensures)) in
    record { same = c.spoil.ensures.same; does = does; moves = suffered c.args.turn.now (Refused c.from.result) before.inner before.inner (st before.disk) (st c.spoil.new.self) does }
