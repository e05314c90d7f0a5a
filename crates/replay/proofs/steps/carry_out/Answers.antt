use Rattle.std.proofs.Common.{refl}
use Rattle.replay.specs.Moves.{StepDoes}
use Rattle.replay.specs.declared.steps.Outcome.TheVariants.{Done, Images, Refused}
use Rattle.replay.proofs.Moving.{moved}
use Rattle.replay.proofs.steps.carry_out.Goals as goal

pub returns-in-Change : goal.returns-in-Change
returns-in-Change g c =
    let st = g.D.Disk.state in
    let before = c.args.journal.now in
    let after = c.change.new.self in
    let does : StepDoes c.args.step.now c.done.result before.inner (st before.disk) after.inner (st after.disk) = rw c.in-Change.is (c.change.result, c.change.ensures.rule, c.done.ensures) in
    record { same = c.change.ensures.same; does = does; moves = moved c.args.step.now c.done.result before.inner after.inner (st before.disk) (st after.disk) does }

pub returns-in-Force : goal.returns-in-Force
returns-in-Force g c =
    let st = g.D.Disk.state in
    let before = c.args.journal.now in
    let after = c.force.new.self in
    let does : StepDoes c.args.step.now c.forced.result before.inner (st before.disk) after.inner (st after.disk) = rw c.in-Force.is (c.force.result, c.force.ensures.rule, c.forced.ensures) in
    record { same = c.force.ensures.same; does = does; moves = moved c.args.step.now c.forced.result before.inner after.inner (st before.disk) (st after.disk) does }

pub returns-in-Shut : goal.returns-in-Shut
returns-in-Shut g c =
    let st = g.D.Disk.state in
    let before = c.args.journal.now in
    let after = c.shut.new.self in
    let does : StepDoes c.args.step.now c.done-in-Shut.result before.inner (st before.disk) after.inner (st after.disk) = rw c.in-Shut.is (c.shut.result, c.shut.ensures.rule, c.done-in-Shut.ensures) in
    record { same = c.shut.ensures.same; does = does; moves = moved c.args.step.now c.done-in-Shut.result before.inner after.inner (st before.disk) (st after.disk) does }

pub returns-in-Ok : goal.returns-in-Ok
returns-in-Ok g c =
    let st = g.D.Disk.state in
    let before = c.args.journal.now in
    let after = c.recover.new.self in
    let does : StepDoes c.args.step.now (Images c.images_of.result) before.inner (st before.disk) after.inner (st after.disk) = rw c.in-Recover.is (c.in-Ok.ensures.rule, c.images_of.ensures) in
    record { same = c.recover.ensures.same; does = does; moves = moved c.args.step.now (Images c.images_of.result) before.inner after.inner (st before.disk) (st after.disk) does }

pub returns-in-Err : goal.returns-in-Err
returns-in-Err g c =
    let st = g.D.Disk.state in
    let before = c.args.journal.now in
    let after = c.recover.new.self in
    let does : StepDoes c.args.step.now (Refused c.in-Err.refusal) before.inner (st before.disk) after.inner (st after.disk) = rw c.in-Recover.is c.in-Err.ensures.rule in
    record { same = c.recover.ensures.same; does = does; moves = moved c.args.step.now (Refused c.in-Err.refusal) before.inner after.inner (st before.disk) (st after.disk) does }

pub returns-in-WriteData : goal.returns-in-WriteData
returns-in-WriteData g c =
    let st = g.D.Disk.state in
    let before = c.args.journal.now in
    let after = c.write_data.new.self in
    let does : StepDoes c.args.step.now c.done-in-WriteData.result before.inner (st before.disk) after.inner (st after.disk) = rw c.in-WriteData.is (c.write_data.result, c.write_data.ensures.rule, c.done-in-WriteData.ensures) in
    record { same = c.write_data.ensures.same; does = does; moves = moved c.args.step.now c.done-in-WriteData.result before.inner after.inner (st before.disk) (st after.disk) does }

pub returns-in-Forget : goal.returns-in-Forget
returns-in-Forget g c =
    let st = g.D.Disk.state in
    let before = c.args.journal.now in
    let does : StepDoes c.args.step.now Done before.inner (st before.disk) c.down-journal.result (st before.disk) = rw c.in-Forget.is (refl, c.down-journal.ensures, refl) in
    record { same = refl; does = does; moves = moved c.args.step.now Done before.inner c.down-journal.result (st before.disk) (st before.disk) does }
