use Rattle.std.proofs.lemmas.Result.{err_from_is_err_and}
use Rattle.forcing.specs.Force.{carried}
use Rattle.geometry.specs.Places.{first_homes, second_homes}
use Rattle.forcing.proofs.Wrote.{stopped-early, wrote-append}
use Rattle.forcing.proofs.force.give_up.Goals as goal

pub returns-in_err-carry_homes-clause-rule : goal.returns-in_err-carry_homes-clause-rule
returns-in_err-carry_homes-clause-rule g c =
    let exit = err_from_is_err_and c.from_residual.result c.from_residual.ensures.1 in
    let homes = carried c.args.log.now.anchored c.args.frames.now (first_homes c.args.geometry.now.third) (second_homes c.args.geometry.now.pages c.args.geometry.now.third) in
    rw (exit.1, exit.2) (stopped-early homes _ _ _ _ (rw (c.first_homes.ensures, c.second_homes.ensures) at c.in_err-carry_homes.ensures.rule))

pub returns-clause-rule : goal.returns-clause-rule
returns-clause-rule g c =
    let homes = carried c.args.log.now.anchored c.args.frames.now (first_homes c.args.geometry.now.third) (second_homes c.args.geometry.now.pages c.args.geometry.now.third) in
    wrote-append homes _ _ _ _ _
    (rw (c.first_homes.ensures, c.second_homes.ensures) at c.in_ok-carry_homes.ensures.rule)
    (rw (c.first_in.ensures, c.next-third.ensures) at c.write_anchors.ensures.rule)
