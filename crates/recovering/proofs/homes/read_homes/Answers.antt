use Rattle.std.proofs.Common.{◌∙◌, arith}
use Rattle.std.proofs.lemmas.List.{length-set}
use Rattle.std.proofs.lemmas.Result.{err_from_is_err_and}
use Rattle.recovering.proofs.HomesSoFar.{so-far-more, read-off}
use Rattle.recovering.proofs.homes.read_homes.Goals as goal

pub returns-in_err-first_lost-clause-rule : goal.returns-in_err-first_lost-clause-rule
returns-in_err-first_lost-clause-rule g c =
    let exit = err_from_is_err_and c.from_residual.result c.from_residual.ensures.1 in
    let read = rw (c.first_homes-first.ensures, c.second_homes-second.ensures, c.loop-page.invariant.0) at c.in_err-first_lost.ensures.rule in
    rw (exit.1, exit.2)
    (read-off _ _ _ c.loop-page.page _ _ _ _ (omega arith) (length-set c.loop-page.frames c.loop-page.page c.read_page.new.frame ∙ c.loop-page.invariant.2.long) read)

pub loop-page-preserved : goal.loop-page-preserved
loop-page-preserved g c =
    let far = c.loop-page.invariant in
    let read = rw (c.in-Some.is, c.first_homes-first.ensures, c.second_homes-second.ensures, far.0) at c.in_ok-first_lost.ensures.rule in (
      read.0,
      c.in_ok-first_lost.ensures.same ∙ far.1,
      so-far-more _ _ _ c.loop-page.page _ _ _ far.2 _ _ _ (omega (arith, far.2.long)) (omega (arith, far.2.long, c.args.geometry.now.good.1)) read.1 read.2 read.3,
    )
