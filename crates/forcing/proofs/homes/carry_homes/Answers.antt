use Rattle.std.proofs.Common.{◌≡◌, ℕ, ◌+◌, ◌<◌, true, false, length, Ok, Err, refl, ◌∙◌, rules, arith}
use Rattle.std.proofs.lemmas.Result.{err_from_is_err_and}
use Rattle.forcing.specs.Force.{third_in}
use Rattle.frames.specs.Frames.{forced_of}
use Rattle.thirds.specs.Homes.{in_third}
use Rattle.forcing.proofs.Wrote.{done-nothing}
use Rattle.forcing.proofs.CarriedHomes.{homes-more, homes-rest, homes-stopped}
use Rattle.forcing.proofs.homes.carry_homes.Goals as goal
use Rattle.forcing.proofs.homes.carry_homes.Goals.{then-eq+in_ok-write_both, else-eq}

pub loop-page-init : goal.loop-page-init
loop-page-init g c = (done-nothing _, refl)

pub returns-in_err-write_both-clause-rule : goal.returns-in_err-write_both-clause-rule
returns-in_err-write_both-clause-rule g c =
    let exit = err_from_is_err_and c.from_residual.result c.from_residual.ensures.1 in
    let frames = c.args.frames.now in
    let page = c.loop-page.page in
    let test = λ (i : ℕ). in_third c.args.third (third_in frames i) in
    let held : test page ≡ true = search rules in
    let within : page < length frames = omega arith in
    rw (exit.1, exit.2)
    (homes-stopped test (forced_of frames) c.args.first c.args.second (page + 1) (length frames) _ _ _ (omega arith)
    (homes-more test (forced_of frames) c.args.first c.args.second page _ _ _ (Err _) held c.loop-page.invariant.0 c.in_err-write_both.ensures.rule))

pub loop-page-preserved : goal.loop-page-preserved
loop-page-preserved g c =
    let st = g.D.Disk.state in
    let frames = c.args.frames.now in
    let page = c.loop-page.page in
    let test = λ (i : ℕ). in_third c.args.third (third_in frames i) in
    elim c.if-eq.branch [
      | then-eq+in_ok-write_both w ↦
          let held : test page ≡ true = search rules in
          let done = homes-more test (forced_of frames) c.args.first c.args.second page _ _ _ (Ok tt) held c.loop-page.invariant.0 w.in_ok-write_both.ensures.rule in
          rw w.disk-is (done, w.in_ok-write_both.ensures.same ∙ c.loop-page.invariant.1)
      | else-eq w ↦
          let held : test page ≡ false = search rules in
          rw (homes-rest test (forced_of frames) c.args.first c.args.second page held, w.disk-is) c.loop-page.invariant
    ]
