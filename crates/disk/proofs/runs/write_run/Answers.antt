use Rattle.std.proofs.Common.{◌≡◌, length, Ok, Err, refl, ◌∙◌, arith}
use Rattle.std.proofs.lemmas.Result.{err_from_is_err_and}
use Rattle.disk.specs.WriteLists.{run_of}
use Rattle.disk.proofs.DoneWrites.{done-none, run-more, run-stopped, run-done}
use Rattle.disk.proofs.Survival.{run-survives}
use Rattle.disk.proofs.runs.write_run.Goals as goal

pub loop-i-init : goal.loop-i-init
loop-i-init g c = (done-none (run_of c.args.first c.args.blocks.now) _, refl)

pub loop-i-preserved : goal.loop-i-preserved
loop-i-preserved g c = (
  run-more _ _ _ _ _ _ (omega arith) c.loop-i.invariant.0 c.in_ok-write.ensures.rule,
  c.in_ok-write.ensures.same ∙ c.loop-i.invariant.1,
)

pub returns-in_err-write : goal.returns-in_err-write
returns-in_err-write g c =
    let wrote = c.in_err-write.ensures in
    let rule = run-stopped _ _ _ _ _ _ _ (omega arith) (omega arith) c.loop-i.invariant.0 wrote.rule in
    let exit = err_from_is_err_and c.from_residual.result c.from_residual.ensures.1 in
    rw (exit.1, exit.2) (record { rule = rule; survives = run-survives _ _ (g.D.Disk.state c.args.disk.now) (Err c.in_err-write.field-0.0) (g.D.Disk.state c.write.new.self) rule; same = wrote.same ∙ c.loop-i.invariant.1 })

pub returns : goal.returns
returns g c =
    let all : c.loop-i.i ≡ length c.args.blocks.now = omega arith in
    let rule = run-done _ _ _ _ (omega arith) (rw all at c.loop-i.invariant.0) in
    record { rule = rule; survives = run-survives _ _ (g.D.Disk.state c.args.disk.now) (Ok tt) (g.D.Disk.state c.loop-i.disk) rule; same = c.loop-i.invariant.1 }
