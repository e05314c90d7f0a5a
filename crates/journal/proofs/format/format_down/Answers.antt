use Rattle.std.proofs.Common.{◌^◌, ◌<◌, Ok, Err, refl, ap, ◌∙◌, arith}
use Rattle.std.proofs.lemmas.Result.{err_from_is_err_and}
use Rattle.disk.specs.Sectors.{count}
use Rattle.journal.specs.Formats.{FormatGood, not-started, good-numbers}
use Rattle.journal.proofs.format.format_down.Goals as goal

pub returns-in_err-start-clause-rule : goal.returns-in_err-start-clause-rule
returns-in_err-start-clause-rule g c =
    let residual = c.from_residual-in_err-start in
    let exit = err_from_is_err_and residual.result residual.ensures.1 in
    let good : FormatGood c.args.third c.args.images.now (count (g.D.Disk.state c.args.disk.now)) = rw c.count.ensures at c.in_ok-geometry.ensures.0 in
    not-started good c.in_err-start.field-0.0 c.in_err-start.ensures.rule (exit.1 ∙ ap Err exit.2)

pub returns-in_err-write_volume-clause-rule : goal.returns-in_err-write_volume-clause-rule
returns-in_err-write_volume-clause-rule g c =
    let residual = c.from_residual-in_err-write_volume in
    let exit = err_from_is_err_and residual.result residual.ensures.1 in
    let is = c.in_ok-geometry.ensures in
    let good : FormatGood c.args.third c.args.images.now (count (g.D.Disk.state c.args.disk.now)) = rw c.count.ensures at is.0 in
    let few : count (g.D.Disk.state c.args.disk.now) < 2 ^ 32 = omega (arith, c.count.ensures) in
    let wrote = rw (is.1, is.2, is.3, c.count.ensures) at c.in_err-write_volume.ensures.rule in
    good-numbers good few _ c.in_ok-start.ensures.rule (Err c.in_err-write_volume.field-0.0) wrote (exit.1 ∙ ap Err exit.2)

pub returns-clause-rule : goal.returns-clause-rule
returns-clause-rule g c =
    let is = c.in_ok-geometry.ensures in
    let good : FormatGood c.args.third c.args.images.now (count (g.D.Disk.state c.args.disk.now)) = rw c.count.ensures at is.0 in
    let few : count (g.D.Disk.state c.args.disk.now) < 2 ^ 32 = omega (arith, c.count.ensures) in
    good-numbers good few _ c.in_ok-start.ensures.rule (Ok tt) (rw (is.1, is.2, is.3, c.count.ensures) at c.in_ok-write_volume.ensures.rule) refl
