use Rattle.std.proofs.Common.{◌+◌, ◌≤◌, length, Ok, Err, arith}
use Rattle.std.proofs.lemmas.Result.{err_from_is_err_and}
use Rattle.disk.specs.Sectors.{count}
use Rattle.disk.specs.WriteLists.{Done, run_of}
use Rattle.forcing.proofs.Wrote.{stopped-early, wrote-append}
use Rattle.geometry.specs.Places.{first_homes, second_homes}
use Rattle.geometry.specs.declared.third.Third.TheVariants.{Zero}
use Rattle.thirds.specs.Recovery.{both_anchors}
use Rattle.journal.specs.Formats.{zero_writes}
use Rattle.journal.proofs.FormatParts.{same-count, run-wrote}
use Rattle.journal.proofs.format.write_volume.Goals as goal

pub returns-in_err-write_zeros-clause-rule : goal.returns-in_err-write_zeros-clause-rule
returns-in_err-write_zeros-clause-rule g c =
    let exit = err_from_is_err_and c.from_residual.result c.from_residual.ensures.1 in
    rw (exit.1, exit.2) (stopped-early (zero_writes c.args.geometry.now.third) _ _ _ _ c.in_err-write_zeros.ensures.rule)

pub returns-in_err-write_run-clause-rule : goal.returns-in_err-write_run-clause-rule
returns-in_err-write_run-clause-rule g c =
    let residual = c.from_residual-in_err-write_run in
    let exit = err_from_is_err_and residual.result residual.ensures.1 in
    let st = g.D.Disk.state in
    let P = c.args.geometry.now.pages in
    let T = c.args.geometry.now.third in
    let images = c.args.images.now in
    let zeros = c.in_ok-write_zeros.ensures.rule in
    let fits : first_homes T + length images ≤ count (st c.write_zeros.new.disk) = omega (arith, same-count (zero_writes T) _ _ zeros) in
    rw (exit.1, exit.2)
    (wrote-append (zero_writes T) _ _ _ _ (Err _) zeros
    (stopped-early (run_of (first_homes T) images) _ _ _ _ (run-wrote _ _ images _ (Err _) _ c.first_homes.ensures fits c.in_err-write_run.ensures.rule)))

pub returns-in_err-write_run-2-clause-rule : goal.returns-in_err-write_run-2-clause-rule
returns-in_err-write_run-2-clause-rule g c =
    let residual = c.from_residual-in_err-write_run-2 in
    let exit = err_from_is_err_and residual.result residual.ensures.1 in
    let st = g.D.Disk.state in
    let P = c.args.geometry.now.pages in
    let T = c.args.geometry.now.third in
    let images = c.args.images.now in
    let zeros = c.in_ok-write_zeros.ensures.rule in
    let fits : first_homes T + length images ≤ count (st c.write_zeros.new.disk) = omega (arith, same-count (zero_writes T) _ _ zeros) in
    let firsts : Done (run_of (first_homes T) images) (st c.write_zeros.new.disk) (st c.write_run.new.disk) = run-wrote _ _ images _ (Ok tt) _ c.first_homes.ensures fits c.in_ok-write_run.ensures.rule in
    let again : second_homes P T + length images ≤ count (st c.write_run.new.disk) = omega (arith, same-count (zero_writes T) _ _ zeros, same-count (run_of (first_homes T) images) _ _ firsts) in
    rw (exit.1, exit.2)
    (wrote-append (zero_writes T) _ _ _ _ (Err _) zeros
    (wrote-append (run_of (first_homes T) images) _ _ _ _ (Err _) firsts
    (stopped-early (run_of (second_homes P T) images) _ _ _ _ (run-wrote _ _ images _ (Err _) _ c.second_homes.ensures again c.in_err-write_run-2.ensures.rule))))

pub returns-in_err-write_anchors-clause-rule : goal.returns-in_err-write_anchors-clause-rule
returns-in_err-write_anchors-clause-rule g c =
    let residual = c.from_residual-in_err-write_anchors in
    let exit = err_from_is_err_and residual.result residual.ensures.1 in
    let st = g.D.Disk.state in
    let P = c.args.geometry.now.pages in
    let T = c.args.geometry.now.third in
    let images = c.args.images.now in
    let zeros = c.in_ok-write_zeros.ensures.rule in
    let fits : first_homes T + length images ≤ count (st c.write_zeros.new.disk) = omega (arith, same-count (zero_writes T) _ _ zeros) in
    let firsts : Done (run_of (first_homes T) images) (st c.write_zeros.new.disk) (st c.write_run.new.disk) = run-wrote _ _ images _ (Ok tt) _ c.first_homes.ensures fits c.in_ok-write_run.ensures.rule in
    let again : second_homes P T + length images ≤ count (st c.write_run.new.disk) = omega (arith, same-count (zero_writes T) _ _ zeros, same-count (run_of (first_homes T) images) _ _ firsts) in
    let seconds : Done (run_of (second_homes P T) images) (st c.write_run.new.disk) (st c.write_run-2.new.disk) = run-wrote _ _ images _ (Ok tt) _ c.second_homes.ensures again c.in_ok-write_run-2.ensures.rule in
    rw (exit.1, exit.2)
    (wrote-append (zero_writes T) _ _ _ _ (Err _) zeros
    (wrote-append (run_of (first_homes T) images) _ _ _ _ (Err _) firsts
    (wrote-append (run_of (second_homes P T) images) _ _ _ _ (Err _) seconds (stopped-early (both_anchors Zero 1) _ _ _ _ c.in_err-write_anchors.ensures.rule))))

pub returns-clause-rule : goal.returns-clause-rule
returns-clause-rule g c =
    let st = g.D.Disk.state in
    let P = c.args.geometry.now.pages in
    let T = c.args.geometry.now.third in
    let images = c.args.images.now in
    let zeros = c.in_ok-write_zeros.ensures.rule in
    let fits : first_homes T + length images ≤ count (st c.write_zeros.new.disk) = omega (arith, same-count (zero_writes T) _ _ zeros) in
    let firsts : Done (run_of (first_homes T) images) (st c.write_zeros.new.disk) (st c.write_run.new.disk) = run-wrote _ _ images _ (Ok tt) _ c.first_homes.ensures fits c.in_ok-write_run.ensures.rule in
    let again : second_homes P T + length images ≤ count (st c.write_run.new.disk) = omega (arith, same-count (zero_writes T) _ _ zeros, same-count (run_of (first_homes T) images) _ _ firsts) in
    let seconds : Done (run_of (second_homes P T) images) (st c.write_run.new.disk) (st c.write_run-2.new.disk) = run-wrote _ _ images _ (Ok tt) _ c.second_homes.ensures again c.in_ok-write_run-2.ensures.rule in
    wrote-append (zero_writes T) _ _ _ _ _ zeros
    (wrote-append (run_of (first_homes T) images) _ _ _ _ _ firsts
    (wrote-append (run_of (second_homes P T) images) _ _ _ _ _ seconds (wrote-append (both_anchors Zero 1) _ _ _ _ _ c.in_ok-write_anchors.ensures.rule c.write_headers.ensures.rule)))
