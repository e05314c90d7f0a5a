use Rattle.std.proofs.Common.{Ok, Err, refl, ap, ◌∙◌}
use Rattle.std.proofs.lemmas.Result.{err_from_is_err_and}
use Rattle.disk.specs.Sectors.{count}
use Rattle.thirds.specs.Words.{on}
use Rattle.journal.specs.Calls.{not-read, used-up, was-read}
use Rattle.journal.specs.declared.inner.Standing.{Standing}
use Rattle.journal.proofs.recover.recover_down.Goals as goal

pub returns-in_err-seen-clause-rule : goal.returns-in_err-seen-clause-rule
returns-in_err-seen-clause-rule g c =
    let exit = err_from_is_err_and c.from_residual.result c.from_residual.ensures.1 in
    not-read c.in_err-seen.field-0.0 c.read_volume.new.frames c.in_err-seen.ensures.rule (exit.1 ∙ ap Err exit.2) c.requires

pub returns-in_default-clause-rule : goal.returns-in_default-clause-rule
returns-in_default-clause-rule g c = used-up c.in_ok-seen.seen c.read_volume.new.frames c.in_ok-seen.ensures.rule c.in_default.ensures refl c.requires

pub returns-in_err-write_volume-clause-rule : goal.returns-in_err-write_volume-clause-rule
returns-in_err-write_volume-clause-rule g c =
    let residual = c.from_residual-in_err-write_volume in
    let exit = err_from_is_err_and residual.result residual.ensures.1 in
    let d = g.D.Disk.state c.args.disk.now in
    let read = c.in_ok-seen.ensures.rule in
    let next = c.in-Some.ensures in
    let wrote = c.in_err-write_volume.ensures.rule (on d.sectors) (count d) read.2 next.0 in
    was-read c.in_ok-seen.seen c.read_volume.new.frames _ read.2 (Err c.in_err-write_volume.field-0.0) read.0 read.1 c.in_ok-seen.ensures.long next.1 wrote (c.requires, exit.1 ∙ ap Err exit.2)

pub returns-clause-rule : goal.returns-clause-rule
returns-clause-rule g c =
    let d = g.D.Disk.state c.args.disk.now in
    let v = c.in_ok-seen.seen in
    let read = c.in_ok-seen.ensures.rule in
    let next = c.in-Some.ensures in
    let wrote = c.in_ok-write_volume.ensures.rule (on d.sectors) (count d) read.2 next.0 in
    let w : Standing = record { geometry = v.geometry; place = c.fresh.result } in
    was-read v c.read_volume.new.frames _ read.2 (Ok tt) read.0 read.1 c.in_ok-seen.ensures.long next.1 wrote
    (w, refl, refl, rw next.0 at c.fresh.ensures.fresh, c.fresh.ensures.long, c.empty_log.ensures, refl)
