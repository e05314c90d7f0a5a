use Rattle.std.proofs.Common.{◌≡◌, length, ap, ◌∙◌, arith}
use Rattle.std.proofs.lemmas.List.{length-take}
use Rattle.frames.specs.declared.frame.Frame.{Frame}
use Rattle.std.proofs.lemmas.Result.{err_from_is_err_and}
use Rattle.disk.specs.Sectors.{DiskState}
use Rattle.recovering.proofs.TwoCopies.{headers-good}
use Rattle.recovering.proofs.VolumeReads.{volume-off, volume-lacks, volume-refused, volume-seen}
use Rattle.recovering.proofs.volume.read_volume.Goals as goal

pub returns-in_err-geometry-clause-rule : goal.returns-in_err-geometry-clause-rule
returns-in_err-geometry-clause-rule g c =
    let header = rw c.in-Some.is at c.in_ok-header.ensures.rule in
    let good = headers-good _ _ _ _ _ header.2 in
    absurd (c.in_err-geometry.ensures.made.1 (rw (c.from.ensures, c.from-2.ensures) good))

pub returns-in_err-anchor-clause-rule : goal.returns-in_err-anchor-clause-rule
returns-in_err-anchor-clause-rule g c =
    let st = g.D.Disk.state in
    let start = c.in_ok-start.ensures.rule in
    let header = rw c.in-Some.is at c.in_ok-header.ensures.rule in
    let exit = err_from_is_err_and c.from_residual-in_err-anchor.result c.from_residual-in_err-anchor.ensures.1 in
    rw (exit.1, exit.2) (volume-off (st c.args.disk.now) (st c.start.new.self) start.0 start.1 4 6 _ _ _ (omega arith) (rw header.0 at (c.in_err-anchor.ensures.rule 0)))

pub returns-in_default-2-clause-rule : goal.returns-in_default-2-clause-rule
returns-in_default-2-clause-rule g c =
    let st = g.D.Disk.state in
    let start = c.in_ok-start.ensures.rule in
    let header = rw c.in-Some.is at c.in_ok-header.ensures.rule in
    let made = c.in_ok-geometry.ensures.made in
    let anchor = rw (c.in_default-2.is, header.0) at (c.in_ok-anchor.ensures.rule c.in_ok-geometry.geometry.pages) in (
      ap (λ (z : DiskState). z.power) anchor.0 ∙ start.0,
      ap (λ (z : DiskState). z.sectors) anchor.0 ∙ start.1,
      volume-lacks (st c.args.disk.now) (st c.start.new.self) start.0 start.1 _ _ _ (made.0 ∙ c.from.ensures) (made.1 ∙ c.from-2.ensures) header.1 header.2 anchor.1 anchor.2,
    )

pub returns-in_err-missing-clause-rule : goal.returns-in_err-missing-clause-rule
returns-in_err-missing-clause-rule g c =
    let st = g.D.Disk.state in
    let start = c.in_ok-start.ensures.rule in
    let header = rw c.in-Some.is at c.in_ok-header.ensures.rule in
    let made = c.in_ok-geometry.ensures.made in
    let anchor = rw (c.in-Some-2.is, header.0) at (c.in_ok-anchor.ensures.rule c.in_ok-geometry.geometry.pages) in
    let exit = err_from_is_err_and c.from_residual-in_err-missing.result c.from_residual-in_err-missing.ensures.1 in
    rw (exit.1, exit.2)
    (volume-refused (st c.args.disk.now) (st c.start.new.self) start.0 start.1 _ _ _ (made.0 ∙ c.from.ensures) (made.1 ∙ c.from-2.ensures) header.1 header.2 c.in-Some-2.anchor anchor.1 _ _ _ _ _ anchor.0 c.in_err-missing.ensures.rule)

pub returns-clause-rule : goal.returns-clause-rule
returns-clause-rule g c =
    let st = g.D.Disk.state in
    let start = c.in_ok-start.ensures.rule in
    let header = rw c.in-Some.is at c.in_ok-header.ensures.rule in
    let made = c.in_ok-geometry.ensures.made in
    let anchor = rw (c.in-Some-2.is, header.0) at (c.in_ok-anchor.ensures.rule c.in_ok-geometry.geometry.pages) in
    let pages = c.in_ok-missing.ensures.rule in
    let long : length c.read_pages.new.frames ≡ c.in_ok-geometry.geometry.pages = omega (arith, length-take {A = Frame}) in
    volume-seen (st c.args.disk.now) (st c.start.new.self) start.0 start.1 _ (made.0 ∙ c.from.ensures) (made.1 ∙ c.from-2.ensures) made.2 header.1 header.2 anchor.1 _ _ anchor.0 pages.0 _ _ long pages.1
