use Rattle.std.proofs.Common.{refl, arith}
use Rattle.geometry.specs.Places.{Good}
use Rattle.geometry.proofs.OneUse.{apart}
use Rattle.geometry.proofs.geometry.Geometry.new.Goals as goal

pub returns : goal.returns
returns c =
    let good : Good c.args.pages c.args.third c.args.sectors = (omega arith, omega arith, omega arith, omega arith, omega arith) in
    record { made = (refl, refl, refl, good); regions = apart c.args.pages c.args.third c.args.sectors good }
