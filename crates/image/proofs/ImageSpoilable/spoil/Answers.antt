use Rattle.std.proofs.Common.{refl, arith}
use Rattle.image.specs.ImageSound.{length-sectors}
use Rattle.image.proofs.OneSector.{one-changed}
use Rattle.image.proofs.Stored.{spoiled-beside, spoiled-is}
use Rattle.image.proofs.ImageSpoilable.spoil.Goals as goal

pub returns-clause-rule : goal.returns-clause-rule
returns-clause-rule c =
    let b = c.args.self.now.bytes.now in
    let s = c.args.sector in
    let at = c.in_ok-at.at in
    let w = c.in_ok-at.ensures.0 in
    let e = c.in_ok-at.ensures.1 in
    (omega (arith, length-sectors b), refl, one-changed b _ s (spoiled-beside b s at e) _ w (spoiled-is b s at e w))
