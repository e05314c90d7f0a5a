use Rattle.std.proofs.Common.{refl, ◌∙◌}
use Rattle.image.proofs.Stored.{unreadable-at, stored-at}
use Rattle.image.proofs.ImageDisk.read.Goals as goal

pub returns-then-self-at-ne0-clause-rule : goal.returns-then-self-at-ne0-clause-rule
returns-then-self-at-ne0-clause-rule c =
    let at = c.in_ok-at.ensures in
    (refl, (refl, at.0, unreadable-at _ _ _ _ at.1 at.2 c.if-self-at-ne0.true, refl))

pub returns : goal.returns
returns c =
    let at = c.in_ok-at.ensures in
    let found = stored-at _ c.args.self.now.power _ _ at.1 at.2 _ c.if-self-at-ne0.false (c.fill.ensures.same ∙ c.block.ensures.is) c.fill.ensures.whole in
    record { rule = (at.0, found.0, refl); same = refl; bytes = (refl, found.1) }
