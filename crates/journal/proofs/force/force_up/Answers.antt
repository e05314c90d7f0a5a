use Rattle.std.proofs.Common.{sym, ◌∙◌, arith}
use Rattle.journal.proofs.ForceAnswered.{force-nothing, force-done}
use Rattle.journal.proofs.force.force_up.Goals as goal

pub returns-then-not-any_changed-clause-rule : goal.returns-then-not-any_changed-clause-rule
returns-then-not-any_changed-clause-rule g c = force-nothing c.args.standing.now c.args.inner.now c.requires _ (sym c.any_changed.ensures ∙ c.if-not-any_changed.true)

pub returns-in-Ok-clause-rule : goal.returns-in-Ok-clause-rule
returns-in-Ok-clause-rule g c =
    force-done c.args.standing.now c.args.inner.now c.requires c.force.new.log c.force.new.frames _ _ (omega arith) c.if-place-gt-MOST_NUMBER.false c.in-Ok.ensures.rule c.in-Ok.ensures.leaves c.force.auto.frames
