use Rattle.std.proofs.Common.{◌≡◌, rules}
use Rattle.recovering.proofs.TwoCopies.{anchors-same, anchors-differ, anchors-first-none, anchors-none}
use Rattle.recovering.proofs.twins.read_anchors.Goals as goal

pub returns-then-eq-clause-rule : goal.returns-then-eq-clause-rule
returns-then-eq-clause-rule g c pages =
    let same : c.in_ok-second.second ≡ c.in_ok-first.first = search rules in
    anchors-same pages _ _ _ _ _ c.in_ok-first.ensures.rule c.in_ok-second.ensures.rule c.in-Some-default.value c.in-Some-default.is-0 same

pub returns-else-eq-clause-rule : goal.returns-else-eq-clause-rule
returns-else-eq-clause-rule g c pages =
    let other : c.in_ok-second.second ≡ c.in_ok-first.first → ⊥ = search rules in
    anchors-differ pages _ _ _ _ _ c.in_ok-first.ensures.rule c.in_ok-second.ensures.rule c.in-Some-default.value c.in-Some-default.is-0 other

pub returns-in-None-Some-clause-rule : goal.returns-in-None-Some-clause-rule
returns-in-None-Some-clause-rule g c pages =
    anchors-first-none pages _ _ _ _ _ c.in_ok-first.ensures.rule c.in_ok-second.ensures.rule c.in-None-Some.value c.in-None-Some.is-0 c.in-None-Some.is-1

pub returns-in-None-None-clause-rule : goal.returns-in-None-None-clause-rule
returns-in-None-None-clause-rule g c pages =
    anchors-none pages _ _ _ _ _ c.in_ok-first.ensures.rule c.in_ok-second.ensures.rule c.in-None-None.is-0 c.in-None-None.is-1
