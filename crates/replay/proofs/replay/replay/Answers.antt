use Rattle.std.proofs.Common.{◌≡◌, ℕ, ◌+◌, ◌<◌, [], ◌∷◌, ◌++◌, List, length, get_or, set, take, drop, sym, ap, ◌∙◌, subst, arith}
use Rattle.std.proofs.lemmas.List.{length-set, take_more, take_more_set, drop-set-lt, drop-drop}
use Rattle.replay.specs.Moves.{StepDoes, Tells}
use Rattle.replay.specs.Replays.{Chain}
use Rattle.replay.specs.declared.steps.Outcome.{Outcome}
use Rattle.replay.specs.declared.steps.Step.TheVariants.{Change}
use Rattle.replay.specs.declared.steps.Step.{Step}
use Rattle.replay.proofs.Carried.{Carried, carried-more, carried-law, chain-push}
use Rattle.replay.proofs.replay.replay.Goals as goal

pub loop-i-preserved : goal.loop-i-preserved
loop-i-preserved g c =
    let st = g.D.Disk.state in
    let v = c.loop-i.invariant in
    let steps = c.args.steps.now in
    let outcomes = c.loop-i.outcomes in
    let first = c.args.outcomes.now in
    let i = c.loop-i.i in
    let o = c.carry_out.result in
    let before = c.args.journal.now in
    let now = c.loop-i.journal in
    let after = c.carry_out.new.journal in
    let more = c.loop-i-test.true in
    let a : i < length steps = omega (arith, more, c.min-count.ensures) in
    let b : i < length outcomes = omega (arith, more, c.min-count.ensures, v.long) in
    let next : (l : List Outcome) → drop (i + 1) l ≡ drop 1 (drop i l) = λ l. sym (drop-drop 1 i l) in
    record {
      long = length-set outcomes i o ∙ v.long;
      rest = drop-set-lt (i + 1) outcomes i o (omega arith) ∙ next outcomes ∙ ap (drop 1) v.rest ∙ sym (next first);
      same = c.carry_out.ensures.same ∙ v.same;
      chain = subst (λ (done : List Step). Chain StepDoes done (take (i + 1) (set outcomes i o)) before.inner (st before.disk) after.inner (st after.disk)) (sym (take_more steps i (Change 0 []) a))
          (subst (λ (told : List Outcome). Chain StepDoes (take i steps ++ get_or steps i (Change 0 []) ∷ []) told before.inner (st before.disk) after.inner (st after.disk)) (sym (take_more_set outcomes i o b))
          (chain-push StepDoes (take i steps) (take i outcomes) (get_or steps i (Change 0 [])) o before.inner now.inner after.inner (st before.disk) (st now.disk) (st after.disk) v.chain c.carry_out.ensures.does));
      carried = subst (λ (done : List Step). Carried Tells done (take (i + 1) (set outcomes i o)) before.inner (st before.disk) after.inner (st after.disk)) (sym (take_more steps i (Change 0 []) a))
          (subst (λ (told : List Outcome). Carried Tells (take i steps ++ get_or steps i (Change 0 []) ∷ []) told before.inner (st before.disk) after.inner (st after.disk)) (sym (take_more_set outcomes i o b))
          (carried-more Tells (take i steps) (take i outcomes) (get_or steps i (Change 0 [])) o before.inner now.inner after.inner (st before.disk) (st now.disk) (st after.disk) v.carried c.carry_out.ensures.moves));
    }

pub returns-clause-does : goal.returns-clause-does
returns-clause-does g c =
    let st = g.D.Disk.state in
    let v = c.loop-i.invariant in
    let before = c.args.journal.now in
    let after = c.loop-i.journal in
    let end : c.loop-i.i ≡ c.min-count.result = omega (arith, c.loop-i-test.false) in
    subst (λ (n : ℕ). Chain StepDoes (take n c.args.steps.now) (take n c.loop-i.outcomes) before.inner (st before.disk) after.inner (st after.disk)) end v.chain

pub returns-clause-law : goal.returns-clause-law
returns-clause-law g c =
    let st = g.D.Disk.state in
    let v = c.loop-i.invariant in
    let before = c.args.journal.now in
    let after = c.loop-i.journal in
    let end : c.loop-i.i ≡ c.min-count.result = omega (arith, c.loop-i-test.false) in
    let all = subst (λ (n : ℕ). Carried Tells (take n c.args.steps.now) (take n c.loop-i.outcomes) before.inner (st before.disk) after.inner (st after.disk)) end v.carried in
    carried-law Tells (take c.min-count.result c.args.steps.now) (take c.min-count.result c.loop-i.outcomes) before.inner after.inner (st before.disk) (st after.disk) all
