use Rattle.std.proofs.Common.{◌≡◌, ℕ, ◌+◌, ◌<◌, [], ◌∷◌, ◌++◌, List, length, get_or, set, take, drop, sym, ap, ◌∙◌, subst, arith}
use Rattle.std.proofs.lemmas.List.{length-set, take_more, take_more_set, drop-set-lt, drop-drop}
use Rattle.replay.specs.Moves.{TurnDoes, TellsTurn}
use Rattle.replay.specs.Replays.{Chain}
use Rattle.replay.specs.declared.steps.Outcome.{Outcome}
use Rattle.replay.specs.declared.steps.Step.TheVariants.{Change}
use Rattle.replay.specs.declared.losses.Turn.{Turn}
use Rattle.replay.specs.declared.losses.Turn.TheVariants as turn
use Rattle.replay.proofs.Carried.{Carried, carried-more, carried-law, chain-push}
use Rattle.replay.proofs.losses.replay_spoiled.Goals as goal

pub loop-i-preserved : goal.loop-i-preserved
loop-i-preserved g c =
    let st = g.D.Disk.state in
    let v = c.loop-i.invariant in
    let turns = c.args.turns.now in
    let outcomes = c.loop-i.outcomes in
    let first = c.args.outcomes.now in
    let i = c.loop-i.i in
    let o = c.take_turn.result in
    let before = c.args.journal.now in
    let now = c.loop-i.journal in
    let after = c.take_turn.new.journal in
    let more = c.loop-i-test.true in
    let a : i < length turns = omega (arith, more, c.min-count.ensures) in
    let b : i < length outcomes = omega (arith, more, c.min-count.ensures, v.long) in
    let next : (l : List Outcome) → drop (i + 1) l ≡ drop 1 (drop i l) = λ l. sym (drop-drop 1 i l) in
    record {
      long = length-set outcomes i o ∙ v.long;
      rest = drop-set-lt (i + 1) outcomes i o (omega arith) ∙ next outcomes ∙ ap (drop 1) v.rest ∙ sym (next first);
      same = c.take_turn.ensures.same ∙ v.same;
      chain = subst (λ (done : List Turn). Chain TurnDoes done (take (i + 1) (set outcomes i o)) before.inner (st before.disk) after.inner (st after.disk)) (sym (take_more turns i (turn.Step (Change 0 [])) a))
          (subst (λ (told : List Outcome). Chain TurnDoes (take i turns ++ get_or turns i (turn.Step (Change 0 [])) ∷ []) told before.inner (st before.disk) after.inner (st after.disk)) (sym (take_more_set outcomes i o b))
          (chain-push TurnDoes (take i turns) (take i outcomes) (get_or turns i (turn.Step (Change 0 []))) o before.inner now.inner after.inner (st before.disk) (st now.disk) (st after.disk) v.chain c.take_turn.ensures.does));
      carried = subst (λ (done : List Turn). Carried TellsTurn done (take (i + 1) (set outcomes i o)) before.inner (st before.disk) after.inner (st after.disk)) (sym (take_more turns i (turn.Step (Change 0 [])) a))
          (subst (λ (told : List Outcome). Carried TellsTurn (take i turns ++ get_or turns i (turn.Step (Change 0 [])) ∷ []) told before.inner (st before.disk) after.inner (st after.disk)) (sym (take_more_set outcomes i o b))
          (carried-more TellsTurn (take i turns) (take i outcomes) (get_or turns i (turn.Step (Change 0 []))) o before.inner now.inner after.inner (st before.disk) (st now.disk) (st after.disk) v.carried c.take_turn.ensures.moves));
    }

pub returns-clause-does : goal.returns-clause-does
returns-clause-does g c =
    let st = g.D.Disk.state in
    let v = c.loop-i.invariant in
    let before = c.args.journal.now in
    let after = c.loop-i.journal in
    let end : c.loop-i.i ≡ c.min-count.result = omega (arith, c.loop-i-test.false) in
    subst (λ (n : ℕ). Chain TurnDoes (take n c.args.turns.now) (take n c.loop-i.outcomes) before.inner (st before.disk) after.inner (st after.disk)) end v.chain

pub returns-clause-law : goal.returns-clause-law
returns-clause-law g c =
    let st = g.D.Disk.state in
    let v = c.loop-i.invariant in
    let before = c.args.journal.now in
    let after = c.loop-i.journal in
    let end : c.loop-i.i ≡ c.min-count.result = omega (arith, c.loop-i-test.false) in
    let all = subst (λ (n : ℕ). Carried TellsTurn (take n c.args.turns.now) (take n c.loop-i.outcomes) before.inner (st before.disk) after.inner (st after.disk)) end v.carried in
    carried-law TellsTurn (take c.min-count.result c.args.turns.now) (take c.min-count.result c.loop-i.outcomes) before.inner after.inner (st before.disk) (st after.disk) all
