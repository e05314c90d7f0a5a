use Rattle.std.proofs.Common.{[], ◌∷◌, ◌++◌, length, take, sym, refl, ap, ◌∙◌, rules, arith}
use Rattle.std.proofs.lemmas.List.{length-map, take_more}
use Rattle.std.proofs.lemmas.List.Sums.{fold_push}
use Rattle.std.proofs.lemmas.Option.{get_or_from_slice_get, slice_get_within}
use Rattle.register.specs.Changes.{changed, told}
use Rattle.register.specs.declared.replay.Change.{Change}
use Rattle.register.proofs.Telling.{refused, granted, stopped}
use Rattle.register.proofs.replay.replay.Goals as goal

pub loop-i-init : goal.loop-i-init
unfolding told
loop-i-init g c = record { law = c.format-register.ensures.empty; long = c.format-register.ensures.long; named = refl }

pub returns-then-is_err-clause-full : goal.returns-then-is_err-clause-full
returns-then-is_err-clause-full g c = λ other at.
    let change = c.index-changes-i.result in
    let h = refused g.P.Paged.image g.P.Paged.written change c.loop-i.register.pages.now c.carry_out.new.self.pages.now c.carry_out.result c.carry_out.ensures.done (sym c.if-is_err.ensures.value) in
    stopped g.P.Paged.image (search rules) h.1 c.loop-i.invariant.long (c.index-changes-i.is ∙ get_or_from_slice_get c.args.changes.now c.loop-i.i other change at) h.0

pub loop-i-preserved : goal.loop-i-preserved
unfolding told
loop-i-preserved g c =
    let changes = c.args.changes.now in
    let i = c.loop-i.i in
    let v = c.loop-i.invariant in
    let change = c.index-changes-i.result in
    let after = c.carry_out.new.self.pages.now in
    let h = granted g.P.Paged.image g.P.Paged.written change c.loop-i.register.pages.now after c.carry_out.result c.carry_out.ensures.done (sym c.if-is_err.ensures.value) in
    let more = take_more changes i change c.loop-i-test.true ∙ ap (λ (x : Change). take i changes ++ x ∷ []) (sym c.index-changes-i.is) in
    record {
      law = h.1 ∙ ap (changed change) v.law ∙ sym (ap (λ cs. told cs []) more ∙ fold_push (λ es c. changed c es) [] (take i changes) change);
      long = sym (length-map after g.P.Paged.image) ∙ h.0.all ∙ v.long;
      named = c.carry_out.ensures.named ∙ v.named;
    }

pub returns-clause-full : goal.returns-clause-full
returns-clause-full g c = λ other at. absurd (omega (arith, slice_get_within c.args.changes.now (length c.args.changes.now) other at))
