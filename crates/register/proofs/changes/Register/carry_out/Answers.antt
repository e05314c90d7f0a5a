use Rattle.std.proofs.Common.{◌≡◌, Bool, true, is_some, List, map, Ok, sym, refl, ap, ◌∙◌, subst}
use Rattle.names.specs.Orders.{before}
use Rattle.rows.specs.Lists.{look_up}
use Rattle.register.specs.Images.{key_of, entries_of}
use Rattle.register.specs.Changes.{Carries}
use Rattle.register.specs.declared.replay.Change.{Change}
use Rattle.register.proofs.Telling.{taken, kept}
use Rattle.register.proofs.changes.Register.carry_out.Goals as goal

pub returns-then-is_some-clause-done : goal.returns-then-is_some-clause-done
returns-then-is_some-clause-done g c =
    let look : List g.row.P.Denot → Bool = λ ps. is_some (look_up key_of before c.in-Put.key.bytes (entries_of (map g.P.Paged.image ps))) in
    let there : look c.args.self.now.pages.now ≡ true = ap look (sym c.look.ensures) ∙ ap is_some (sym c.find.ensures) ∙ sym c.if-is_some.ensures in
    subst (λ (change : Change). Carries g.P.Paged.image g.P.Paged.written change c.args.self.now.pages.now (Ok tt) c.args.self.now.pages.now) (sym c.in-Put.is)
    (kept g.P.Paged.image g.P.Paged.written c.args.self.now.pages.now c.args.self.now.pages.now c.args.self.now.kept c.in-Put.key c.in-Put.start c.in-Put.length there refl)

pub returns-in-Take-clause-done : goal.returns-in-Take-clause-done
returns-in-Take-clause-done g c =
    subst (λ (change : Change). Carries g.P.Paged.image g.P.Paged.written change c.args.self.now.pages.now (Ok tt) c.take_out.new.self.pages.now) (sym c.in-Take.is)
    (taken g.P.Paged.image g.P.Paged.written c.args.self.now.pages.now c.take_out.new.self.pages.now c.args.self.now.kept c.in-Take.key c.take_out.result c.take_out.ensures.done)
