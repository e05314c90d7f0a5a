use Rattle.std.proofs.Common.{List, map, Option, sym, ap, ◌∙◌, rules}
use Rattle.names.specs.Orders.{before}
use Rattle.rows.specs.Lists.{look_up}
use Rattle.pages.specs.declared.records.Entry.{Entry}
use Rattle.register.specs.Images.{key_of, entries_of}
use Rattle.register.proofs.SeatLookUps.{place-some}
use Rattle.register.proofs.Done.{still, seated-at, take-done}
use Rattle.register.proofs.changes.Register.take_out.Goals as goal

pub take_at_seat-requires-clause-there : goal.take_at_seat-requires-clause-there
take_at_seat-requires-clause-there g c =
    let look : List g.row.P.Denot → Option Entry = λ ps. look_up key_of before c.args.key.now.bytes (entries_of (map g.P.Paged.image ps)) in
    place-some c.args.self.now.kept (search rules) (seated-at g.P.Paged.image c.args.self.now.pages.now c.look-2.result.pages.now c.args.key.now.bytes c.home-seat.result c.look-2.ensures c.home-seat.ensures) (ap look (sym c.look.ensures) ∙ sym c.find.ensures ∙ c.in_ok-found.was)

pub invariant_of-self : goal.invariant_of-self
invariant_of-self g c =
    let look : List g.row.P.Denot → Option Entry = λ ps. look_up key_of before c.args.key.now.bytes (entries_of (map g.P.Paged.image ps)) in
    let done = take-done g.P.Paged.image g.P.Paged.written g.P.Paged.holds c.args.self.now.pages.now c.take_at_seat.new.pages c.args.self.now.kept c.args.key.now.bytes c.in_ok-found.found (search rules) (ap look (sym c.look.ensures) ∙ sym c.find.ensures ∙ c.in_ok-found.was) c.take_at_seat.ensures in
    record { kept = still g.P.Paged.image c.args.self.now.pages.now c.take_at_seat.new.pages c.take_at_seat.auto.pages done.2 }

pub returns-clause-done : goal.returns-clause-done
returns-clause-done g c =
    let look : List g.row.P.Denot → Option Entry = λ ps. look_up key_of before c.args.key.now.bytes (entries_of (map g.P.Paged.image ps)) in
    take-done g.P.Paged.image g.P.Paged.written g.P.Paged.holds c.args.self.now.pages.now c.take_at_seat.new.pages c.args.self.now.kept c.args.key.now.bytes c.in_ok-found.found (search rules) (ap look (sym c.look.ensures) ∙ sym c.find.ensures ∙ c.in_ok-found.was) c.take_at_seat.ensures
