use Rattle.std.proofs.Common.{sym, ◌∙◌, arith}
use Rattle.register.proofs.Done.{still, seated-at, put-done}
use Rattle.register.proofs.changes.Register.put_in.Goals as goal

pub invariant_of-self : goal.invariant_of-self
invariant_of-self g c =
    let done = put-done g.P.Paged.image g.P.Paged.written g.P.Paged.holds c.args.self.now.pages.now c.put_at_seat.new.pages c.args.self.now.kept c.args.key.now c.args.start c.args.len (omega arith) (omega arith) c.requires c.home-seat.result (seated-at g.P.Paged.image c.args.self.now.pages.now c.look.result.pages.now c.args.key.now.bytes c.home-seat.result c.look.ensures c.home-seat.ensures) (sym c.has_room.ensures ∙ c.if-not-has_room.false) c.put_at_seat.ensures in
    record { kept = still g.P.Paged.image c.args.self.now.pages.now c.put_at_seat.new.pages c.put_at_seat.auto.pages done.2 }

pub returns-clause-done : goal.returns-clause-done
returns-clause-done g c = put-done g.P.Paged.image g.P.Paged.written g.P.Paged.holds c.args.self.now.pages.now c.put_at_seat.new.pages c.args.self.now.kept c.args.key.now c.args.start c.args.len (omega arith) (omega arith) c.requires c.home-seat.result (seated-at g.P.Paged.image c.args.self.now.pages.now c.look.result.pages.now c.args.key.now.bytes c.home-seat.result c.look.ensures c.home-seat.ensures) (sym c.has_room.ensures ∙ c.if-not-has_room.false) c.put_at_seat.ensures
