use Rattle.std.proofs.Common.{◌≡◌, [], map, length, sym, ap, ◌∙◌, arith}
use Rattle.register.specs.Images.{entries_of}
use Rattle.register.proofs.Onward.{above-next, above-none}
use Rattle.register.proofs.SortedEntries.{register-sorted}
use Rattle.register.proofs.entries.EntriesIterator.next.Goals as goal

pub returns-in_err-entry-clause-steps : goal.returns-in_err-entry-clause-steps
returns-in_err-entry-clause-steps g c =
    let es = entries_of (map g.P.Paged.image c.self.inside.register.pages.now) in
    let none : c.args.self.now ≡ [] = sym c.self.view_is ∙ above-none c.self.inside.last.bytes es (sym c.in_err-entry.ensures) in
    rw c.from_residual.ensures (none, none)

pub returns-clause-steps : goal.returns-clause-steps
returns-clause-steps g c =
    let pages = c.self.inside.register.pages.now in
    let images = map g.P.Paged.image pages in
    sym c.self.view_is ∙ above-next c.self.inside.last.bytes (entries_of images) c.in_ok-entry.entry (register-sorted (length pages) images c.self.inside.register.kept) (sym c.in_ok-entry.ensures)

pub returns-clause-goes : goal.returns-clause-goes
returns-clause-goes g c =
    let pages = c.self.inside.register.pages.now in
    let images = map g.P.Paged.image pages in
    let less = ap length (sym c.self.view_is ∙ above-next c.self.inside.last.bytes (entries_of images) c.in_ok-entry.entry (register-sorted (length pages) images c.self.inside.register.kept) (sym c.in_ok-entry.ensures)) in
    record { on = λ _. (tt, tt, omega (arith, less)); keeps = tt; rests = λ _. tt }
