use Rattle.std.proofs.Common.{◌≡◌, ◌-◌, length}
use Rattle.pages.specs.Writes.{wrote}
use Rattle.register.specs.Fresh.{fresh_writes}
use Rattle.register.proofs.fresh.write_fresh.Given as goal

abbrev pub invariant-loop-at : goal.invariant-loop-at
invariant-loop-at g l = wrote g.P.Paged.written (fresh_writes l.at (length l.initial.pages - l.at)) l.pages ≡ wrote g.P.Paged.written (fresh_writes 0 (length l.initial.pages)) l.initial.pages
