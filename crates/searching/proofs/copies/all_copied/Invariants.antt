use Rattle.std.proofs.Common.{◌≡◌, ℕ, ◌+◌, ◌<◌, true, ◌⊎◌}
use Rattle.disk.specs.Sectors.{unreadable}
use Rattle.thirds.specs.Words.{on}
use Rattle.searching.proofs.copies.all_copied.Given as goal

abbrev pub invariant-loop-j : goal.invariant-loop-j
invariant-loop-j g l =
    let st = g.D.Disk.state in
    record {
      state : st l.disk ≡ st l.initial.disk;
      layers : g.D.Disk.layers l.disk ≡ g.D.Disk.layers l.initial.disk;
      power : 0 < l.j → (st l.initial.disk).power ≡ true;
      read : (k : ℕ) → k < l.j → (on (st l.initial.disk).sectors (l.first + k) ≡ unreadable → ⊥) ⊎ (on (st l.initial.disk).sectors (l.second + k) ≡ unreadable → ⊥);
    }
