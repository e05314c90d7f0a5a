use Rattle.std.proofs.Common.{◌≡◌, ℕ, ◌+◌, List, length, drop}
use Rattle.searching.proofs.Taken.{taken}
use Rattle.searching.specs.Looks.{listed}
use Rattle.thirds.specs.Words.{on}
use Rattle.thirds.specs.Records.{ImagesAt}
use Rattle.thirds.specs.Reading.{paired}
use Rattle.searching.proofs.log.take_in.Given as goal

abbrev pub invariant-loop-j : goal.invariant-loop-j
invariant-loop-j g l =
    let st = g.D.Disk.state in
    record {
      state : st l.disk ≡ st l.initial.disk;
      layers : g.D.Disk.layers l.disk ≡ g.D.Disk.layers l.initial.disk;
      read : (xs : List (List ℕ)) → length xs ≡ l.found.head.count → ImagesAt (on (st l.initial.disk).sectors) (l.found.place + 3) (l.found.place + 4 + l.found.head.count) (paired (listed l.found.head) xs)
          → taken l.found.third (drop l.j (paired (listed l.found.head) xs)) l.frames ≡ taken l.found.third (paired (listed l.found.head) xs) l.initial.frames;
    }
