use Rattle.std.proofs.Common.{◌≡◌, ◌*◌, take, drop}
use Rattle.pages.specs.Bytes.{values}
use Rattle.pages.proofs.page.read_all.Given as goal

abbrev pub invariant-loop-record : goal.invariant-loop-record
invariant-loop-record g l =
    let wide = g.R.Stored.WIDE in
    let i = l.record-index in
    (take i l.out ≡ values g.R.Stored.value wide i (drop 32 l.page)) × (l.rest ≡ drop (wide * i) (drop 32 l.page))
