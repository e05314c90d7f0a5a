use Rattle.std.proofs.Common.{◌≡◌, ◌-◌, length, take, drop, ap, ◌∙◌, arith}
use Rattle.std.proofs.lemmas.List.{length-take, take_at}
use Rattle.pages.specs.Bytes.{records_of, values}
use Rattle.pages.proofs.page.read_page.Goals as goal

pub returns-clause-held : goal.returns-clause-held
unfolding records_of
returns-clause-held g c =
    let n = c.min-n.result in
    let l : length (take (n - 0) c.args.out.now) ≡ n = simp length-take (omega arith) in
    take_at c.read_all.new.out _ n (omega arith) ∙ c.read_all.ensures ∙ ap (λ k. values g.R.Stored.value g.R.Stored.WIDE k (drop 32 c.args.page.now)) (l ∙ c.min-n.ensures)
