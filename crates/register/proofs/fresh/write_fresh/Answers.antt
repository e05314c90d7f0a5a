use Rattle.std.proofs.Common.{map, length, sym, ap, ◌∙◌, subst, rules, arith}
use Rattle.std.proofs.lemmas.List.{length-map}
use Rattle.pages.proofs.Edits.{map-wrote}
use Rattle.register.specs.Images.{entries_of}
use Rattle.register.specs.Registers.{IsRegister}
use Rattle.register.specs.Fresh.{fresh_writes}
use Rattle.register.proofs.FreshImages.{fresh-more, fresh-end, fresh-imaged}
use Rattle.register.proofs.Stand.{fresh-stands}
use Rattle.register.proofs.fresh.write_fresh.Goals as goal

pub loop-at-preserved : goal.loop-at-preserved
loop-at-preserved g c = search (rules, fresh-more)

pub returns : goal.returns
returns g c =
    let w = g.P.Paged.written in
    let old = c.args.pages.now in
    let n = length old in
    let done = sym (fresh-end w c.loop-at.at n c.loop-at.pages (omega arith)) ∙ c.loop-at.invariant in
    let images = ap (map g.P.Paged.image) done ∙ map-wrote g.P.Paged.image w g.P.Paged.holds (fresh_writes 0 n) old ∙ fresh-imaged n (map g.P.Paged.image old) (length-map old g.P.Paged.image) in
    let fresh = fresh-stands n c.requires.least c.requires.most in
    record { writes = done; images = images; register = subst (IsRegister n) (sym images) fresh.0; empty = ap entries_of images ∙ fresh.1 }
