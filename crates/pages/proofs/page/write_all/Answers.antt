use Rattle.std.proofs.Common.{◌≡◌, ◌+◌, ◌-◌, ◌*◌, [], ◌++◌, length, take, drop, sym, ap, ◌∙◌, ap₂, arith}
use Rattle.std.specs.List.{flat_map}
use Rattle.std.proofs.lemmas.List.{take_all}
use Rattle.std.proofs.lemmas.List.Edits.{length-paste, paste_none}
use Rattle.pages.proofs.Places.{put, times_more, place-fits, written-more}
use Rattle.pages.proofs.page.write_all.Goals as goal

pub loop-i-init : goal.loop-i-init
loop-i-init g c = (paste_none c.args.page.now 32 [], omega arith, c.told-page)

pub loop-i-preserved : goal.loop-i-preserved
loop-i-preserved g c =
    let w = c.WIDE-wide.result in
    let i = c.loop-i.i in
    let v = c.loop-i.invariant in
    let f = place-fits w _ i _ c.WIDE-wide.ensures c.loop-i-test.true c.requires in
    let n : length c.write.new.buf ≡ w = omega (arith, f, v.2, c.write.auto.buf) in
    let m = written-more g.R.Stored.bytes c.args.records.now c.args.page.now c.loop-i.page c.write.new.buf i w (32 + w * i + w - (32 + w * i)) c.index-records-i.result
    c.loop-i-test.true (omega arith) n (omega arith) v.0 v.1 (c.write.ensures ∙ ap g.R.Stored.bytes c.index-records-i.is) in
    (m.0, m.1, ap length m.0 ∙ length-paste c.args.page.now 32 (flat_map g.R.Stored.bytes (take (i + 1) c.args.records.now)) _ (omega (arith, m.1, f, times_more w i)) (omega arith) ∙ c.told-page)

pub returns : goal.returns
returns g c =
    let page = c.args.page.now in
    let rs = c.args.records.now in
    let js = flat_map g.R.Stored.bytes rs in
    let n : c.loop-i.i ≡ length rs = omega arith in
    let all = take_all c.loop-i.i rs (omega arith) in
    let long = ap (λ xs. length (flat_map g.R.Stored.bytes xs)) (sym all) ∙ c.loop-i.invariant.1 ∙ ap₂ (λ a b. a * b) c.WIDE-wide.ensures n in
    let front = take 32 page in
    let rest = drop (32 + g.R.Stored.WIDE * length rs) page in
    let over : put page js ≡ front ++ js ++ rest = ap₂ (λ x k. front ++ x ++ drop (32 + k) page) (take_all (length js) js (omega arith)) long in
    c.loop-i.invariant.0 ∙ ap (λ xs. put page (flat_map g.R.Stored.bytes xs)) all ∙ over
