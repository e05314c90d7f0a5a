use Rattle.std.proofs.Common.{◌≡◌, ◌*◌, [], ◌∷◌, ◌++◌, length, take, drop, sym, refl, ap, ◌∙◌, ap₂, arith, length-drop}
use Rattle.std.proofs.lemmas.List.{take_all, take_more_set, drop-drop}
use Rattle.pages.specs.Bytes.{values}
use Rattle.pages.proofs.Places.{place-fits, times_more, values-more}
use Rattle.pages.proofs.page.read_all.Goals as goal

pub split_at-requires : goal.split_at-requires
split_at-requires g c =
    let wide = g.R.Stored.WIDE in
    let i = c.loop-record.record-index in
    let page = c.args.page.now in
    let fits = place-fits wide wide i _ refl c.loop-record-test.true c.requires in
    omega (arith, fits, c.WIDE.ensures, ap length c.loop-record.invariant.1, length-drop (wide * i) (drop 32 page), length-drop 32 page, c.told-page)

pub loop-record-init : goal.loop-record-init
unfolding values
loop-record-init g c =
    let bytes = drop 32 c.args.page.now in
    (refl, take_all 480 bytes (simp length-drop (omega (arith, c.told-page))) ∙ ap (λ k. drop k bytes) {x = 0} {y = g.R.Stored.WIDE * 0} (omega arith))

pub loop-record-preserved : goal.loop-record-preserved
loop-record-preserved g c =
    let value = g.R.Stored.value in
    let wide = g.R.Stored.WIDE in
    let i = c.loop-record.record-index in
    let out = c.loop-record.out in
    let bytes = drop 32 c.args.page.now in
    let was = c.loop-record.invariant in
    let read = c.read.ensures ∙ ap value (c.split_at.ensures.front ∙ ap₂ take c.WIDE.ensures was.1) in (
      take_more_set out i c.read.result (omega arith) ∙ ap₂ (λ rs r. rs ++ r ∷ []) was.0 read ∙ sym (values-more value wide i bytes),
      c.split_at.ensures.back ∙ ap₂ drop c.WIDE.ensures was.1 ∙ drop-drop wide (wide * i) bytes ∙ ap (λ k. drop k bytes) (sym (times_more wide i)),
    )

pub returns : goal.returns
returns g c =
    let i = c.loop-record.record-index in
    let all : i ≡ length c.args.out.now = omega arith in
    sym (take_all i c.loop-record.out (omega arith)) ∙ c.loop-record.invariant.0 ∙ ap (λ n. values g.R.Stored.value g.R.Stored.WIDE n (drop 32 c.args.page.now)) all
