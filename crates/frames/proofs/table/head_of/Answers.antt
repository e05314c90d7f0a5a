use Rattle.std.proofs.Common.{ap, ◌∙◌, arith}
use Rattle.layout.specs.declared.head.RecordHead.{RecordHead}
use Rattle.frames.proofs.Heads.{numbers-few, head-start, head-more, head-rest}
use Rattle.frames.proofs.table.head_of.Goals as goal
use Rattle.frames.proofs.table.head_of.Goals.{then-frame, else-frame}

pub loop-page-init : goal.loop-page-init
loop-page-init c = head-start c.args.group

pub bounds-head-from : goal.bounds-head-from
bounds-head-from c = omega (arith, numbers-few c.args.frames.now c.loop-page.page (omega arith), ap (λ (h : RecordHead). h.count) c.loop-page.invariant)

pub overflow_add-head : goal.overflow_add-head
overflow_add-head c = omega (arith, numbers-few c.args.frames.now c.loop-page.page (omega arith), ap (λ (h : RecordHead). h.count) c.loop-page.invariant)

pub loop-page-preserved : goal.loop-page-preserved
loop-page-preserved c =
    let fs = c.args.frames.now in
    let i = c.loop-page.page in
    elim c.if-frame.branch [
      | then-frame w ↦ w.head-is ∙ rw (w.from.ensures, c.loop-page.invariant) (head-more c.args.group fs i (omega arith) c.requires w.if-frame.true)
      | else-frame w ↦ w.head-is ∙ c.loop-page.invariant ∙ head-rest c.args.group fs i (omega arith) w.if-frame.false
    ]
