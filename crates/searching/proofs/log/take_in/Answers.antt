use Rattle.std.proofs.Common.{◌+◌, length, get_or, ap, ◌∙◌, arith}
use Rattle.searching.proofs.Listed.{few-listed}
use Rattle.searching.proofs.Taken.{page-below, taken-all, taken-more, copy-moved, copy-same}
use Rattle.searching.proofs.log.take_in.Goals as goal

pub overflow_add-second-2 : goal.overflow_add-second-2
overflow_add-second-2 g c = omega (arith, few-listed (length c.args.frames.now) c.args.found.now.head c.requires.fits)

pub bounds-found-from : goal.bounds-found-from
bounds-found-from g c = omega (arith, few-listed (length c.args.frames.now) c.args.found.now.head c.requires.fits)

pub bounds-frames-from : goal.bounds-frames-from
bounds-frames-from g c =
    let pages = c.args.found.now.head.pages in
    let at = c.from-in-loop-j-4.ensures ∙ ap (λ i. get_or pages i 0) c.from-in-loop-j-3.ensures in
    omega (arith, at, page-below (length c.args.frames.now) c.args.found.now.head c.loop-j.j c.requires.fits c.loop-j-test.true)

pub loop-j-preserved : goal.loop-j-preserved
loop-j-preserved g c =
    let st = g.D.Disk.state in
    let v = c.loop-j.invariant in
    let f = c.args.found.now in
    let j = c.loop-j.j in
    let a = f.place + 3 in
    let b = f.place + 4 + f.head.count in
    let at = c.from-in-loop-j-4.ensures ∙ ap (λ i. get_or f.head.pages i 0) c.from-in-loop-j-3.ensures in
    let image = c.read_copy.new.image in
    let rule = copy-moved _ _ (a + j) (b + j) (st c.loop-j.disk) (st c.args.disk.now) (st c.read_copy.new.disk) c.in_ok-read_copy.field-0 image (omega arith) (omega arith) v.state c.in_ok-read_copy.ensures.rule in
    record {
      state = copy-same (a + j) (b + j) (st c.args.disk.now) (st c.read_copy.new.disk) c.in_ok-read_copy.field-0 image rule;
      layers = c.in_ok-read_copy.ensures.same ∙ v.layers;
      read = λ xs many im.
          taken-more (length c.args.frames.now) f.head c.requires.fits xs many f.third c.loop-j.frames a b (st c.args.disk.now) (st c.read_copy.new.disk) c.in_ok-read_copy.field-0 image j c.from-in-loop-j-4.result c.loop-j-test.true at rule im
          ∙ v.read xs many im;
    }

pub returns-clause-rule : goal.returns-clause-rule
returns-clause-rule g c =
    let v = c.loop-j.invariant in
    let f = c.args.found.now in (
      v.state,
      c.loop-j.auto.frames,
      λ xs many im. taken-all (length c.args.frames.now) f.head c.requires.fits xs many f.third c.args.frames.now c.loop-j.frames c.loop-j.j (omega arith) (v.read xs many im) (omega arith),
    )
