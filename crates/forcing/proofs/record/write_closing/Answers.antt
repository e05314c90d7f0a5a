use Rattle.std.proofs.Common.{◌≡◌, ℕ, ◌+◌, ◌*◌, length, Ok, Err, ap, ◌∙◌}
use Rattle.std.proofs.lemmas.Result.{err_from_is_err_and}
use Rattle.frames.specs.Frames.{changed_pages}
use Rattle.thirds.specs.Records.{pages_at}
use Rattle.forcing.proofs.HeadsAndEnds.{count-written, end-written}
use Rattle.forcing.proofs.Wrote.{write-as, wrote-one, stopped-first, stopped-early, wrote-append, wrote-rest}
use Rattle.forcing.proofs.record.write_closing.Goals as goal

pub returns-in_err-write_value-clause-rule : goal.returns-in_err-write_value-clause-rule
returns-in_err-write_value-clause-rule g c third =
    let exit = err_from_is_err_and c.from_residual.result c.from_residual.ensures.1 in
    let head = c.args.head.now in
    let frames = c.args.frames.now in
    let bytes = end-written head frames c.requires.head in
    let place = ap (λ (n : ℕ). c.args.place + 3 + n) (c.from-count.ensures ∙ count-written head frames c.requires.head) in
    rw (exit.1, exit.2) (stopped-first _ _ _ _ _ _ (write-as _ _ _ _ _ _ (Err _) place bytes c.in_err-write_value.ensures.rule))

pub returns-in_err-write_changed-clause-rule : goal.returns-in_err-write_changed-clause-rule
returns-in_err-write_changed-clause-rule g c third =
    let residual = c.from_residual-in_err-write_changed in
    let exit = err_from_is_err_and residual.result residual.ensures.1 in
    let head = c.args.head.now in
    let frames = c.args.frames.now in
    let pages = changed_pages frames in
    let bytes = end-written head frames c.requires.head in
    let count : c.from-count.result ≡ length pages = c.from-count.ensures ∙ count-written head frames c.requires.head in
    rw (exit.1, exit.2)
    (wrote-rest _ _ _ _ _ _ (Err _) (write-as _ _ _ _ _ _ (Ok tt) (ap (λ (n : ℕ). c.args.place + 3 + n) count) bytes c.in_ok-write_value.ensures.rule)
    (stopped-early (pages_at (c.args.place + 4 + length pages) pages) _ _ _ _ (rw count at c.in_err-write_changed.ensures.rule)))

pub returns-clause-rule : goal.returns-clause-rule
returns-clause-rule g c third =
    let head = c.args.head.now in
    let frames = c.args.frames.now in
    let pages = changed_pages frames in
    let bytes = end-written head frames c.requires.head in
    let count : c.from-count.result ≡ length pages = c.from-count.ensures ∙ count-written head frames c.requires.head in
    wrote-rest _ _ _ _ _ _ _ (write-as _ _ _ _ _ _ (Ok tt) (ap (λ (n : ℕ). c.args.place + 3 + n) count) bytes c.in_ok-write_value.ensures.rule)
    (wrote-append (pages_at (c.args.place + 4 + length pages) pages) _ _ _ _ _ (rw count at c.in_ok-write_changed.ensures.rule)
    (wrote-one _ _ _ _ _ (write-as _ _ _ _ _ _ _ (ap (λ (n : ℕ). c.args.place + 4 + 2 * n) count) bytes c.write_value-2.ensures.rule)))
