use Rattle.std.proofs.Common.{◌≡◌, ℕ, ◌∙◌, arith}
use Rattle.std.proofs.lemmas.Result.{err_from_is_err_and}
use Rattle.disk.specs.declared.faults.Fault.TheVariants.{Unreadable}
use Rattle.sheet.proofs.TwinReads.{first-unread, second-unread}
use Rattle.sheet.proofs.twins.Copies.fetch.Goals as goal

pub returns-in_err-read-in-Err-Unreadable-clause-rule : goal.returns-in_err-read-in-Err-Unreadable-clause-rule
returns-in_err-read-in-Err-Unreadable-clause-rule g c =
    let lost = c.in-Err-Unreadable in
    let one = lost.ensures.rule in
    let two = c.in_err-read-in-Err-Unreadable.ensures.rule in
    let exit = err_from_is_err_and c.from_residual.result c.from_residual.ensures.1 in
    rw (exit.1, exit.2) (two.0 ∙ one.0, second-unread _ _ _ _ _ _ _ _ lost.field-0-is one.1 two.1)

pub returns-in-Err-clause-rule : goal.returns-in-Err-clause-rule
returns-in-Err-clause-rule g c =
    let read = c.in-Err.ensures.rule in
    let other : (p : ℕ) → c.in-Err.fault ≡ Unreadable p → ⊥ = λ p is. grind arith in
    (read.0, first-unread _ _ _ _ _ other read.1)
