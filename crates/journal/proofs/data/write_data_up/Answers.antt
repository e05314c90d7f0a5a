use Rattle.std.proofs.Common.{Ok, Err, refl, ap, arith}
use Rattle.disk.specs.Faults.{refusal_of}
use Rattle.journal.specs.Calls.{DataLeft, data-write}
use Rattle.journal.specs.declared.inner.Inner.{Inner}
use Rattle.journal.proofs.DataRefused.{left-refused}
use Rattle.journal.proofs.data.write_data_up.Goals as goal
use Rattle.journal.proofs.data.write_data_up.Goals.{in-PowerOff, in_default}

pub returns-in-Ok-clause-rule : goal.returns-in-Ok-clause-rule
returns-in-Ok-clause-rule g c = data-write (omega arith) (Ok tt) c.in-Ok.ensures.rule (refl, refl)

pub returns-after-fault-clause-rule : goal.returns-after-fault-clause-rule
returns-after-fault-clause-rule g c =
    let fault = c.in-Err.fault in
    let i = c.args.inner.now in
    let rule = c.in-Err.ensures.rule in
    let left : DataLeft i (Err fault) (Err (refusal_of fault)) c.match-fault.inner =
    elim c.match-fault.branch [
      | in-PowerOff w ↦ left-refused _ _ _ _ i _ fault rule (λ p q. ap (λ (k : Inner). k.state) w.inner-is) (λ other. absurd (other _ w.in-PowerOff.is))
      | in_default w ↦ left-refused _ _ _ _ i _ fault rule (λ p q. absurd (w.in_default.not-PowerOff p q)) (λ other. w.inner-is)
    ] in
    rw c.from.ensures (data-write (omega arith) (Err fault) rule left)
