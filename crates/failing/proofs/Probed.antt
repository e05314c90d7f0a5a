-- The chosen read: the disk below could carry it out, and then the power is taken away.
use Rattle.std.proofs.Common.{ℕ, true, List, Ok, Err, refl, ap}
use Rattle.disk.specs.Sectors.{DiskState}
use Rattle.disk.specs.Rules.{Reads, read-failed}
use Rattle.disk.specs.declared.faults.Fault.TheVariants.{PowerOff}
use Rattle.failing.specs.FailingSound.{cut_off}
use Rattle.failing.specs.Probes.{Probes}

pub chosen-read : (s : ℕ) (d e : DiskState) (old : List ℕ) → Probes s d (Ok tt) e → Reads s d old (Err (PowerOff s)) (cut_off true e) old
chosen-read s d e old h = (refl, (refl, read-failed h.0 h.1.0 h.1.1 refl (ap (λ (x : DiskState). x.sectors) h.2)))
