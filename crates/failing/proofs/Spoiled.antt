-- Whatever spoil answers, the named sector is unreadable if there is one.
use Rattle.std.proofs.Common.{◌≡◌, ℕ, set, Ok, Err, sym, ap, ◌∙◌}
use Rattle.std.proofs.lemmas.List.{set_past}
use Rattle.disk.specs.Sectors.{unreadable, DiskState}
use Rattle.disk.specs.Faults.{Answer}
use Rattle.disk.specs.Rules.{Spoils}
use Rattle.disk.specs.declared.faults.Fault.TheVariants.{PowerOff, Unreadable, NoSuchSector}

pub spoil-sets : (s : ℕ) (d : DiskState) (r : Answer) (e : DiskState) → Spoils s d r e → e.sectors ≡ set d.sectors s unreadable
spoil-sets s d (Ok _) e h = h.2
spoil-sets s d (Err (PowerOff p)) e h = absurd h
spoil-sets s d (Err (Unreadable p)) e h = absurd h
spoil-sets s d (Err NoSuchSector) e h = ap (λ (x : DiskState). x.sectors) h.1 ∙ sym (set_past d.sectors s unreadable h.0)
