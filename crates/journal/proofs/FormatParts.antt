-- The parts of a format's writes.
--     same-count       writes change no count of sectors
--     run-wrote        a run that lies on the disk is written as a list of writes
use Rattle.std.proofs.Common.{◌≡◌, ℕ, ◌+◌, ◌≤◌, List, length, Ok, Err, ap, subst, ◌∙◌, arith}
use Rattle.disk.specs.Sectors.{DiskState, count}
use Rattle.disk.specs.Faults.{Answer}
use Rattle.disk.specs.WriteLists.{Write, Done, Wrote, run_of, WritesRun}
use Rattle.disk.specs.declared.faults.Fault.TheVariants.{PowerOff, Unreadable, NoSuchSector}
use Rattle.disk.proofs.DoneWrites.{length-after}

pub same-count : (ws : List Write) (d e : DiskState) → Done ws d e → count e ≡ count d
same-count ws d e done = ap length done.sectors ∙ length-after ws d.sectors

run-here : (first : ℕ) (blocks : List (List ℕ)) (d : DiskState) (r : Answer) (e : DiskState) → first + length blocks ≤ count d → WritesRun first blocks d r e
    → Wrote (run_of first blocks) d r e
run-here first blocks d (Ok _) e fits h = h.1
run-here first blocks d (Err (PowerOff p)) e fits h = h.1
run-here first blocks d (Err (Unreadable p)) e fits h = absurd h
run-here first blocks d (Err NoSuchSector) e fits h = absurd (omega (arith, h.0))

-- Under another name for its first sector.
pub run-wrote : (at first : ℕ) (blocks : List (List ℕ)) (d : DiskState) (r : Answer) (e : DiskState) → at ≡ first → first + length blocks ≤ count d → WritesRun at blocks d r e
    → Wrote (run_of first blocks) d r e
run-wrote at first blocks d r e is fits h = subst (λ (n : ℕ). Wrote (run_of n blocks) d r e) is (run-here at blocks d r e (omega arith) h)
