-- A sheet is renewed: what each way through it leaves, and what that tells whoever had an old sheet.
--     rewrite-refused      the rewriting was refused
--     stood                it is done, and what stands is known
--     left                 it is done, and what stands was read back
--     law                  what a renewal leaves is lawful
use Rattle.std.proofs.Common.{◌≡◌, ℕ, ◌+◌, ◌≤◌, List, Some, None, Ok, Err, Option, Result, refl, ap, ◌∙◌, arith}
use Rattle.refusal.specs.Refusals.{number_of}
use Rattle.refusal.specs.declared.Refusal.{Refusal}
use Rattle.refusal.specs.declared.Refusal.TheVariants as refusal
use Rattle.disk.specs.Sectors.{DiskState}
use Rattle.disk.specs.Faults.{refusal_of}
use Rattle.disk.specs.declared.faults.Fault.{Fault}
use Rattle.disk.specs.declared.faults.Fault.TheVariants.{PowerOff, Unreadable, NoSuchSector}
use Rattle.sheet.specs.Twins.{Both, Standing, on-first, Stands, new-stands, Missing, no-first, no-second, Rewrites, Fetches, RenewRefused, too-close, missing, stays-off, unread, Leaves, Renews}
use Rattle.sheet.proofs.Standing.{one-standing, fetched, unfetched}
use Rattle.sheet.proofs.TwinCuts.{both-doubled, cut-stands}

module _ (first second : ℕ) (new : List ℕ) where
  pub rewrite-refused : (d e : DiskState) (x : Fault) → Rewrites first second new d (Err x) e → RenewRefused first second new d (refusal_of x) e
  rewrite-refused d e (PowerOff p) h = stays-off (ap refusal.PowerOff h.0) h.1 h.2.0 h.2.1
  rewrite-refused d e (Unreadable p) h = absurd h
  rewrite-refused d e NoSuchSector h = missing refl h.0 h.1 h.2

  module _ (apart : first + 2 ≤ second) where
    stood : (old got : List ℕ) (d e : DiskState) (s : ℕ) (cut : Option ℕ) → Rewrites first second new d (Ok cut) e → Standing first second e s got
        → Leaves first second new d old (Ok cut) e got
    stood old got d e s None h stands = (h, one-standing first second e s first got new stands (on-first refl (both-doubled first second apart new d e h).0))
    stood old got d e s (Some t) h stands = (h.0, h.1, (s, stands))

    pub left : (old got : List ℕ) (d m e : DiskState) (s : ℕ) (cut : Option ℕ) → Rewrites first second new d (Ok cut) m → Fetches first second m old (Ok s) e got
        → Leaves first second new d old (Ok cut) e got
    left old got d m e s cut h fetched = rw fetched.2 (stood old got d m s cut h fetched.1)

    rewritten : (old : List ℕ) (d e : DiskState) (cut : Option ℕ) → Rewrites first second new d (Ok cut) e → Both first second old d → Stands first second old new e
    rewritten old d e None h both = new-stands first (on-first refl (both-doubled first second apart new d e h).0)
    rewritten old d e (Some s) h both = cut-stands first second apart old new d e s h.1 both

    none-missing : (old : List ℕ) (d e : DiskState) → Missing first second new d e.sectors → Both first second old d → ⊥
    none-missing old d e (no-first past same) both = omega (arith, both.0.exists)
    none-missing old d e (no-second exists past same) both = omega (arith, both.1.exists)

    refused : (old : List ℕ) (d e : DiskState) (x : Refusal) → RenewRefused first second new d x e → Both first second old d → (number_of x ≡ 9) × Stands first second old new e
    refused old d e x (too-close is close same) both = absurd (omega arith)
    refused old d e x (missing is was on none) both = absurd (none-missing old d e none both)
    refused old d e x (stays-off is off s cut) both = (ap number_of is, cut-stands first second apart old new d e s cut both)
    refused old d e x (unread cut m y is done unread-at) both =
        let told = unfetched first second old new m e y unread-at (rewritten old d m cut done both) in
        (ap number_of is ∙ told.0, told.1)

  pub law : (d e : DiskState) (was back : List ℕ) (r : Result (Option ℕ) Refusal) → Leaves first second new d was r e back → Renews first second new d r e back
  law d e was back (Ok None) h apart old both = (h.1, rewritten apart old d e None h.0 both)
  law d e was back (Ok (Some s)) h apart old both =
      let stands = cut-stands first second apart old new d e s h.1 both in
      (fetched first second old new back e h.2.0 h.2.1 stands, stands)
  law d e was back (Err x) h apart old both = refused apart old d e x h.1 both
