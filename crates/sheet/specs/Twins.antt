-- Two copies of a sheet, on the sectors first and second.
--     Both             both copies hold a sheet
--     Standing         the copy that a reader takes: the first, or the second where the first is unreadable
--     Stands           whoever reads now gets the old sheet or the new one, whole
--     Doubled          both copies are written, and no other sector has changed
--     CutIn            the power was off or failed in the write of a copy: of which, and the sectors that this left
--     Missing          a copy does not exist: which, and the sectors that were left
--     WritesBoth       the first copy is written and then the second, by the answer
--     Rewrites         the same, where a disk without power is started again
--     FetchOff         a fetch lost the power: at which copy
--     FetchRefused     why a fetch was refused; no sector changes
--     Fetches          what stands is read and nothing changes; refused, the caller's bytes are as before
--     RenewRefused     why a renewal was refused, and what it left
--     Leaves           what a renewal leaves of the disk and of the caller's bytes, by its answer
--     Renewed          what a renewal tells whoever had an old sheet on both copies
--     Renews           if both copies, two apart, held an old sheet: the old or the new one was read back, or 9; and one of them stands
use Rattle.std.specs.Prelude.{◌≡◌, ℕ, ◌+◌, ◌<◌, ◌≤◌, true, false, ◌⊎◌, List, Some, None, Ok, Err, Option, Result, slice_set}
use Rattle.disk.specs.Sectors.{Sector, DiskState, unreadable, holds, count, At}
use Rattle.disk.specs.Faults.{Answer, refusal_of}
use Rattle.disk.specs.Rules.{Cut, ReadOff}
use Rattle.refusal.specs.Refusals.{number_of}
use Rattle.refusal.specs.declared.Refusal.{Refusal}
use Rattle.refusal.specs.declared.Refusal.TheVariants as refusal
use Rattle.disk.specs.declared.faults.Fault.{Fault}
use Rattle.disk.specs.declared.faults.Fault.TheVariants.{PowerOff, Unreadable, NoSuchSector}

abbrev pub Both : ℕ → ℕ → List ℕ → DiskState → Type 0
Both first second sheet d = At d first (holds sheet) × At d second (holds sheet)

pub data Standing (first second : ℕ) (d : DiskState) (s : ℕ) (sheet : List ℕ) : Type 0 where
  on-first : s ≡ first → At d first (holds sheet) → Standing first second d s sheet
  on-second : s ≡ second → At d first unreadable → At d second (holds sheet) → Standing first second d s sheet

pub data Stands (first second : ℕ) (old new : List ℕ) (d : DiskState) : Type 0 where
  old-stands : (s : ℕ) → Standing first second d s old → Stands first second old new d
  new-stands : (s : ℕ) → Standing first second d s new → Stands first second old new d

pub record Doubled (first second : ℕ) (new : List ℕ) (d e : DiskState) : Type 0 where
  pub was-on : d.power ≡ true
  pub first-exists : first < count d
  pub second-exists : second < count d
  pub is-on : e.power ≡ true
  pub written : e.sectors ≡ slice_set (slice_set d.sectors first (holds new)) second (holds new)

-- The sector s is named; l are the sectors after. The second copy is written only once the first one is.
pub data CutIn (first second : ℕ) (new : List ℕ) (d : DiskState) (s : ℕ) (l : List Sector) : Type 0 where
  no-power : s ≡ first → d.power ≡ false → l ≡ d.sectors → CutIn first second new d s l
  in-first : s ≡ first → d.power ≡ true → first < count d → Cut first new d.sectors l → CutIn first second new d s l
  in-second : s ≡ second → d.power ≡ true → first < count d → second < count d → Cut second new (slice_set d.sectors first (holds new)) l → CutIn first second new d s l

pub data Missing (first second : ℕ) (new : List ℕ) (d : DiskState) (l : List Sector) : Type 0 where
  no-first : count d ≤ first → l ≡ d.sectors → Missing first second new d l
  no-second : first < count d → count d ≤ second → l ≡ slice_set d.sectors first (holds new) → Missing first second new d l

abbrev pub WritesBoth : ℕ → ℕ → List ℕ → DiskState → Answer → DiskState → Type 0
WritesBoth first second new d (Ok _) e = Doubled first second new d e
WritesBoth first second new d (Err (PowerOff p)) e = (e.power ≡ false) × CutIn first second new d p e.sectors
WritesBoth first second new d (Err (Unreadable p)) e = ⊥
WritesBoth first second new d (Err NoSuchSector) e = (d.power ≡ true) × (e.power ≡ true) × Missing first second new d e.sectors

-- 9 names 0 here: the start was refused.
abbrev pub Rewrites : ℕ → ℕ → List ℕ → DiskState → Result (Option ℕ) Fault → DiskState → Type 0
Rewrites first second new d (Ok None) e = Doubled first second new d e
Rewrites first second new d (Ok (Some s)) e = (e.power ≡ true) × CutIn first second new d s e.sectors
Rewrites first second new d (Err (PowerOff p)) e = (p ≡ 0) × (e.power ≡ false) × ((s : ℕ) × CutIn first second new d s e.sectors)
Rewrites first second new d (Err (Unreadable p)) e = ⊥
Rewrites first second new d (Err NoSuchSector) e = (d.power ≡ true) × (e.power ≡ true) × Missing first second new d e.sectors

pub data FetchOff (first second : ℕ) (d : DiskState) (p : ℕ) (e : DiskState) : Type 0 where
  off-at-first : p ≡ first → ReadOff first d e → FetchOff first second d p e
  off-at-second : p ≡ second → d.power ≡ true → At d first unreadable → ReadOff second d e → FetchOff first second d p e

abbrev pub FetchRefused : ℕ → ℕ → DiskState → Fault → DiskState → Type 0
FetchRefused first second d (PowerOff p) e = FetchOff first second d p e
FetchRefused first second d (Unreadable p) e = (p ≡ second) × (d.power ≡ true) × At d first unreadable × At d second unreadable × (e ≡ d)
FetchRefused first second d NoSuchSector e = (d.power ≡ true) × ((count d ≤ first) ⊎ (At d first unreadable × (count d ≤ second))) × (e ≡ d)

abbrev pub Fetches : ℕ → ℕ → DiskState → List ℕ → Result ℕ Fault → DiskState → List ℕ → Type 0
Fetches first second d old (Ok s) e new = (d.power ≡ true) × Standing first second d s new × (e ≡ d)
Fetches first second d old (Err x) e new = (new ≡ old) × FetchRefused first second d x e

pub data RenewRefused (first second : ℕ) (new : List ℕ) (d : DiskState) (x : Refusal) (e : DiskState) : Type 0 where
  -- the copies lie too close, and nothing is written
  too-close : x ≡ refusal.BadNumbers → second < first + 2 → e ≡ d → RenewRefused first second new d x e
  -- a copy does not exist
  missing : x ≡ refusal.NoSuchSector → d.power ≡ true → e.power ≡ true → Missing first second new d e.sectors → RenewRefused first second new d x e
  -- the start after a cut was refused
  stays-off : x ≡ refusal.PowerOff 0 → e.power ≡ false → (s : ℕ) → CutIn first second new d s e.sectors → RenewRefused first second new d x e
  -- the copies were rewritten, with the disk m after it, and the reading back was refused
  unread : (cut : Option ℕ) (m : DiskState) (y : Fault) → x ≡ refusal_of y → Rewrites first second new d (Ok cut) m → FetchRefused first second m y e → RenewRefused first second new d x e

abbrev pub Leaves : ℕ → ℕ → List ℕ → DiskState → List ℕ → Result (Option ℕ) Refusal → DiskState → List ℕ → Type 0
Leaves first second new d old (Ok None) e back = Doubled first second new d e × (back ≡ new)
Leaves first second new d old (Ok (Some s)) e back = (e.power ≡ true) × CutIn first second new d s e.sectors × ((t : ℕ) × Standing first second e t back)
Leaves first second new d old (Err x) e back = (back ≡ old) × RenewRefused first second new d x e

abbrev pub Renewed : List ℕ → List ℕ → Result (Option ℕ) Refusal → List ℕ → Type 0
Renewed old new (Ok None) back = back ≡ new
Renewed old new (Ok (Some s)) back = (back ≡ old) ⊎ (back ≡ new)
Renewed old new (Err x) back = number_of x ≡ 9

abbrev pub Renews : ℕ → ℕ → List ℕ → DiskState → Result (Option ℕ) Refusal → DiskState → List ℕ → Type 0
Renews first second new d r e back = first + 2 ≤ second → (old : List ℕ) → Both first second old d → Renewed old new r back × Stands first second old new e
