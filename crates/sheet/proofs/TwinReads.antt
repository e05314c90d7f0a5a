-- Why the reading of two copies is refused.
--     first-unread         the read of the first copy was refused, and not since it is unreadable
--     second-unread        the first copy is unreadable, and the read of the second was refused
use Rattle.std.proofs.Common.{◌≡◌, ℕ, true, refl, subst, inl, inr}
use Rattle.disk.specs.Sectors.{DiskState, unreadable, At}
use Rattle.disk.specs.Rules.{ReadRefused}
use Rattle.disk.specs.declared.faults.Fault.{Fault}
use Rattle.disk.specs.declared.faults.Fault.TheVariants.{PowerOff, Unreadable, NoSuchSector}
use Rattle.sheet.specs.Twins.{off-at-first, off-at-second, FetchRefused}

module _ (first second : ℕ) where
  pub first-unread : (d e : DiskState) (x : Fault) → ((p : ℕ) → x ≡ Unreadable p → ⊥) → ReadRefused first d x e → FetchRefused first second d x e
  first-unread d e (PowerOff p) other h = off-at-first h.0 h.1
  first-unread d e (Unreadable p) other h = absurd (other p refl)
  first-unread d e NoSuchSector other h = (h.0, inl h.1, h.2)

  lost-unread : (d e : DiskState) (x : Fault) → d.power ≡ true → At d first unreadable → ReadRefused second d x e → FetchRefused first second d x e
  lost-unread d e (PowerOff p) on lost h = off-at-second h.0 on lost h.1
  lost-unread d e (Unreadable p) on lost h = (h.0, on, lost, h.2, h.3)
  lost-unread d e NoSuchSector on lost h = (on, inr (lost, h.1), h.2)

  pub second-unread : (d m e : DiskState) (x y : Fault) (p : ℕ) → x ≡ Unreadable p → ReadRefused first d x m → ReadRefused second m y e → FetchRefused first second d y e
  second-unread d m e x y p is first_read second-read =
      let h = subst (λ (z : Fault). ReadRefused first d z m) is first_read in
      lost-unread d e y h.1 h.2 (subst (λ (z : DiskState). ReadRefused second z y e) h.3 second-read)
