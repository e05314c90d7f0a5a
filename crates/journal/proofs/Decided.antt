-- What a call does, given the state that the journal is in.
--     data-up          a write to the data of an up journal
--     recover-down     a recovery of a down one
--     format-down      a format of a down one
use Rattle.std.proofs.Common.{◌≡◌, ℕ, List, Result, refl}
use Rattle.disk.specs.Sectors.{DiskState}
use Rattle.refusal.specs.declared.Refusal.{Refusal}
use Rattle.journal.specs.Calls.{DataUp, DataDoes, RecoverDown, RecoverDoes}
use Rattle.journal.specs.Formats.{FormatDown, FormatDoes}
use Rattle.journal.specs.declared.inner.Inner.{Inner}
use Rattle.journal.specs.declared.inner.Standing.{Standing}
use Rattle.journal.specs.declared.inner.State.TheVariants.{Down, Up}

-- r is the call's answer, under another name.
module _ (i : Inner) (d : DiskState) (r q : Result (Unit {0}) Refusal) (same : q ≡ r) where
  pub data-up : (v : Standing) (s : ℕ) (bytes : List ℕ) (j : Inner) (e : DiskState) → i.state ≡ Up v → DataUp v s bytes i d r j e → DataDoes s bytes i d q j e
  data-up v s bytes j e up h = rw (up, DataDoes) (rw same h)

  pub recover-down : (j : Inner) (e : DiskState) → i.state ≡ Down → RecoverDown d r j e → RecoverDoes i d q j e
  recover-down j e down h = rw (down, RecoverDoes) (rw same h)

  pub format-down : (T : ℕ) (images : List (List ℕ)) (e : DiskState) → i.state ≡ Down → FormatDown T images d r e → FormatDoes T images i d q i e
  format-down T images e down h = rw (down, FormatDoes) (refl, rw same h)
