-- What down or up together with a call decides.
--     unnumbered     an answer without its number
--     Decides        each call does what it may do
use Rattle.std.specs.Prelude.{ℕ, Ok, Err, Result}
use Rattle.disk.specs.Sectors.{DiskState}
use Rattle.journal.specs.Calls.{ChangeDoes, ForceDoes, ShutDoes, RecoverDoes, DataDoes}
use Rattle.journal.specs.Formats.{FormatDoes}
use Rattle.journal.specs.declared.inner.Inner.{Inner}
use Rattle.journal.specs.declared.journal.Call.{Call}
use Rattle.journal.specs.declared.journal.Call.TheVariants.{Change, Force, Shut, Recover, Data, Format}
use Rattle.refusal.specs.declared.Refusal.{Refusal}

abbrev pub unnumbered : Result ℕ Refusal → Result (Unit {0}) Refusal
unnumbered (Ok n) = Ok tt
unnumbered (Err x) = Err x

abbrev pub Decides : Call → Inner → DiskState → Result ℕ Refusal → Inner → DiskState → Type 0
Decides (Change page image) i d r j e = ChangeDoes page image.now i d (unnumbered r) j e
Decides Force i d r j e = ForceDoes i d r j e
Decides Shut i d r j e = ShutDoes i d (unnumbered r) j e
Decides Recover i d r j e = RecoverDoes i d (unnumbered r) j e
Decides (Data sector bytes) i d r j e = DataDoes sector bytes.now i d (unnumbered r) j e
Decides (Format third images) i d r j e = FormatDoes third images.now i d (unnumbered r) j e
