-- What a format writes, and what it may do.
--     zeros             a sector of zeros
--     zero_run          so many of them from a sector on
--     zero_writes       zeros over headers, anchors and log
--     header_writes     both headers
--     format_writes     zeros over headers, anchors and log; the pages, twice; the anchors; last the headers
--     FormatGood        the numbers are good, and there is a loggable image for each page
--     Answered          the call answers what its writes were answered
--     FormatDown        a format of a down journal
--     FormatDoes        and of any
use Rattle.std.specs.Prelude.{◌≡◌, ℕ, ◌+◌, ◌*◌, ◌^◌, ◌<◌, List, [], ◌∷◌, ◌++◌, length, replicate, Ok, Err, Result}
use Rattle.std.specs.List.{AllByRecursion}
use Rattle.disk.specs.Faults.{Answer, refusal_of}
use Rattle.disk.specs.Rules.{Starts}
use Rattle.disk.specs.Sectors.{DiskState, count}
use Rattle.disk.specs.WriteLists.{Write, Wrote, run_of}
use Rattle.disk.specs.declared.faults.Fault.{Fault}
use Rattle.geometry.specs.Places.{Good, first_homes, second_homes}
use Rattle.geometry.specs.declared.third.Third.TheVariants.{Zero}
use Rattle.journal.specs.Calls.{Rest, Loggable}
use Rattle.journal.specs.declared.inner.Inner.{Inner}
use Rattle.journal.specs.declared.inner.State.TheVariants.{Down, Up}
use Rattle.refusal.specs.declared.Refusal.{Refusal}
use Rattle.refusal.specs.declared.Refusal.TheVariants.{BadNumbers, VolumeUp}
use Rattle.thirds.specs.Words.{header_bytes}
use Rattle.thirds.specs.Cuts.{write}
use Rattle.thirds.specs.Recovery.{both_anchors}

unfoldable pub zeros : List ℕ
zeros = replicate 512 0

abbrev pub zero_run : ℕ → ℕ → List Write
zero_run first n = run_of first (replicate n zeros)

abbrev pub zero_writes : ℕ → List Write
zero_writes T = write 0 zeros ∷ write 2 zeros ∷ zero_run 4 (4 + 3 * T)

abbrev pub header_writes : ℕ → ℕ → ℕ → List Write
header_writes P T N = write 0 (header_bytes P T N) ∷ write 2 (header_bytes P T N) ∷ []

abbrev pub format_writes : ℕ → ℕ → ℕ → List (List ℕ) → List Write
format_writes P T N images =
    zero_writes T ++ (run_of (first_homes T) images ++ (run_of (second_homes P T) images ++ (both_anchors Zero 1 ++ header_writes P T N)))

abbrev pub FormatGood : ℕ → List (List ℕ) → ℕ → Type 0
FormatGood T images N = Good (length images) T N × AllByRecursion Loggable images

abbrev pub Answered : Answer → Result (Unit {0}) Refusal → Type 0
Answered (Ok _) r = r ≡ Ok tt
Answered (Err x) r = r ≡ Err (refusal_of x)

pub data FormatDown (T : ℕ) (images : List (List ℕ)) (d : DiskState) (r : Result (Unit {0}) Refusal) (e : DiskState) : Type 0 where
  bad-numbers : (FormatGood T images (count d) → ⊥) → r ≡ Err BadNumbers → e ≡ d → FormatDown T images d r e
  not-started : FormatGood T images (count d) → (x : Fault) → Starts d (Err x) e → r ≡ Err (refusal_of x) → FormatDown T images d r e
  good-numbers : FormatGood T images (count d) → count d < 2 ^ 32 → (m : DiskState) → Starts d (Ok tt) m → (answer : Answer) → Wrote (format_writes (length images) T (count d) images) m answer e
      → Answered answer r → FormatDown T images d r e

abbrev pub FormatDoes : ℕ → List (List ℕ) → Inner → DiskState → Result (Unit {0}) Refusal → Inner → DiskState → Type 0
FormatDoes T images i d r j e = elim i.state [ Down ↦ (j ≡ i) × FormatDown T images d r e | Up v ↦ (r ≡ Err VolumeUp) × Rest i d j e ]
