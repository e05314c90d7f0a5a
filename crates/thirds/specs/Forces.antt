-- What a force writes, and what it keeps.
--     final_third       the third in which the last record ends
--     final_place       the place right behind it
--     changed           an image, or else the one before
--     Changes           the images after the pages of a record changed
--     Forces            the writes of a force of a record: behind the last one or in the next third; or in the anchored third, which is given up first
--     leaves            the anchored third, its first number and the live records afterwards
--     from_to_next      between a number and the one after it
--     ForceSafe         wherever the power fails in a force the images can be recovered as before it or as after it; when all is done the volume is up with those after it, and one number more is used
--     ForceStands       there is always room for a record
use Rattle.std.specs.Prelude.{◌≡◌, ℕ, ◌+◌, ◌*◌, ◌^◌, ◌<◌, ◌≤◌, ◌⊎◌, List, [], ◌∷◌, ◌++◌, length, Some, None, Option, ◌≢◌}
use Rattle.std.specs.List.{AllByRecursion}
use Rattle.disk.specs.WriteLists.{Write}
use Rattle.geometry.specs.Places.{first_homes, second_homes}
use Rattle.geometry.specs.Thirds.{next_of}
use Rattle.geometry.specs.declared.third.Third.{Third}
use Rattle.thirds.specs.Words.{word_of, Calm, Rise, Disk, Images}
use Rattle.thirds.specs.Cuts.{From}
use Rattle.thirds.specs.Records.{start, Page, Rec, numbers, many, layout, Proper, Fits}
use Rattle.thirds.specs.Search.{after, Placed}
use Rattle.thirds.specs.Homes.{image_in, carry}
use Rattle.thirds.specs.Volumes.{Span, Down, Up}
use Rattle.thirds.specs.Recovery.{both_anchors}

abbrev pub final_third : Third → List Rec → Third
final_third k [] = k
final_third k (r ∷ rs) = final_third r.third rs

abbrev pub final_place : ℕ → List Rec → ℕ
final_place p [] = p
final_place p (r ∷ rs) = final_place (after r) rs

abbrev pub changed : Option (List ℕ) → List ℕ → List ℕ
changed (Some y) x = y
changed None x = x

abbrev pub Changes : ℕ → Images → List Page → Images → Type 0
Changes P X ps Y = (i : ℕ) → i < P → Y i ≡ changed (image_in ps i) (X i)

pub data Forces (P T : ℕ) (X : Images) (f : Third) (m : ℕ) (rs : List Rec) (r : Rec) (ws : List Write) : Type 0 where
  force-on : Placed T f (final_third f rs) (final_place (start T f) rs) (m + length rs) r → Fits T r → Proper P r → ws ≡ layout r → Forces P T X f m rs r ws
  force-round : (front back : List Rec) → rs ≡ front ++ back → AllByRecursion (λ q. q.third ≡ f) front → AllByRecursion (λ q. q.third ≢ f) back
      → next_of (final_third f rs) ≡ f → start T (final_third f rs) + T ≤ final_place (start T f) rs + 5 + 2 * many r
      → r.third ≡ f → r.place ≡ start T f → r.number ≡ m + length rs → Fits T r → Proper P r
      → ws ≡ (carry f rs X (first_homes T) (second_homes P T) P ++ both_anchors (next_of f) (m + length front)) ++ layout r → Forces P T X f m rs r ws

abbrev pub leaves : {P T : ℕ} {X : Images} {f : Third} {m : ℕ} {rs : List Rec} {r : Rec} {ws : List Write} → Forces P T X f m rs r ws → Third × ℕ × List Rec
leaves {P} {T} {X} {f} {m} {rs} {r} (force-on h fit ok w) = (f, m, rs ++ r ∷ [])
leaves {P} {T} {X} {f} {m} {rs} {r} (force-round front back e a b turn far x y z fit ok w) = (next_of f, m + length front, back ++ r ∷ [])

abbrev pub from_to_next : ℕ → Span
from_to_next n = record { least = n; greatest = n + 1 }

abbrev pub ForceSafe : Type 0
ForceSafe = (P T N : ℕ) (X Y : Images) (f : Third) (m : ℕ) (rs : List Rec) (r : Rec) (ws : List Write) (σ : Disk)
    → Up P T N X f m rs σ → (p : Forces P T X f m rs r ws) → Changes P X r.pages Y
    → From σ ws (λ τ. Down P T N X (from_to_next (m + length rs)) τ ⊎ Down P T N Y (from_to_next (m + length rs)) τ) (λ τ. Up P T N Y (leaves p).0 (leaves p).1 (leaves p).2 τ × ((leaves p).1 + length (leaves p).2 ≡ m + length rs + 1))

abbrev pub ForceStands : Type 0
ForceStands = (P T N : ℕ) (X : Images) (f : Third) (m : ℕ) (rs : List Rec) (σ : Disk) (ps : List Page)
    → 0 < length ps → Rise 0 P (numbers ps) → AllByRecursion (λ p. Calm (word_of P p.1)) ps → m + length rs < 2 ^ 32 → Up P T N X f m rs σ → (r : Rec) × (ws : List Write) × (r.pages ≡ ps) × Forces P T X f m rs r ws
