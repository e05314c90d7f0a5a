-- A force keeps the images through every cut, and ends with the new ones.
--     force-safe      so for a record behind the last one, and for one in the anchored third
use Rattle.std.proofs.Common.{◌≡◌, ℕ, ◌^◌, ◌+◌, ◌*◌, ◌<◌, ◌≤◌, ◌⊎◌, List, [], ◌∷◌, ◌++◌, length, sym, refl, ap, ◌∙◌, subst, inl, arith}
use Rattle.std.specs.List.{AllByRecursion}
use Rattle.std.proofs.lemmas.List.{length-append, length_push}
use Rattle.disk.specs.WriteLists.{Write}
use Rattle.geometry.specs.Places.{first_homes, second_homes}
use Rattle.geometry.specs.Thirds.{next_of}
use Rattle.geometry.specs.declared.third.Third.{Third}
use Rattle.thirds.specs.Words.{Disk, Images}
use Rattle.thirds.specs.Cuts.{From}
use Rattle.thirds.specs.Records.{Fits, Proper, Rec, Whole, layout, many, start}
use Rattle.thirds.specs.Search.{Placed, after, placed-here, placed-next}
use Rattle.thirds.specs.Homes.{carry}
use Rattle.thirds.specs.Volumes.{Core, Down, Up, just}
use Rattle.thirds.specs.Recovery.{both_anchors}
use Rattle.thirds.specs.Forces.{Changes, ForceSafe, final_place, final_third, force-on, force-round, from_to_next}
use Rattle.thirds.proofs.WriteLists.{from-as, from-then, from-with}
use Rattle.thirds.proofs.Thirds.{next-other}
use Rattle.thirds.proofs.Places.{Apart, all-zip, apart-next, apart-thirds, laid-inside, placed-there}
use Rattle.thirds.proofs.SameVolume.{wider-down}
use Rattle.thirds.proofs.RecordWritten.{Room, record-from}
use Rattle.thirds.proofs.GivenUp.{giving-from}

-- The last place of the records that are left.
final-third-back : (j k : Third) (front : List Rec) (q : Rec) (back : List Rec) → final_third j (front ++ q ∷ back) ≡ final_third k (q ∷ back)
final-third-back j k [] q back = refl
final-third-back j k (r ∷ front) q back = final-third-back r.third k front q back

final-place-back : (p u : ℕ) (front : List Rec) (q : Rec) (back : List Rec) → final_place p (front ++ q ∷ back) ≡ final_place u (q ∷ back)
final-place-back p u [] q back = refl
final-place-back p u (r ∷ front) q back = final-place-back (after r) u front q back

final-front : (f k : Third) (front : List Rec) → k ≡ f → AllByRecursion (λ q. q.third ≡ f) front → final_third k (front ++ []) ≡ f
final-front f k [] e a = e
final-front f k (r ∷ front) e a = final-front f r.third front a.0 a.1

room-on : (P T : ℕ) (X : Images) (f : Third) (m : ℕ) (rs : List Rec) (r : Rec) (σ : Disk) → Core P T X f m rs σ → Placed T f (final_third f rs) (final_place (start T f) rs) (m + length rs) r → Fits T r → Proper P r → Room P T f m rs r
room-on P T X f m rs r σ c h fit ok =
    let here = placed-there T f m (m + length rs) rs r c.laid h in
    record { fits = fit; proper = ok; number = elim h [ placed-here a b e ↦ e | placed-next a b c d e ↦ e ]; within = here; placed = h; apart = apart-next P T f m (m + length rs) rs r σ c.laid c.whole fit h here }

room-round : (P T : ℕ) (X : Images) (f : Third) (m : ℕ) (front back : List Rec) (r : Rec) (σ : Disk) → Core P T X (next_of f) (m + length front) back σ
    → AllByRecursion (λ q. q.third ≡ f) front → AllByRecursion (λ q. q.third ≡ f → ⊥) back → next_of (final_third f (front ++ back)) ≡ f
    → start T (final_third f (front ++ back)) + T ≤ final_place (start T f) (front ++ back) + 5 + 2 * many r
    → r.third ≡ f → r.place ≡ start T f → r.number ≡ m + length front + length back → Fits T r → Proper P r → Room P T (next_of f) (m + length front) back r
room-round P T X f m front [] r σ c a b turn far x y z fit ok = absurd (next-other f (ap next_of (sym (final-front f f front refl a)) ∙ turn))
room-round P T X f m front (q ∷ back) r σ c a b turn far x y z fit ok =
    let e₁ : final_third f (front ++ q ∷ back) ≡ final_third (next_of f) (q ∷ back) = final-third-back f (next_of f) front q back in
    let e₂ : final_place (start T f) (front ++ q ∷ back) ≡ final_place (start T (next_of f)) (q ∷ back) = final-place-back (start T f) (start T (next_of f)) front q back in
    let k = final_third (next_of f) (q ∷ back) in
    let turn' : next_of k ≡ f = ap next_of (sym e₁) ∙ turn in
    let begins = ap (start T) e₁ in
    let starts = ap (start T) x in
    record {
      fits = fit;
      proper = ok;
      number = z;
      within = omega arith;
      placed = placed-next (omega arith) (λ e. next-other f (sym e ∙ turn')) (x ∙ sym turn') (y ∙ ap (start T) (sym turn')) z;
      apart = all-zip (λ p. (start T p.third ≤ p.place) × (p.third ≡ f → ⊥)) (Whole P T σ) (Apart r) (λ p u h. apart-thirds T r p fit h.0 (omega arith) u.0 (λ e. u.1 (e ∙ x))) (q ∷ back)
          (all-zip (λ p. start T p.third ≤ p.place) (λ p. p.third ≡ f → ⊥) (λ p. (start T p.third ≤ p.place) × (p.third ≡ f → ⊥)) (λ p u h. (u, h)) (q ∷ back)
          (laid-inside T (next_of f) (next_of f) (start T (next_of f)) (m + length front) (q ∷ back) (omega arith) c.laid) b) c.whole;
    }

-- Going round, with the records in two parts.
module _ (P T N : ℕ) (X Y : Images) (f : Third) (m : ℕ) (front back : List Rec) (r : Rec) (ws : List Write) (σ : Disk) where
  abbrev Goal : List Rec → Type 0
  Goal all = Up P T N X f m all σ → next_of (final_third f all) ≡ f → start T (final_third f all) + T ≤ final_place (start T f) all + 5 + 2 * many r → r.number ≡ m + length all
      → ws ≡ (carry f all X (first_homes T) (second_homes P T) P ++ both_anchors (next_of f) (m + length front)) ++ layout r
      → From σ ws (λ τ. Down P T N X (from_to_next (m + length all)) τ ⊎ Down P T N Y (from_to_next (m + length all)) τ) (λ τ. Up P T N Y (next_of f) (m + length front) (back ++ r ∷ []) τ × (m + length front + length (back ++ r ∷ []) ≡ m + length all + 1))

  round : Changes P X r.pages Y → AllByRecursion (λ q. q.third ≡ f) front → AllByRecursion (λ q. q.third ≡ f → ⊥) back → r.third ≡ f → r.place ≡ start T f → Fits T r → Proper P r → Goal (front ++ back)
  round ch a b x y fit ok k turn far z w =
      let same-long : m + length (front ++ back) ≡ m + length front + length back = omega (arith, length-append front back) in
      let small : m + length front < 2 ^ 32 = omega (arith, ok.numbered.small) in
      let L : Disk → Type 0 = (λ τ. Down P T N X (from_to_next (m + length (front ++ back))) τ ⊎ Down P T N Y (from_to_next (m + length (front ++ back))) τ) in
      let U : Disk → Type 0 = Up P T N X (next_of f) (m + length front) back in
      let K : Disk → Type 0 = (λ τ. Up P T N Y (next_of f) (m + length front) (back ++ r ∷ []) τ × (m + length front + length (back ++ r ∷ []) ≡ m + length (front ++ back) + 1)) in
      let giving = giving-from P T N X f m front back small a b σ k in
      from-as L K σ ws _ w
      (from-then L K U σ _ (layout r) (record { cut = λ τ t. inl (wider-down P T N X (just (m + length (front ++ back))) (from_to_next (m + length (front ++ back))) τ (omega arith, omega arith) (giving.cut τ t)); done = giving.done })
      (λ ρ k'. (let v = record-from P T N X (next_of f) (m + length front) back r Y ch (room-round P T X f m front back r ρ k'.core a b turn far x y (z ∙ same-long) fit ok) ρ k' in
      record {
        cut = λ τ t. subst (λ (i : ℕ). Down P T N X (from_to_next i) τ ⊎ Down P T N Y (from_to_next i) τ) (sym same-long) (v.cut τ t);
        done = λ τ d. (v.done τ d, omega (arith, same-long, length_push back r));
      })))

pub force-safe : ForceSafe
force-safe P T N X Y f m rs r ws σ k (force-on h fit ok w) ch =
    let L : Disk → Type 0 = (λ τ. Down P T N X (from_to_next (m + length rs)) τ ⊎ Down P T N Y (from_to_next (m + length rs)) τ) in
    let K : Disk → Type 0 = (λ τ. Up P T N Y f m (rs ++ r ∷ []) τ × (m + length (rs ++ r ∷ []) ≡ m + length rs + 1)) in
    from-as L K σ ws (layout r) w
    (from-with L K (Up P T N Y f m (rs ++ r ∷ [])) σ (layout r) (record-from P T N X f m rs r Y ch (room-on P T X f m rs r σ k.core h fit ok) σ k) (λ τ d u. (u, omega (arith, length_push rs r))))
force-safe P T N X Y f m rs r ws σ k (force-round front back e a b turn far x y z fit ok w) ch =
    let G : List Rec → Type 0 = Goal P T N X Y f m front back r ws σ in
    let goal : G rs = subst G (sym e) (round P T N X Y f m front back r ws σ ch a b x y fit ok) in
    goal k turn far z w
