-- A force always has room for its record.
--     laid-split        the records of the anchored third come first, and behind them those of the others
--     force-stands      behind the last record, in the next third, or in the anchored one
use Rattle.std.proofs.Common.{◌≡◌, ℕ, ◌+◌, ◌*◌, ◌≤◌, subst, List, [], ◌∷◌, ◌++◌, length, sym, refl, ap, ◌∙◌, inl, inr, arith}
use Rattle.std.specs.List.{AllByRecursion}
use Rattle.std.proofs.lemmas.Bool.{cases_lt}
use Rattle.geometry.specs.Places.{first_homes, second_homes}
use Rattle.geometry.specs.Thirds.{next_of}
use Rattle.geometry.specs.declared.third.Third.{Third}
use Rattle.thirds.specs.Words.{Rise}
use Rattle.thirds.specs.Records.{Numbered, Page, Rec, layout, numbers, start}
use Rattle.thirds.specs.Search.{Laid, Placed, after, placed-here, placed-next}
use Rattle.thirds.specs.Homes.{carry}
use Rattle.thirds.specs.Recovery.{both_anchors}
use Rattle.thirds.specs.Forces.{ForceStands, final_place, final_third, force-on, force-round}
use Rattle.thirds.proofs.Words.{few}
use Rattle.thirds.proofs.RecordWords.{length-numbers}
use Rattle.thirds.proofs.Thirds.{third-cases}

-- The records of the anchored third come first.
laid-away : (T : ℕ) (f k : Third) (p m : ℕ) (rs : List Rec) → (k ≡ f → ⊥) → Laid T f k p m rs → AllByRecursion (λ q. q.third ≡ f → ⊥) rs
laid-away T f k p m [] n l = tt
laid-away T f k p m (r ∷ rs) n l = let here = one l.0 in (here, laid-away T f r.third (after r) (m + 1) rs here l.1)
  where
    one : Placed T f k p m r → r.third ≡ f → ⊥
    one (placed-here x y z) e = n (sym x ∙ e)
    one (placed-next far o x y z) e = o (sym x ∙ e)

pub laid-split : (T : ℕ) (f k : Third) (p m : ℕ) (rs : List Rec) → Laid T f k p m rs
    → (front : List Rec) × (back : List Rec) × (rs ≡ front ++ back) × AllByRecursion (λ q. q.third ≡ f) front × AllByRecursion (λ q. q.third ≡ f → ⊥) back
laid-split T f k p m [] l = ([], [], refl, tt, tt)
laid-split T f k p m (r ∷ rs) l = elim (third-cases r.third f) [
  | inl e ↦ (let (front, back, same, a, b) = laid-split T f r.third (after r) (m + 1) rs l.1 in (r ∷ front, back, ap (λ qs. r ∷ qs) same, (e, a), b))
  | inr n ↦ ([], r ∷ rs, refl, tt, (n, laid-away T f r.third (after r) (m + 1) rs n l.1))
]

pub force-stands : ForceStands
force-stands P T N X f m rs σ ps some rise calm num k =
    let short : length ps ≤ P = omega (arith, few 0 P (numbers ps) (omega arith) rise, length-numbers ps) in
    let numbered : (r : Rec) → r.number ≡ m + length rs → r.pages ≡ ps → Numbered P r = (λ r e g. record { few = k.good.0.1; small = omega (arith, e); rising = subst (λ (qs : List Page). Rise 0 P (numbers qs)) (sym g) rise }) in
    let kf = final_third f rs in
    let pf = final_place (start T f) rs in
    let n = m + length rs in
    let here : Rec = record { third = kf; place = pf; number = n; pages = ps } in
    let there : Rec = record { third = next_of kf; place = start T (next_of kf); number = n; pages = ps } in
    let again : Rec = record { third = f; place = start T f; number = n; pages = ps } in
    elim (cases_lt (pf + 5 + 2 * length ps) (start T kf + T)) [
      | inl l ↦ (here, layout here, refl, force-on (placed-here refl refl refl) (some, l) (record { numbered = numbered here refl refl; calm = calm }) refl)
      | inr far ↦ elim (third-cases (next_of kf) f) [
        | inr o ↦ (there, layout there, refl, force-on (placed-next far o refl refl refl) (some, omega (arith, k.good.0.2)) (record { numbered = numbered there refl refl; calm = calm }) refl)
        | inl turn ↦ (let (front, back, same, a, b) = laid-split T f f (start T f) m rs k.core.laid in (
          again,
          (carry f rs X (first_homes T) (second_homes P T) P ++ both_anchors (next_of f) (m + length front)) ++ layout again,
          refl,
          force-round front back same a b turn far refl refl refl (some, omega (arith, k.good.0.2)) (record { numbered = numbered again refl refl; calm = calm }) refl,
        ))
      ]
    ]
