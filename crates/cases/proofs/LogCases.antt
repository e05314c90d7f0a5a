-- The worked cases of the log.
--     two-records        two records of a page each, in thirds of 14 sectors, stand at 8 and 22
--     second-number      the first record after a format and a recovery has number 2
--     heads-lost         where no head can be read there is no record
use Rattle.std.proofs.Common.{◌≡◌, ℕ, ◌+◌, List, [], ◌∷◌, map, refl, ap, ◌∙◌, subst, inl, arith}
use Rattle.disk.specs.Sectors.{Sector, unreadable}
use Rattle.geometry.specs.Thirds.{next_of}
use Rattle.geometry.specs.declared.third.Third.{Third}
use Rattle.geometry.specs.declared.third.Third.TheVariants.{Zero, One}
use Rattle.cases.specs.Cases.{InLog, StandAt, BeginsWith, NoneAt}
use Rattle.thirds.specs.Words.{head, says}
use Rattle.thirds.specs.Records.{Fits, Rec, many, start}
use Rattle.thirds.specs.Search.{Placed, after, placed-here, placed-next}
use Rattle.thirds.specs.Volumes.{Down, Up, just}
use Rattle.thirds.proofs.Words.{unsaid}
use Rattle.thirds.proofs.Thirds.{next-other}
use Rattle.thirds.proofs.RecordTests.{tested}
use Rattle.thirds.proofs.Worn.{spoil-leaves}
use Rattle.thirds.proofs.Formatted.{formatted-up}
use Rattle.thirds.proofs.Settled.{reads-settled}
use Rattle.thirds.proofs.Plans.{plan-stands}
use Rattle.thirds.proofs.Recovery.{plan-safe}

abbrev one : Third → ℕ → ℕ → Rec
one k p m = record { third = k; place = p; number = m; pages = (0, []) ∷ [] }

-- a third of 14 sectors has room for one such record only
first-place : (m : ℕ) (r : Rec) → many r ≡ 1 → Placed 14 Zero Zero 8 m r → (r.third ≡ Zero) × (r.place ≡ 8)
first-place m r e (placed-here a b c) = (a, b)
first-place m r e (placed-next far n a b c) = absurd (omega (arith, e, far))

second-place : (m : ℕ) (r q : Rec) → many r ≡ 1 → many q ≡ 1 → r.third ≡ Zero → r.place ≡ 8 → Placed 14 Zero r.third (after r) (m + 1) q → Fits 14 q → q.place ≡ 22
second-place m r q e₁ e₂ a b (placed-here x y z) fit = let w : start 14 q.third ≡ 8 = ap (start 14) (x ∙ a) in absurd (omega (arith, fit.1))
second-place m r q e₁ e₂ a b (placed-next far n x y z) fit = y ∙ ap (λ k. start 14 (next_of k)) a

placed : (m : ℕ) (rs : List Rec) → InLog 14 m (1 ∷ 1 ∷ []) rs → map (λ r. r.place) rs ≡ 8 ∷ 22 ∷ []
placed m [] (l, fits, e) = cc
placed m (r ∷ []) (l, fits, e) = cc
placed m (r ∷ q ∷ []) (l, fits, e) =
    let e₁ : many r ≡ 1 = cc in
    let e₂ : many q ≡ 1 = cc in
    let one = first-place m r e₁ l.0 in
    let two : q.place ≡ 22 = second-place m r q e₁ e₂ one.0 one.1 l.1.0 fits.1.0 in
    let at : r.place ≡ 8 = one.1 in
    cc
placed m (r ∷ q ∷ p ∷ rs) (l, fits, e) = cc

pub two-records : StandAt 14 (1 ∷ 1 ∷ []) (8 ∷ 22 ∷ [])
two-records m = (
  (
    one Zero 8 m ∷ one One 22 (m + 1) ∷ [],
    ((placed-here refl refl refl, (placed-next (omega arith) (next-other Zero) refl refl refl, tt)), ((omega arith, omega arith), ((omega arith, omega arith), tt)), refl),
  ),
  placed m,
)

-- an anchor that a format wrote has number 1, and no number is missing before it
pub second-number : BeginsWith 2
second-number P T N X σ k =
    let d : Down P T N X (just 1) σ = spoil-leaves P T N 0 X Zero 1 [] σ σ (formatted-up P T N X σ k) (λ u. inl refl) in
    let p = plan-stands P T N X (just 1) σ d in (
      (let w = p.2 (omega (arith, p.1)) in (p.0, w.0, w.1)),
      λ Y s ws τ q t. (let w = (reads-settled P T N X Y (just 1) s σ ws d q).1 in
          let e : s + 1 ≡ 2 = omega (arith, w) in
          subst (λ (n : ℕ). Up P T N Y Zero n [] τ) e ((plan-safe P T N X Y (just 1) s σ ws d q).done τ t)),
    )

silent : (P m : ℕ) {x : Sector} → x ≡ unreadable → (ks : List ℕ) → says P x ≡ head m ks → ⊥
silent P m e ks h = let b = unsaid P e h in let z : ◌≡◌ {A = ℕ} 0 1 = cc in omega arith

pub heads-lost : NoneAt (8 ∷ 10 ∷ []) 8
heads-lost P T m k σ lost = (tested P T σ k 8 m).no-head (silent P m lost.0) (silent P m lost.1.0)
