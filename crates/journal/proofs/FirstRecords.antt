-- The first record of each third, after records are added and after a third is given up.
--     first-other         a new first number leaves those of other thirds
--     first-here          and is the number of its own
--     firsts-moved        so it does for records that are in other thirds
--     firsts-push         one record more
--     firsts-back         the records that are left when the first part's third is given up
--     final-third-push    the last record of all is in the last third
--     final-place-push    and ends at the last place
--     none-in-final       if no record is in the last third, then there is none
--     next-away           no record is in the third after the last one, unless that is the anchored one
--     first-back          the first record behind the anchored third: it is in the next one, and has the number after those in the anchored one
--     last-away           if the anchored third comes next, then a record is behind it
use Rattle.std.proofs.Common.{◌≡◌, ℕ, ◌+◌, ◌<◌, ◌≤◌, ◌≢◌, List, [], ◌∷◌, ◌++◌, length, set, sym, refl, ap, ap₂, ◌∙◌, subst, append_assoc, arith}
use Rattle.std.specs.List.{AllByRecursion}
use Rattle.std.proofs.ByRecursion.{All-weaker}
use Rattle.std.proofs.lemmas.List.{get_or-set_other, get_or-set_same, length-append}
use Rattle.forcing.specs.Places.{first_in}
use Rattle.geometry.specs.Thirds.{next_of, number_of}
use Rattle.geometry.specs.declared.third.Third.{Third}
use Rattle.geometry.specs.declared.third.Third.TheVariants.{One, Two, Zero}
use Rattle.journal.specs.Ties.{FirstNumbers}
use Rattle.thirds.specs.Records.{Rec}
use Rattle.thirds.specs.Search.{Laid, Placed, after, placed-here, placed-next}
use Rattle.thirds.specs.Forces.{final_place, final_third}
use Rattle.thirds.proofs.Places.{all-back}
use Rattle.thirds.proofs.Thirds.{next-other, rank, rank-next}

-- numbers of thirds
number-differs : (j k : Third) → j ≢ k → number_of j ≢ number_of k
number-differs Zero Zero n e = n refl
number-differs Zero One n e = omega arith
number-differs Zero Two n e = omega arith
number-differs One Zero n e = omega arith
number-differs One One n e = n refl
number-differs One Two n e = omega arith
number-differs Two Zero n e = omega arith
number-differs Two One n e = omega arith
number-differs Two Two n e = n refl

number-small : (k : Third) → number_of k < 3
number-small Zero = omega arith
number-small One = omega arith
number-small Two = omega arith

pub first-other : (j k : Third) (firsts : List ℕ) (n : ℕ) → j ≢ k → first_in j (set firsts (number_of k) n) ≡ first_in j firsts
first-other j k firsts n ne = get_or-set_other firsts (number_of k) (number_of j) n 0 (number-differs j k ne)

pub first-here : (k : Third) (firsts : List ℕ) (n : ℕ) → length firsts ≡ 3 → first_in k (set firsts (number_of k) n) ≡ n
first-here k firsts n e = get_or-set_same firsts (number_of k) n 0 (let z = number-small k in omega arith)

-- a list in two parts, all elements of which pass
all-front : {X : Type 0} (A : X → Type 0) (xs ys : List X) → AllByRecursion A (xs ++ ys) → AllByRecursion A xs
all-front A [] ys a = tt
all-front A (x ∷ xs) ys a = (a.0, all-front A xs ys a.1)

all-both : {X : Type 0} (A : X → Type 0) (xs ys : List X) → AllByRecursion A xs → AllByRecursion A ys → AllByRecursion A (xs ++ ys)
all-both A [] ys a b = b
all-both A (x ∷ xs) ys a b = (a.0, all-both A xs ys a.1 b)

pub firsts-moved : (rs : List Rec) (firsts : List ℕ) (k : Third) (n : ℕ) → FirstNumbers rs firsts → AllByRecursion (λ q. q.third ≢ k) rs → FirstNumbers rs (set firsts (number_of k) n)
firsts-moved rs firsts k n h a front back r e b =
    let away : AllByRecursion (λ q. q.third ≢ k) (front ++ r ∷ back) = subst (AllByRecursion (λ q. q.third ≢ k)) e a in
    first-other r.third k firsts n (all-back (λ q. q.third ≢ k) front (r ∷ back) away).0 ∙ h front back r e b

-- where an element of a list with one more stands
data Found (rs : List Rec) (r : Rec) (front back : List Rec) (q : Rec) : Type 0 where
  found-last : front ≡ rs → q ≡ r → Found rs r front back q
  found-before : (rest : List Rec) → rs ≡ front ++ q ∷ rest → Found rs r front back q

no-part : (front back : List Rec) (q : Rec) → ◌≡◌ {A = List Rec} [] (front ++ q ∷ back) → ⊥
no-part front back q e = let z = ap length e in omega (arith, length-append front (q ∷ back))

find-part : (rs : List Rec) (r : Rec) (front back : List Rec) (q : Rec) → rs ++ r ∷ [] ≡ front ++ q ∷ back → Found rs r front back q
find-part [] r [] back q e = found-last refl cc
find-part [] r (p ∷ front) back q e = absurd (no-part front back q cc)
find-part (p ∷ rs) r [] back q e = found-before rs cc
find-part (p ∷ rs) r (s ∷ front) back q e =
    let same : p ≡ s = cc in
    let rest : rs ++ r ∷ [] ≡ front ++ q ∷ back = cc in
    elim (find-part rs r front back q rest) [
      | found-last a b ↦ found-last (ap₂ {B = List Rec} {C = List Rec} (λ x xs. x ∷ xs) (sym same) a) b
      | found-before more a ↦ found-before more (ap₂ {B = List Rec} {C = List Rec} (λ x xs. x ∷ xs) same a)
    ]

pub firsts-push : (rs : List Rec) (r : Rec) (firsts : List ℕ) → FirstNumbers rs firsts → (AllByRecursion (λ q. q.third ≢ r.third) rs → first_in r.third firsts ≡ r.number) → FirstNumbers (rs ++ r ∷ []) firsts
firsts-push rs r firsts h fresh front back q e a = elim (find-part rs r front back q e) [
  | found-before rest same ↦ h front rest q same a
  | found-last same is ↦
      let away : AllByRecursion (λ p. p.third ≢ r.third) rs = subst (λ (x : Rec). AllByRecursion (λ p. p.third ≢ x.third) rs) is (subst (AllByRecursion (λ p. p.third ≢ q.third)) same a) in
      subst (λ (x : Rec). first_in x.third firsts ≡ x.number) (sym is) (fresh away)
]

pub firsts-back : (f : Third) (front back : List Rec) (firsts : List ℕ) → FirstNumbers (front ++ back) firsts → AllByRecursion (λ q. q.third ≡ f) front → AllByRecursion (λ q. q.third ≢ f) back → FirstNumbers back firsts
firsts-back f front back firsts h a b first rest r e c =
    let other : r.third ≢ f = (all-back (λ q. q.third ≢ f) first (r ∷ rest) (subst (AllByRecursion (λ q. q.third ≢ f)) e b)).0 in
    h (front ++ first) rest r (ap (λ qs. front ++ qs) e ∙ sym (append_assoc front first (r ∷ rest)))
    (all-both (λ q. q.third ≢ r.third) front first (All-weaker (λ q. q.third ≡ f) (λ q. q.third ≢ r.third) (λ q is same. other (sym same ∙ is)) front a) c)

pub final-third-push : (k : Third) (rs : List Rec) (r : Rec) → final_third k (rs ++ r ∷ []) ≡ r.third
final-third-push k [] r = refl
final-third-push k (q ∷ rs) r = final-third-push q.third rs r

pub final-place-push : (p : ℕ) (rs : List Rec) (r : Rec) → final_place p (rs ++ r ∷ []) ≡ after r
final-place-push p [] r = refl
final-place-push p (q ∷ rs) r = final-place-push (after q) rs r

pub none-in-final : (f : Third) (rs : List Rec) → AllByRecursion (λ q. q.third ≢ final_third f rs) rs → rs ≡ []
none-in-final f [] a = refl
none-in-final f (r ∷ rs) a = absurd (last-there r rs a)
  where
    last-there : (r : Rec) (rs : List Rec) → AllByRecursion (λ q. q.third ≢ final_third r.third rs) (r ∷ rs) → ⊥
    last-there r [] a = a.0 refl
    last-there r (q ∷ rs) a = last-there q rs a.1

placed-rank : (T : ℕ) (f k : Third) (p m : ℕ) (r : Rec) → Placed T f k p m r → rank f k ≤ rank f r.third
placed-rank T f k p m r (placed-here x y z) = let e = ap (rank f) x in omega arith
placed-rank T f k p m r (placed-next far n x y z) = let e = ap (rank f) x in let up = rank-next f k n in omega arith

laid-ranks : (T : ℕ) (f k : Third) (p m : ℕ) (rs : List Rec) → Laid T f k p m rs → (rank f k ≤ rank f (final_third k rs)) × AllByRecursion (λ q. rank f q.third ≤ rank f (final_third k rs)) rs
laid-ranks T f k p m [] l = (omega arith, tt)
laid-ranks T f k p m (r ∷ rs) l =
    let here = placed-rank T f k p m r l.0 in
    let rest = laid-ranks T f r.third (after r) (m + 1) rs l.1 in
    (omega (arith, rest.0), (rest.0, rest.1))

pub next-away : (T : ℕ) (f : Third) (p m : ℕ) (rs : List Rec) → Laid T f f p m rs → next_of (final_third f rs) ≢ f → AllByRecursion (λ q. q.third ≢ next_of (final_third f rs)) rs
next-away T f p m rs l n =
    let up = rank-next f (final_third f rs) n in
    All-weaker (λ q. rank f q.third ≤ rank f (final_third f rs)) (λ q. q.third ≢ next_of (final_third f rs)) (λ q below same. let e = ap (rank f) same in omega arith) rs
    (laid-ranks T f f p m rs l).1

pub first-back : (T : ℕ) (f k : Third) (p m : ℕ) (front : List Rec) (q : Rec) (back : List Rec) → k ≡ f → Laid T f k p m (front ++ q ∷ back) → AllByRecursion (λ r. r.third ≡ f) front → q.third ≢ f
    → (q.third ≡ next_of f) × (q.number ≡ m + length front)
first-back T f k p m [] q back e l a n = one l.0
  where
    one : Placed T f k p m q → (q.third ≡ next_of f) × (q.number ≡ m + 0)
    one (placed-here x y z) = absurd (n (x ∙ e))
    one (placed-next far o x y z) = (x ∙ ap next_of e, omega arith)
first-back T f k p m (r ∷ front) q back e l a n =
    let rest = first-back T f r.third (after r) (m + 1) front q back a.0 l.1 a.1 n in
    (rest.0, omega (arith, rest.1))

-- the last record is in the last third
final-in : (f k : Third) (rs : List Rec) → k ≡ f → AllByRecursion (λ q. q.third ≡ f) rs → final_third k rs ≡ f
final-in f k [] e a = e
final-in f k (r ∷ rs) e a = final-in f r.third rs a.0 a.1

pub last-away : (f : Third) (rs : List Rec) → next_of (final_third f rs) ≡ f → AllByRecursion (λ q. q.third ≡ f) rs → ⊥
last-away f rs turn a = next-other f (ap next_of (sym (final-in f f rs refl a)) ∙ turn)
