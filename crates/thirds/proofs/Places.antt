-- Where laid records stand: in order, each in its third, apart from the next one.
--     all-zip, all-back      what holds of all elements, for two properties together and for a list's second part
--     laid-inside            each record stands in its third
--     laid-numbers           and has a number below the next one's
--     laid-push              one record more is laid
--     Apart                  two records do not overlap
--     apart-thirds           so in two thirds
--     apart-next             the next record is apart from all
--     placed-there           and stands in its third
--     laid-back              the records behind the anchored third are laid from the next third on
use Rattle.std.proofs.Common.{◌≡◌, ℕ, ◌+◌, ◌<◌, ◌≤◌, ◌⊎◌, List, [], ◌∷◌, ◌++◌, length, sym, refl, ap, ◌∙◌, subst, inl, inr, arith}
use Rattle.std.specs.List.{AllByRecursion}
use Rattle.std.proofs.ByRecursion.{All-weaker}
use Rattle.geometry.specs.Thirds.{next_of}
use Rattle.geometry.specs.declared.third.Third.{Third}
use Rattle.thirds.specs.Words.{Disk}
use Rattle.thirds.specs.Records.{Fits, Rec, Whole, start}
use Rattle.thirds.specs.Search.{Laid, Placed, after, placed-here, placed-next}
use Rattle.thirds.specs.Forces.{final_place, final_third}
use Rattle.thirds.proofs.Thirds.{next-same, rank, rank-next, thirds-apart}

pub all-zip : {X : Type 0} (A B C : X → Type 0) → ((x : X) → A x → B x → C x) → (xs : List X) → AllByRecursion A xs → AllByRecursion B xs → AllByRecursion C xs
all-zip A B C g [] a b = tt
all-zip A B C g (x ∷ xs) a b = (g x a.0 b.0, all-zip A B C g xs a.1 b.1)

pub all-back : {X : Type 0} (A : X → Type 0) (xs ys : List X) → AllByRecursion A (xs ++ ys) → AllByRecursion A ys
all-back A [] ys a = a
all-back A (x ∷ xs) ys a = all-back A xs ys a.1

-- a place is at another or later
abbrev Reaches : Third → Third → ℕ → Third → ℕ → Type 0
Reaches f k p j q = (rank f k < rank f j) ⊎ ((k ≡ j) × (p ≤ q))

reaches : (f k j i : Third) (p q u : ℕ) → Reaches f k p j q → Reaches f j q i u → Reaches f k p i u
reaches f k j i p q u (inl a) (inl b) = inl (omega arith)
reaches f k j i p q u (inl a) (inr b) = inl (subst (λ (x : Third). rank f k < rank f x) b.0 a)
reaches f k j i p q u (inr a) (inl b) = inl (subst (λ (x : Third). rank f x < rank f i) (sym a.0) b)
reaches f k j i p q u (inr a) (inr b) = inr (a.0 ∙ b.0, omega (arith, a.1, b.1))

placed-reaches : (T : ℕ) (f k : Third) (p m : ℕ) (r : Rec) → Placed T f k p m r → Reaches f k p r.third r.place
placed-reaches T f k p m r (placed-here a b c) = inr (sym a, omega arith)
placed-reaches T f k p m r (placed-next far n a b c) = inl (subst (λ (x : Third). rank f k < rank f x) (sym a) (let z = rank-next f k n in omega arith))

laid-reaches : (T : ℕ) (f k : Third) (p m : ℕ) (rs : List Rec) → Laid T f k p m rs → Reaches f k p (final_third k rs) (final_place p rs)
laid-reaches T f k p m [] l = inr (refl, omega arith)
laid-reaches T f k p m (r ∷ rs) l =
    reaches f k r.third (final_third r.third rs) p (after r) (final_place (after r) rs)
    (reaches f k r.third r.third p r.place (after r) (placed-reaches T f k p m r l.0) (inr (refl, omega arith)))
    (laid-reaches T f r.third (after r) (m + 1) rs l.1)

laid-before : (T : ℕ) (f k : Third) (p m : ℕ) (rs : List Rec) → Laid T f k p m rs → AllByRecursion (λ q. Reaches f q.third (after q) (final_third k rs) (final_place p rs)) rs
laid-before T f k p m [] l = tt
laid-before T f k p m (r ∷ rs) l = (laid-reaches T f r.third (after r) (m + 1) rs l.1, laid-before T f r.third (after r) (m + 1) rs l.1)

-- each record stands in its third
placed-inside : (T : ℕ) (f k : Third) (p m : ℕ) (r : Rec) → start T k ≤ p → Placed T f k p m r → start T r.third ≤ r.place
placed-inside T f k p m r l (placed-here a b c) = let e = ap (start T) a in omega arith
placed-inside T f k p m r l (placed-next far n a b c) = let e = ap (start T) a in omega arith

pub laid-inside : (T : ℕ) (f k : Third) (p m : ℕ) (rs : List Rec) → start T k ≤ p → Laid T f k p m rs → AllByRecursion (λ q. start T q.third ≤ q.place) rs
laid-inside T f k p m [] h l = tt
laid-inside T f k p m (r ∷ rs) h l =
    let here = placed-inside T f k p m r h l.0 in
    (here, laid-inside T f r.third (after r) (m + 1) rs (omega arith) l.1)

pub laid-numbers : (T : ℕ) (f k : Third) (p m : ℕ) (rs : List Rec) → Laid T f k p m rs → AllByRecursion (λ q. q.number < m + length rs) rs
laid-numbers T f k p m [] l = tt
laid-numbers T f k p m (r ∷ rs) l = (
  elim l.0 [ placed-here a b c ↦ omega arith | placed-next far n a b c ↦ omega arith ],
  All-weaker (λ q. q.number < m + 1 + length rs) (λ q. q.number < m + length (r ∷ rs)) (λ q h. omega arith) rs (laid-numbers T f r.third (after r) (m + 1) rs l.1),
)

pub laid-push : (T : ℕ) (f k : Third) (p m : ℕ) (rs : List Rec) (r : Rec) → Laid T f k p m rs → Placed T f (final_third k rs) (final_place p rs) (m + length rs) r → Laid T f k p m (rs ++ r ∷ [])
laid-push T f k p m [] r l h = (subst (λ (n : ℕ). Placed T f k p n r) (plus-zero m) h, tt)
  where
    plus-zero : (n : ℕ) → n + 0 ≡ n
    plus-zero n = omega arith
laid-push T f k p m (q ∷ rs) r l h = (l.0, laid-push T f q.third (after q) (m + 1) rs r l.1 (subst (λ (n : ℕ). Placed T f (final_third k (q ∷ rs)) (final_place p (q ∷ rs)) n r) shift h))
  where
    shift : m + length (q ∷ rs) ≡ m + 1 + length rs
    shift = omega arith

-- the next record is apart from all
abbrev pub Apart : Rec → Rec → Type 0
Apart r q = (after q ≤ r.place) ⊎ (after r ≤ q.place)

pub apart-thirds : (T : ℕ) (r q : Rec) → Fits T r → Fits T q → start T r.third ≤ r.place → start T q.third ≤ q.place → (q.third ≡ r.third → ⊥) → Apart r q
apart-thirds T r q fr fq lr lq n = elim (thirds-apart T q.third r.third) [
  | inl e ↦ absurd (n e)
  | inr (inl a) ↦ inl (omega (arith, fq.1))
  | inr (inr a) ↦ inr (omega (arith, fr.1))
]

rank-same : (f j k : Third) → rank f j < rank f k → j ≡ k → ⊥
rank-same f j k l e = let z = ap (rank f) e in omega arith

pub apart-next : (P T : ℕ) (f : Third) (m n : ℕ) (rs : List Rec) (r : Rec) (σ : Disk) → Laid T f f (start T f) m rs → AllByRecursion (Whole P T σ) rs → Fits T r
    → Placed T f (final_third f rs) (final_place (start T f) rs) n r → start T r.third ≤ r.place → AllByRecursion (Apart r) rs
apart-next P T f m n rs r σ l w fit h here =
    all-zip (λ q. (Reaches f q.third (after q) (final_third f rs) (final_place (start T f) rs)) × (start T q.third ≤ q.place)) (Whole P T σ) (Apart r) (λ q a b. one q a.0 a.1 b.0 h) rs
    (all-zip (λ q. Reaches f q.third (after q) (final_third f rs) (final_place (start T f) rs)) (λ q. start T q.third ≤ q.place)
    (λ q. (Reaches f q.third (after q) (final_third f rs) (final_place (start T f) rs)) × (start T q.third ≤ q.place)) (λ q a b. (a, b)) rs
    (laid-before T f f (start T f) m rs l) (laid-inside T f f (start T f) m rs (omega arith) l)) w
  where
    one : (q : Rec) → Reaches f q.third (after q) (final_third f rs) (final_place (start T f) rs) → start T q.third ≤ q.place → Fits T q
        → Placed T f (final_third f rs) (final_place (start T f) rs) n r → Apart r q
    one q (inl a) lq fq (placed-here x y z) = apart-thirds T r q fit fq here lq (λ e. rank-same f q.third (final_third f rs) a (e ∙ x))
    one q (inr a) lq fq (placed-here x y z) = inl (omega (arith, a.1))
    one q a lq fq (placed-next far o x y z) =
        let up = rank-next f (final_third f rs) o in
        let at-most : rank f q.third ≤ rank f (final_third f rs) = elim a [ inl b ↦ omega arith | inr b ↦ (let e = ap (rank f) b.0 in omega arith) ] in
        apart-thirds T r q fit fq here lq (λ e. let z₁ = ap (rank f) (e ∙ x) in omega arith)

pub placed-there : (T : ℕ) (f : Third) (m n : ℕ) (rs : List Rec) (r : Rec) → Laid T f f (start T f) m rs → Placed T f (final_third f rs) (final_place (start T f) rs) n r → start T r.third ≤ r.place
placed-there T f m n rs r l h = placed-inside T f (final_third f rs) (final_place (start T f) rs) n r (final-inside T f f (start T f) m rs (omega arith) l) h
  where
    final-inside : (T : ℕ) (f k : Third) (p m : ℕ) (rs : List Rec) → start T k ≤ p → Laid T f k p m rs → start T (final_third k rs) ≤ final_place p rs
    final-inside T f k p m [] h l = h
    final-inside T f k p m (r ∷ rs) h l = let here = placed-inside T f k p m r h l.0 in final-inside T f r.third (after r) (m + 1) rs (omega arith) l.1

-- The anchored third is given up: the records behind it, from the next third on.
laid-refirst : (T : ℕ) (f k : Third) (p m : ℕ) (rs : List Rec) → (k ≡ f → ⊥) → Laid T f k p m rs → AllByRecursion (λ q. q.third ≡ f → ⊥) rs → Laid T (next_of f) k p m rs
laid-refirst T f k p m [] n l a = tt
laid-refirst T f k p m (r ∷ rs) n l a = (one l.0, laid-refirst T f r.third (after r) (m + 1) rs a.0 l.1 a.1)
  where
    one : Placed T f k p m r → Placed T (next_of f) k p m r
    one (placed-here x y z) = placed-here x y z
    one (placed-next far o x y z) = placed-next far (λ e. n (next-same k f e)) x y z

pub laid-back : (T : ℕ) (f k : Third) (p m : ℕ) (front back : List Rec) → k ≡ f → Laid T f k p m (front ++ back) → AllByRecursion (λ q. q.third ≡ f) front → AllByRecursion (λ q. q.third ≡ f → ⊥) back
    → Laid T (next_of f) (next_of f) (start T (next_of f)) (m + length front) back
laid-back T f k p m [] [] e l a b = tt
laid-back T f k p m [] (r ∷ back) e l a b = (one l.0, rest)
  where
    plus-zero : m + 0 ≡ m
    plus-zero = omega arith

    one : Placed T f k p m r → Placed T (next_of f) (next_of f) (start T (next_of f)) (m + 0) r
    one (placed-here x y z) = absurd (b.0 (x ∙ e))
    one (placed-next far o x y z) = placed-here (x ∙ ap next_of e) (y ∙ ap (λ j. start T (next_of j)) e) (z ∙ sym plus-zero)

    rest : Laid T (next_of f) r.third (after r) (m + 0 + 1) back
    rest = subst (λ (n : ℕ). Laid T (next_of f) r.third (after r) (n + 1) back) (sym plus-zero) (laid-refirst T f r.third (after r) (m + 1) back b.0 l.1 b.1)
laid-back T f k p m (r ∷ front) back e l a b =
    subst (λ (n : ℕ). Laid T (next_of f) (next_of f) (start T (next_of f)) n back) shift (laid-back T f r.third (after r) (m + 1) front back a.0 l.1 a.1 b)
  where
    shift : m + 1 + length front ≡ m + length (r ∷ front)
    shift = omega arith
