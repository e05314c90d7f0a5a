-- Two thirds: the same or not, one before the other, one after the other.
--     third-cases        two thirds are the same or not
--     inside             each lies between the anchors and the first homes
--     thirds-apart       two that differ do not overlap
--     next-other         the next one is another
--     next-same          and it is the next one of one third only
--     rank               how many thirds lie between the anchored one and this one
--     rank-next          one more, until the anchored one comes next
use Rattle.std.proofs.Common.{◌≡◌, ℕ, ◌+◌, ◌≤◌, ◌⊎◌, sym, refl, ap, ◌∙◌, inl, inr, arith}
use Rattle.geometry.specs.Thirds.{next_of}
use Rattle.geometry.specs.declared.third.Third.{Third}
use Rattle.geometry.specs.declared.third.Third.TheVariants.{One, Two, Zero}
use Rattle.thirds.specs.Records.{start}

pub third-cases : (j k : Third) → (j ≡ k) ⊎ (j ≡ k → ⊥)
third-cases Zero Zero = inl refl
third-cases Zero One = inr (λ e. let z : ◌≡◌ {A = ℕ} 0 1 = cc in omega arith)
third-cases Zero Two = inr (λ e. let z : ◌≡◌ {A = ℕ} 0 1 = cc in omega arith)
third-cases One Zero = inr (λ e. let z : ◌≡◌ {A = ℕ} 0 1 = cc in omega arith)
third-cases One One = inl refl
third-cases One Two = inr (λ e. let z : ◌≡◌ {A = ℕ} 0 1 = cc in omega arith)
third-cases Two Zero = inr (λ e. let z : ◌≡◌ {A = ℕ} 0 1 = cc in omega arith)
third-cases Two One = inr (λ e. let z : ◌≡◌ {A = ℕ} 0 1 = cc in omega arith)
third-cases Two Two = inl refl

pub inside : (T : ℕ) (k : Third) → (8 ≤ start T k) × (start T k + T ≤ 8 + T + T + T)
inside T Zero = (omega arith, omega arith)
inside T One = (omega arith, omega arith)
inside T Two = (omega arith, omega arith)

pub next-other : (k : Third) → next_of k ≡ k → ⊥
next-other Zero e = let z : ◌≡◌ {A = ℕ} 0 1 = cc in omega arith
next-other One e = let z : ◌≡◌ {A = ℕ} 0 1 = cc in omega arith
next-other Two e = let z : ◌≡◌ {A = ℕ} 0 1 = cc in omega arith

abbrev before : Third → Third
before Zero = Two
before One = Zero
before Two = One

before-next : (k : Third) → before (next_of k) ≡ k
before-next Zero = refl
before-next One = refl
before-next Two = refl

pub next-same : (j k : Third) → next_of j ≡ next_of k → j ≡ k
next-same j k e = sym (before-next j) ∙ ap before e ∙ before-next k

pub thirds-apart : (T : ℕ) (j k : Third) → (j ≡ k) ⊎ ((start T j + T ≤ start T k) ⊎ (start T k + T ≤ start T j))
thirds-apart T Zero Zero = inl refl
thirds-apart T Zero One = inr (inl (omega arith))
thirds-apart T Zero Two = inr (inl (omega arith))
thirds-apart T One Zero = inr (inr (omega arith))
thirds-apart T One One = inl refl
thirds-apart T One Two = inr (inl (omega arith))
thirds-apart T Two Zero = inr (inr (omega arith))
thirds-apart T Two One = inr (inr (omega arith))
thirds-apart T Two Two = inl refl

abbrev pub rank : Third → Third → ℕ
rank Zero Zero = 0
rank Zero One = 1
rank Zero Two = 2
rank One Zero = 2
rank One One = 0
rank One Two = 1
rank Two Zero = 1
rank Two One = 2
rank Two Two = 0

pub rank-next : (f k : Third) → (next_of k ≡ f → ⊥) → rank f (next_of k) ≡ rank f k + 1
rank-next Zero Zero n = refl
rank-next Zero One n = refl
rank-next Zero Two n = absurd (n refl)
rank-next One Zero n = absurd (n refl)
rank-next One One n = refl
rank-next One Two n = refl
rank-next Two Zero n = refl
rank-next Two One n = absurd (n refl)
rank-next Two Two n = refl
