-- Which third has a page's newest record, after records are added and after a third is given up.
--     or_third            a third, or else another
--     holder-parts        of records in two parts it is the second part's, or else the first one's
--     holder-push         one record more has its own pages
--     same-third-other    a third is not the same as another
--     holder-back         what is left when the first part's third is given up is the second part's
use Rattle.std.proofs.Common.{◌≡◌, ℕ, Bool, true, false, cond, List, [], ◌∷◌, ◌++◌, Some, None, Option, refl, ap, ◌∙◌}
use Rattle.std.specs.List.{AllByRecursion}
use Rattle.std.proofs.lemmas.Bool.{cond-false, cond-true}
use Rattle.geometry.specs.declared.third.Third.{Third}
use Rattle.geometry.specs.declared.third.Third.TheVariants.{One, Two, Zero}
use Rattle.thirds.specs.Records.{Rec}
use Rattle.thirds.specs.Homes.{held_by, holder, image_in, in_third, same_third}
use Rattle.thirds.proofs.Newest.{same-third-self}

abbrev pub or_third : Option Third → Option Third → Option Third
or_third (Some k) o = Some k
or_third None o = o

or-third-none : (a : Option Third) → a ≡ or_third a None
or-third-none (Some k) = refl
or-third-none None = refl

held-later : (a b : Option Third) (o : Option (List ℕ)) (k : Third) → held_by (or_third a b) o k ≡ or_third a (held_by b o k)
held-later (Some j) b o k = refl
held-later None b o k = refl

pub holder-parts : (front back : List Rec) (i : ℕ) → holder (front ++ back) i ≡ or_third (holder back i) (holder front i)
holder-parts [] back i = or-third-none (holder back i)
holder-parts (r ∷ front) back i = ap (λ o. held_by o (image_in r.pages i) r.third) (holder-parts front back i) ∙ held-later (holder back i) (holder front i) (image_in r.pages i) r.third

held-some : (b : Bool) (x : List ℕ) (k : Third) (o : Option Third) → or_third (held_by None (cond b (Some x) None) k) o ≡ cond b (Some k) o
held-some true x k o = refl
held-some false x k o = refl

pub holder-push : (rs : List Rec) (r : Rec) (i : ℕ) (b : Bool) (x : List ℕ) → image_in r.pages i ≡ cond b (Some x) None → holder (rs ++ r ∷ []) i ≡ cond b (Some r.third) (holder rs i)
holder-push rs r i b x e = holder-parts rs (r ∷ []) i ∙ ap (λ o. or_third (held_by None o r.third) (holder rs i)) e ∙ held-some b x r.third (holder rs i)

-- the third, if there is one, passes
abbrev Passes : (Third → Type 0) → Option Third → Type 0
Passes A None = Unit {0}
Passes A (Some k) = A k

holder-passes : (A : Third → Type 0) (rs : List Rec) (i : ℕ) → AllByRecursion (λ q. A q.third) rs → Passes A (holder rs i)
holder-passes A [] i a = tt
holder-passes A (r ∷ rs) i a = one (holder rs i) (image_in r.pages i) (holder-passes A rs i a.1)
  where
    one : (h : Option Third) (o : Option (List ℕ)) → Passes A h → Passes A (held_by h o r.third)
    one (Some k) o p = p
    one None (Some x) p = a.0
    one None None p = tt

pub same-third-other : (j k : Third) → (j ≡ k → ⊥) → same_third j k ≡ false
same-third-other Zero Zero n = absurd (n refl)
same-third-other Zero One n = refl
same-third-other Zero Two n = refl
same-third-other One Zero n = refl
same-third-other One One n = absurd (n refl)
same-third-other One Two n = refl
same-third-other Two Zero n = refl
same-third-other Two One n = refl
same-third-other Two Two n = absurd (n refl)

-- a third that was given up is left out
abbrev left_of : Third → Option Third → Option Third
left_of f o = cond (in_third f o) None o

left-back : (f : Third) (a b : Option Third) → Passes (λ k. k ≡ f → ⊥) b → Passes (λ k. k ≡ f) a → left_of f (or_third b a) ≡ b
left-back f a (Some k) n e = cond-false (same_third k f) None (Some k) (same-third-other k f n)
left-back f (Some k) None n e = cond-true (same_third k f) None (Some k) (ap (λ j. same_third j f) e ∙ same-third-self f)
left-back f None None n e = refl

pub holder-back : (f : Third) (front back : List Rec) (i : ℕ) → AllByRecursion (λ q. q.third ≡ f) front → AllByRecursion (λ q. q.third ≡ f → ⊥) back
    → cond (in_third f (holder (front ++ back) i)) None (holder (front ++ back) i) ≡ holder back i
holder-back f front back i a b =
    ap (left_of f) (holder-parts front back i) ∙ left-back f (holder front i) (holder back i) (holder-passes (λ k. k ≡ f → ⊥) back i b) (holder-passes (λ k. k ≡ f) front i a)
