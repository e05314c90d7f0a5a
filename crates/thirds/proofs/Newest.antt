-- The newest image of a page, and the third that has it.
--     newest-parts         of records in two parts it is the second part's, or else the first one's
--     pictured-push        one record more changes the images of its pages
--     pictured-same        the same sectors have the same image
--     calm-in              an image is one of the record's or the one before
--     holder-front         an image that only the first part has is in that part's third
--     same-third-self      a third is the same as itself
use Rattle.std.proofs.Common.{◌≡◌, ℕ, true, eqb, ◌⊎◌, List, [], ◌∷◌, ◌++◌, Some, None, Option, sym, refl, ap, ◌∙◌, subst, inl, inr}
use Rattle.std.specs.List.{AllByRecursion}
use Rattle.std.proofs.lemmas.Bool.{cond_both}
use Rattle.disk.specs.Sectors.{Sector}
use Rattle.geometry.specs.declared.third.Third.{Third}
use Rattle.geometry.specs.declared.third.Third.TheVariants.{One, Two, Zero}
use Rattle.thirds.specs.Words.{Calm, word_of}
use Rattle.thirds.specs.Records.{Page, Rec}
use Rattle.thirds.specs.Homes.{Pictured, held_by, holder, image_in, newest, or_else, same_third}
use Rattle.thirds.specs.Forces.{changed}

or-else-three : (a b c : Option (List ℕ)) → or_else (or_else a b) c ≡ or_else a (or_else b c)
or-else-three (Some x) b c = refl
or-else-three None b c = refl

or-else-none : (a : Option (List ℕ)) → or_else a None ≡ a
or-else-none (Some x) = refl
or-else-none None = refl

pub newest-parts : (front back : List Rec) (i : ℕ) → newest (front ++ back) i ≡ or_else (newest back i) (newest front i)
newest-parts [] back i = sym (or-else-none (newest back i))
newest-parts (r ∷ front) back i =
    ap (λ o. or_else o (image_in r.pages i)) (newest-parts front back i) ∙ or-else-three (newest back i) (newest front i) (image_in r.pages i)

pictured-changed : (o q : Option (List ℕ)) (a b : Sector) (x y : List ℕ) → y ≡ changed o x → Pictured q a b x → Pictured (or_else o q) a b y
pictured-changed (Some z) q a b x y e p = sym e
pictured-changed None q a b x y e p = subst (Pictured q a b) (sym e) p

pub pictured-push : (rs : List Rec) (r : Rec) (i : ℕ) (a b : Sector) (x y : List ℕ) → y ≡ changed (image_in r.pages i) x → Pictured (newest rs i) a b x → Pictured (newest (rs ++ r ∷ []) i) a b y
pictured-push rs r i a b x y e p = subst (λ (o : Option (List ℕ)). Pictured o a b y) (sym (newest-parts rs (r ∷ []) i)) (pictured-changed (image_in r.pages i) (newest rs i) a b x y e p)

pub pictured-same : (o : Option (List ℕ)) {a b c d : Sector} (x : List ℕ) → c ≡ a → d ≡ b → Pictured o a b x → Pictured o c d x
pictured-same o {a} {b} {c} {d} x e g p = subst (λ (z : Sector). Pictured o z d x) (sym e) (subst (λ (z : Sector). Pictured o a z x) (sym g) p)

-- an image is one of the record's or the one before
pub calm-in : (P : ℕ) (ps : List Page) (i : ℕ) (x : List ℕ) → AllByRecursion (λ p. Calm (word_of P p.1)) ps → Calm (word_of P x) → Calm (word_of P (changed (image_in ps i) x))
calm-in P [] i x a c = c
calm-in P (p ∷ ps) i x a c = cond_both (eqb i p.0) (Some p.1) (image_in ps i) (λ o. Calm (word_of P (changed o x))) (λ e. a.0) (λ e. calm-in P ps i x a.1 c)

-- What is carried home is all that the given-up third had.
none-left : (a b : Option (List ℕ)) → or_else a b ≡ None → (a ≡ None) × (b ≡ None)
none-left (Some x) b e = (cc, cc)
none-left None b e = (refl, e)

holder-none : (rs : List Rec) (i : ℕ) → newest rs i ≡ None → holder rs i ≡ None
holder-none [] i e = refl
holder-none (r ∷ rs) i e =
    let z = none-left (newest rs i) (image_in r.pages i) e in
    ap (λ o. held_by o (image_in r.pages i) r.third) (holder-none rs i z.0) ∙ ap (λ o. held_by None o r.third) z.1

held-cases : (o : Option (List ℕ)) (k f : Third) → k ≡ f → ((o ≡ None) × (held_by None o k ≡ None)) ⊎ (held_by None o k ≡ Some f)
held-cases None k f e = inl (refl, refl)
held-cases (Some y) k f e = inr (ap Some e)

pub holder-front : (f : Third) (front back : List Rec) (i : ℕ) → AllByRecursion (λ q. q.third ≡ f) front → newest back i ≡ None
    → ((newest front i ≡ None) × (holder (front ++ back) i ≡ None)) ⊎ (holder (front ++ back) i ≡ Some f)
holder-front f [] back i a e = inl (refl, holder-none back i e)
holder-front f (r ∷ front) back i a e = elim (holder-front f front back i a.1 e) [
  | inr h ↦ inr (ap (λ o. held_by o (image_in r.pages i) r.third) h)
  | inl (x, y) ↦ elim (held-cases (image_in r.pages i) r.third f a.0) [
    | inl (u, v) ↦ inl (ap (λ o. or_else o (image_in r.pages i)) x ∙ u, ap (λ o. held_by o (image_in r.pages i) r.third) y ∙ v)
    | inr v ↦ inr (ap (λ o. held_by o (image_in r.pages i) r.third) y ∙ v)
  ]
]

pub same-third-self : (k : Third) → same_third k k ≡ true
same-third-self Zero = refl
same-third-self One = refl
same-third-self Two = refl
