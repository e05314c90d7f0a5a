-- What survives each write of a list, whole or cut, survives the list.
--     Keeps, Breaks                                 what a write keeps, and what it leaves if it is cut
--     through-keeps, torn-keeps                     the same for a list
--     torn-parts                                    a cut in a list of two parts is in the one or in the other
--     through-join                                  two lists that are done are done together
--     torn-first, torn-second                       a cut in the one or in the other is a cut in both together
--     from-none, from-one, from-then, from-all      no write, one write, one list after another, writes that keep one property
--     from-with, from-as                            with more known at the end, and for an equal list
--     holds-parts, holds-same                       what a list has for its sectors
--     Rising                                        sectors that rise, from one on
--     through-holds                                 rising writes that are done stand there
--     struck-away, torn-below                       what is far from a cut write is as before
use Rattle.std.proofs.Common.{◌≡◌, ℕ, ◌+◌, ◌<◌, ◌≤◌, ◌⊎◌, List, [], ◌∷◌, ◌++◌, sym, refl, ap, ◌∙◌, subst, inl, inr, arith}
use Rattle.std.specs.List.{AllByRecursion}
use Rattle.std.proofs.ByRecursion.{All-weaker}
use Rattle.disk.specs.WriteLists.{Write}
use Rattle.thirds.specs.Words.{Disk}
use Rattle.thirds.specs.Cuts.{From, Holds, Put, Struck, Through, Torn, struck-pair, struck-whole, write}

abbrev pub Keeps : (Disk → Type 0) → Write → Type 0
Keeps K w = (σ τ : Disk) → Put w.to w.bytes σ τ → K σ → K τ

abbrev pub Breaks : (Disk → Type 0) → (Disk → Type 0) → Write → Type 0
Breaks K L w = (σ τ : Disk) → Struck w.to w.bytes σ τ → K σ → L τ

pub through-keeps : (K : Disk → Type 0) (ws : List Write) → AllByRecursion (Keeps K) ws → (σ τ : Disk) → Through ws σ τ → K σ → K τ
through-keeps K [] a σ τ d k = subst K (sym d) k
through-keeps K (w ∷ ws) a σ τ (ρ, p, d) k = through-keeps K ws a.1 ρ τ d (a.0 σ ρ p k)

pub torn-keeps : (K L : Disk → Type 0) (ws : List Write) → AllByRecursion (Keeps K) ws → AllByRecursion (Breaks K L) ws → (σ τ : Disk) → Torn ws σ τ → K σ → L τ
torn-keeps K L [] a b σ τ t k = absurd t
torn-keeps K L (w ∷ ws) a b σ τ (inl s) k = b.0 σ τ s k
torn-keeps K L (w ∷ ws) a b σ τ (inr (ρ, p, t)) k = torn-keeps K L ws a.1 b.1 ρ τ t (a.0 σ ρ p k)

-- A list in two parts.
through-parts : (ws vs : List Write) (σ τ : Disk) → Through (ws ++ vs) σ τ → (ρ : Disk) × Through ws σ ρ × Through vs ρ τ
through-parts [] vs σ τ d = (σ, refl, d)
through-parts (w ∷ ws) vs σ τ (ρ, p, d) = let h = through-parts ws vs ρ τ d in (h.0, (ρ, p, h.1), h.2)

pub torn-parts : (ws vs : List Write) (σ τ : Disk) → Torn (ws ++ vs) σ τ → Torn ws σ τ ⊎ ((ρ : Disk) × Through ws σ ρ × Torn vs ρ τ)
torn-parts [] vs σ τ t = inr (σ, refl, t)
torn-parts (w ∷ ws) vs σ τ (inl s) = inl (inl s)
torn-parts (w ∷ ws) vs σ τ (inr (ρ, p, t)) =
    elim (torn-parts ws vs ρ τ t) [ inl a ↦ inl (inr (ρ, p, a)) | inr b ↦ inr (b.0, (ρ, p, b.1), b.2) ]

pub through-join : (ws vs : List Write) (σ ρ τ : Disk) → Through ws σ ρ → Through vs ρ τ → Through (ws ++ vs) σ τ
through-join [] vs σ ρ τ a b = subst (λ (x : Disk). Through vs x τ) a b
through-join (w ∷ ws) vs σ ρ τ (δ, p, a) b = (δ, p, through-join ws vs δ ρ τ a b)

pub torn-first : (ws vs : List Write) (σ τ : Disk) → Torn ws σ τ → Torn (ws ++ vs) σ τ
torn-first [] vs σ τ t = absurd t
torn-first (w ∷ ws) vs σ τ (inl s) = inl s
torn-first (w ∷ ws) vs σ τ (inr (δ, p, t)) = inr (δ, p, torn-first ws vs δ τ t)

pub torn-second : (ws vs : List Write) (σ ρ τ : Disk) → Through ws σ ρ → Torn vs ρ τ → Torn (ws ++ vs) σ τ
torn-second [] vs σ ρ τ a t = subst (λ (x : Disk). Torn vs x τ) a t
torn-second (w ∷ ws) vs σ ρ τ (δ, p, a) t = inr (δ, p, torn-second ws vs δ ρ τ a t)

-- Safe lists of writes, put together.
module _ (L : Disk → Type 0) where
  pub from-none : (K : Disk → Type 0) (σ : Disk) → K σ → From σ [] L K
  from-none K σ k = record { cut = λ τ t. absurd t; done = λ τ d. subst K (sym d) k }

  pub from-one : (K : Disk → Type 0) (σ : Disk) (s : ℕ) (v : List ℕ) → ((τ : Disk) → Struck s v σ τ → L τ) → ((τ : Disk) → Put s v σ τ → K τ) → From σ (write s v ∷ []) L K
  from-one K σ s v a b = record { cut = λ τ t. elim t [ inl x ↦ a τ x | inr x ↦ absurd x.2 ]; done = λ τ d. subst K (sym d.2) (b d.0 d.1) }

  pub from-then : (K M : Disk → Type 0) (σ : Disk) (ws vs : List Write) → From σ ws L M → ((ρ : Disk) → M ρ → From ρ vs L K) → From σ (ws ++ vs) L K
  from-then K M σ ws vs a b = record {
    cut = λ τ t. elim (torn-parts ws vs σ τ t) [ inl x ↦ a.cut τ x | inr (ρ, d, x) ↦ (b ρ (a.done ρ d)).cut τ x ];
    done = λ τ t. (let z = through-parts ws vs σ τ t in (b z.0 (a.done z.0 z.1)).done τ z.2);
  }

  -- what each write keeps, whole, and what each leaves, cut
  pub from-all : (K : Disk → Type 0) (A : Write → Type 0) → ((w : Write) → A w → Keeps K w) → ((w : Write) → A w → Breaks K L w) → (σ : Disk) (ws : List Write) → AllByRecursion A ws → K σ → From σ ws L K
  from-all K A f g σ ws a k = record {
    cut = λ τ t. torn-keeps K L ws (All-weaker A (Keeps K) f ws a) (All-weaker A (Breaks K L) g ws a) σ τ t k;
    done = λ τ d. through-keeps K ws (All-weaker A (Keeps K) f ws a) σ τ d k;
  }

  pub from-with : (K M : Disk → Type 0) (σ : Disk) (ws : List Write) → From σ ws L M → ((τ : Disk) → Through ws σ τ → M τ → K τ) → From σ ws L K
  from-with K M σ ws a b = record { cut = a.cut; done = λ τ d. b τ d (a.done τ d) }

  pub from-as : (K : Disk → Type 0) (σ : Disk) (ws vs : List Write) → ws ≡ vs → From σ vs L K → From σ ws L K
  from-as K σ ws vs e a = subst (λ (us : List Write). From σ us L K) (sym e) a

pub holds-parts : (σ : Disk) (ws vs : List Write) → Holds σ (ws ++ vs) → Holds σ ws × Holds σ vs
holds-parts σ [] vs a = (tt, a)
holds-parts σ (w ∷ ws) vs a = let h = holds-parts σ ws vs a.1 in ((a.0, h.0), h.1)

pub holds-same : (σ τ : Disk) (b : ℕ) → ((u : ℕ) → u < b → τ u ≡ σ u) → (ws : List Write) → AllByRecursion (λ w. w.to < b) ws → Holds σ ws → Holds τ ws
holds-same σ τ b e [] l h = tt
holds-same σ τ b e (w ∷ ws) l h = (e w.to l.0 ∙ h.0, holds-same σ τ b e ws l.1 h.1)

-- Sectors that rise, from n on.
abbrev pub Rising : ℕ → List Write → Type 0
Rising n [] = Unit {0}
Rising n (w ∷ ws) = (n ≤ w.to) × Rising (w.to + 1) ws

through-below : (n : ℕ) (ws : List Write) → Rising n ws → (σ τ : Disk) → Through ws σ τ → (u : ℕ) → u < n → τ u ≡ σ u
through-below n [] r σ τ d u l = ap (λ (x : Disk). x u) d
through-below n (w ∷ ws) r σ τ (ρ, p, d) u l = through-below (w.to + 1) ws r.1 ρ τ d u (omega (arith, r.0)) ∙ p.away u (omega (arith, r.0))

pub through-holds : (n : ℕ) (ws : List Write) → Rising n ws → (σ τ : Disk) → Through ws σ τ → Holds τ ws
through-holds n [] r σ τ d = tt
through-holds n (w ∷ ws) r σ τ (ρ, p, d) = (through-below (w.to + 1) ws r.1 ρ τ d w.to (omega arith) ∙ p.here, through-holds (w.to + 1) ws r.1 ρ τ d)

-- what a strike leaves
pub struck-away : {s : ℕ} {v : List ℕ} {σ τ : Disk} → Struck s v σ τ → (u : ℕ) → (u + 1 < s) ⊎ (s + 1 < u) → τ u ≡ σ u
struck-away (struck-whole p) u l = p.away u (omega arith)
struck-away (struck-pair t a b w) u l = elim (w u) [ inl e ↦ e | inr h ↦ absurd (omega (arith, h.1, h.2)) ]

pub torn-below : (n : ℕ) (ws : List Write) → Rising n ws → (σ τ : Disk) → Torn ws σ τ → (u : ℕ) → u + 1 < n → τ u ≡ σ u
torn-below n [] r σ τ t u l = absurd t
torn-below n (w ∷ ws) r σ τ (inl s) u l = struck-away s u (inl (omega (arith, r.0)))
torn-below n (w ∷ ws) r σ τ (inr (ρ, p, t)) u l = torn-below (w.to + 1) ws r.1 ρ τ t u (omega (arith, r.0)) ∙ p.away u (omega (arith, r.0))
