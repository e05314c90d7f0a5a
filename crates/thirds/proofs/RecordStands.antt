-- A record spoiled, half written, and written.
--     no-end-worn         two lost sectors bring no end
--     spoil-stands        a whole record outlives the loss of two adjacent sectors
--     written-stands      a record whose writes are done is whole
--     half-stands         one whose writes were cut is there, or no end of it is anywhere
use Rattle.std.proofs.Common.{◌≡◌, ℕ, ◌+◌, ◌*◌, ◌<◌, ◌≤◌, ◌≢◌, ◌⊎◌, List, [], ◌∷◌, ◌++◌, length, sym, refl, ap, ◌∙◌, subst, inl, inr, arith}
use Rattle.std.specs.List.{AllByRecursion}
use Rattle.std.proofs.ByRecursion.{All-weaker}
use Rattle.std.proofs.lemmas.Bool.{cases_eq}
use Rattle.disk.specs.Sectors.{Sector, unreadable}
use Rattle.disk.specs.WriteLists.{Write}
use Rattle.geometry.specs.declared.third.Third.{Third}
use Rattle.thirds.specs.Words.{Calm, Disk, end, end_bytes, head, says, word_of}
use Rattle.thirds.specs.Cuts.{Holds, Put, Struck, Torn, Worn, struck-pair, struck-whole, write}
use Rattle.thirds.specs.Records.{Fits, HalfStands, ImagesAt, NoEnd, Numbered, Page, Proper, Rec, SpoilStands, Stands, WrittenStands, closing, first_end, layout, many, opening, pages_at}
use Rattle.thirds.proofs.Words.{unsaid}
use Rattle.thirds.proofs.RecordWords.{end-said, head-said}
use Rattle.thirds.proofs.WriteLists.{Breaks, Keeps, Rising, holds-parts, holds-same, through-holds, through-keeps, torn-below, torn-keeps, torn-parts}

-- of two sectors that are not neighbours one is left
twin : {t : ℕ} {σ τ : Disk} → Worn t σ τ → (u v : ℕ) → u + 1 < v → (τ u ≡ σ u) ⊎ ((τ u ≡ unreadable) × (τ v ≡ σ v))
twin w u v l = elim (w u) [
  | inl e ↦ inl e
  | inr h ↦ elim (w v) [ inl f ↦ inr (h.0, f) | inr k ↦ absurd (omega (arith, h.1, h.2, k.1, k.2)) ]
]

images-worn : {t : ℕ} {σ τ : Disk} → Worn t σ τ → (ps : List Page) (u v : ℕ) → u + 1 + length ps ≤ v → Holds σ (pages_at u ps) → Holds σ (pages_at v ps) → ImagesAt τ u v ps
images-worn w [] u v l a b = tt
images-worn w (p ∷ ps) u v l a b =
    let now = twin w u v (omega arith) in (
      elim now [ inl e ↦ inl (e ∙ a.0) | inr h ↦ inr (h.0, h.1 ∙ b.0) ],
      images-worn w ps (u + 1) (v + 1) (omega arith) a.1 b.1,
    )

-- the layout rises
rising-from : (a b : ℕ) (ws : List Write) → a ≤ b → Rising b ws → Rising a ws
rising-from a b [] l r = tt
rising-from a b (w ∷ ws) l r = (omega (arith, r.0), r.1)

rising-pages : (ps : List Page) (u : ℕ) (ws : List Write) → Rising (u + length ps) ws → Rising u (pages_at u ps ++ ws)
rising-pages [] u ws r = rising-from u (u + 0) ws (omega arith) r
rising-pages (p ∷ ps) u ws r = (omega arith, rising-pages ps (u + 1) ws (rising-from (u + 1 + length ps) (u + length (p ∷ ps)) ws (omega arith) r))

rising-closing : (r : Rec) (n : ℕ) → n ≤ r.place + 4 + many r → Rising n (closing r)
rising-closing r n l = rising-from n (r.place + 4 + many r) (closing r) l (rising-pages r.pages (r.place + 4 + many r) (write (r.place + 4 + 2 * many r) (end_bytes r.number (many r)) ∷ []) (omega arith, tt))

rising-opening : (r : Rec) (ws : List Write) → Rising (r.place + 3 + many r) ws → Rising r.place (opening r ++ ws)
rising-opening r ws h = (
  omega arith,
  (
    omega arith,
    rising-from (r.place + 2 + 1) (r.place + 3) (pages_at (r.place + 3) r.pages ++ ws) (omega arith) (rising-pages r.pages (r.place + 3) ws h),
  ),
)

rising-layout : (r : Rec) → Rising r.place (layout r)
rising-layout r = rising-opening r (first_end r ∷ closing r) (omega arith, rising-closing r (r.place + 3 + many r + 1) (omega arith))

below-pages : (b : ℕ) (ps : List Page) (u : ℕ) → u + length ps ≤ b → AllByRecursion (λ w. w.to < b) (pages_at u ps)
below-pages b [] u l = tt
below-pages b (p ∷ ps) u l = (omega arith, below-pages b ps (u + 1) (omega arith))

below-opening : (r : Rec) → AllByRecursion (λ w. w.to < r.place + 3 + many r) (opening r)
below-opening r = (omega arith, (omega arith, below-pages (r.place + 3 + many r) r.pages (r.place + 3) (omega arith)))

-- a record whose first part is there stands
images-first : (σ : Disk) (ps : List Page) (u v : ℕ) → Holds σ (pages_at u ps) → ImagesAt σ u v ps
images-first σ [] u v h = tt
images-first σ (p ∷ ps) u v h = (inl h.0, images-first σ ps (u + 1) (v + 1) h.1)

rising-front : (n : ℕ) (ws vs : List Write) → Rising n (ws ++ vs) → Rising n ws
rising-front n [] vs h = tt
rising-front n (w ∷ ws) vs h = (h.0, rising-front (w.to + 1) ws vs h.1)

module _ (P : ℕ) where
  not-head : {x : Sector} {m : ℕ} → x ≡ unreadable → (ks : List ℕ) → says P x ≡ head m ks → ⊥
  not-head e ks h = let b = unsaid P e h in let z : ◌≡◌ {A = ℕ} 0 1 = cc in omega arith

  opened : (T : ℕ) (σ : Disk) (r : Rec) → Fits T r → Numbered P r → Holds σ (opening r) → says P (σ (r.place + 3 + many r)) ≡ end r.number (many r) → Stands P T σ r
  opened T σ r fit num h e = record { heads = inl (ap (says P) h.0 ∙ head-said P r fit.0 num); fits = fit; ends = inl e; images = images-first σ r.pages (r.place + 3) (r.place + 4 + many r) h.1.1 }

  -- writes that are no end of m
  abbrev Mute : ℕ → Write → Type 0
  Mute m w = (n : ℕ) → word_of P w.bytes ≡ end m n → ⊥

  no-end-put : {m s : ℕ} {v : List ℕ} {σ τ : Disk} → ((n : ℕ) → word_of P v ≡ end m n → ⊥) → Put s v σ τ → NoEnd P σ m → NoEnd P τ m
  no-end-put {m} {s} q p k u n e =
      elim (cases_eq u s) [
        | inl h ↦ q n (ap (says P) (sym p.here) ∙ rw h at e)
        | inr h ↦ k u n (ap (says P) (sym (p.away u h)) ∙ e)
      ]

  pub no-end-worn : {m t : ℕ} {σ τ : Disk} → Worn t σ τ → NoEnd P σ m → NoEnd P τ m
  no-end-worn w k u n e = elim (w u) [ inl h ↦ k u n (ap (says P) (sym h) ∙ e) | inr h ↦ (let f = unsaid P h.0 e in let z : ◌≡◌ {A = ℕ} 0 1 = cc in omega arith) ]

  no-end-struck : {m s : ℕ} {v : List ℕ} {σ τ : Disk} → ((n : ℕ) → word_of P v ≡ end m n → ⊥) → Struck s v σ τ → NoEnd P σ m → NoEnd P τ m
  no-end-struck q (struck-whole p) k = no-end-put q p k
  no-end-struck q (struck-pair t a b w) k = no-end-worn w k

  mute-keeps : (m : ℕ) (ws : List Write) → AllByRecursion (Mute m) ws → AllByRecursion (Keeps (λ σ. NoEnd P σ m)) ws
  mute-keeps m ws a = All-weaker (Mute m) (Keeps (λ σ. NoEnd P σ m)) (λ w q σ τ p k. no-end-put q p k) ws a

  mute-breaks : (m : ℕ) (ws : List Write) → AllByRecursion (Mute m) ws → AllByRecursion (Breaks (λ σ. NoEnd P σ m) (λ σ. NoEnd P σ m)) ws
  mute-breaks m ws a = All-weaker (Mute m) (Breaks (λ σ. NoEnd P σ m) (λ σ. NoEnd P σ m)) (λ w q σ τ p k. no-end-struck q p k) ws a

  mute-pages : (m : ℕ) (ps : List Page) (u : ℕ) → AllByRecursion (λ p. Calm (word_of P p.1)) ps → AllByRecursion (Mute m) (pages_at u ps)
  mute-pages m [] u c = tt
  mute-pages m (p ∷ ps) u c = (λ n e. subst Calm e c.0, mute-pages m ps (u + 1) c.1)

  mute-opening : (r : Rec) → 0 < many r → Proper P r → AllByRecursion (Mute r.number) (opening r)
  mute-opening r some ok =
      let sh = head-said P r some ok.numbered in
      (λ n e. (let z : ◌≡◌ {A = ℕ} 0 1 = cc in omega arith), (λ n e. (let z : ◌≡◌ {A = ℕ} 0 1 = cc in omega arith), mute-pages r.number r.pages (r.place + 3) ok.calm))

  -- what keeps the first part keeps the record
  opened-same : (T : ℕ) (σ τ : Disk) (r : Rec) → Fits T r → Numbered P r → Holds σ (opening r) → says P (τ (r.place + 3 + many r)) ≡ end r.number (many r)
      → ((u : ℕ) → u < r.place + 3 + many r → τ u ≡ σ u) → Stands P T τ r
  opened-same T σ τ r fit num h e same = opened T τ r fit num (holds-same σ τ (r.place + 3 + many r) same (opening r) (below-opening r) h) e

  -- all after the first end
  half-closing : (T : ℕ) (σ τ : Disk) (k : Third) (at m : ℕ) (ps : List Page) → (let r : Rec = record { third = k; place = at; number = m; pages = ps } in
      Fits T r → Numbered P r → Holds σ (opening r) → says P (σ (at + 3 + length ps)) ≡ end m (length ps) → ((u n : ℕ) → u ≢ at + 3 + length ps → says P (σ u) ≡ end m n → ⊥)
      → Torn (closing r) σ τ → Stands P T τ r ⊎ NoEnd P τ m)
  half-closing T σ τ k at m [] fit num h e only t = absurd (omega (arith, fit.0))
  half-closing T σ τ k at m (p ∷ ps) fit num h e only (inr (ρ, q, t)) =
      let r : Rec = record { third = k; place = at; number = m; pages = p ∷ ps } in
      let below : (u : ℕ) → u ≤ at + 3 + many r → τ u ≡ σ u =
      (λ u l. torn-below (at + 4 + many r + 1) _ (rising-closing r (at + 4 + many r) (omega arith)).1 ρ τ t u (omega arith) ∙ q.away u (omega arith)) in
      inl (opened-same T σ τ r fit num h (ap (says P) (below (at + 3 + many r) (omega arith)) ∙ e) (λ u l. below u (omega arith)))
  half-closing T σ τ k at m (p ∷ ps) fit num h e only (inl (struck-whole q)) =
      let r : Rec = record { third = k; place = at; number = m; pages = p ∷ ps } in
      inl (opened-same T σ τ r fit num h (ap (says P) (q.away (at + 3 + many r) (omega arith)) ∙ e) (λ u l. q.away u (omega arith)))
  half-closing T σ τ k at m (p ∷ ps) fit num h e only (inl (struck-pair t a b w)) =
      let r : Rec = record { third = k; place = at; number = m; pages = p ∷ ps } in
      let below : (u : ℕ) → u < at + 3 + many r → τ u ≡ σ u =
      (λ u l. elim (w u) [ inl f ↦ f | inr g ↦ absurd (omega (arith, g.1, g.2)) ]) in
      elim (w (at + 3 + many r)) [
        | inl f ↦ inl (opened-same T σ τ r fit num h (ap (says P) f ∙ e) below)
        | inr g ↦ inr (λ u n f. elim (cases_eq u (at + 3 + many r)) [
          | inl same ↦ clash (ap τ same) g.0 f
          | inr ne ↦ elim (w u) [ inl x ↦ only u n ne (ap (says P) (sym x) ∙ f) | inr x ↦ clash refl x.0 f ]
        ])
      ]
    where
      clash : {x y : Sector} {m n : ℕ} → x ≡ y → y ≡ unreadable → says P x ≡ end m n → ⊥
      clash p q e = let b = unsaid P (p ∙ q) e in let z : ◌≡◌ {A = ℕ} 0 1 = cc in omega arith

  -- all from the first end on
  half-ending : (T : ℕ) (σ τ : Disk) (r : Rec) → Fits T r → Numbered P r → Holds σ (opening r) → NoEnd P σ r.number → Torn (first_end r ∷ closing r) σ τ → Stands P T τ r ⊎ NoEnd P τ r.number
  half-ending T σ τ r fit num h k (inl (struck-whole q)) = inl (opened-same T σ τ r fit num h (ap (says P) q.here ∙ end-said P r num) (λ u l. q.away u (omega arith)))
  half-ending T σ τ r fit num h k (inl (struck-pair t a b w)) = inr (no-end-worn w k)
  half-ending T σ τ r fit num h k (inr (ρ, q, t)) =
      half-closing T ρ τ r.third r.place r.number r.pages fit num
      (holds-same σ ρ (r.place + 3 + many r) (λ u l. q.away u (omega arith)) (opening r) (below-opening r) h)
      (ap (says P) q.here ∙ end-said P r num) (λ u n ne f. k u n (ap (says P) (sym (q.away u ne)) ∙ f)) t

pub spoil-stands : SpoilStands
spoil-stands P T t σ τ r (fit, h, num) w =
    let sh = head-said P r fit.0 num in
    let se = end-said P r num in
    let parts = holds-parts σ (opening r) (first_end r ∷ closing r) h in
    let tail = holds-parts σ (pages_at (r.place + 4 + many r) r.pages) (write (r.place + 4 + 2 * many r) (end_bytes r.number (many r)) ∷ []) parts.1.1 in
    record {
      heads = elim (twin w r.place (r.place + 2) (omega arith)) [ inl e ↦ inl (ap (says P) (e ∙ parts.0.0) ∙ sh) | inr k ↦ inr (not-head P k.0, ap (says P) (k.1 ∙ parts.0.1.0) ∙ sh) ];
      fits = fit;
      ends = elim (twin w (r.place + 3 + many r) (r.place + 4 + 2 * many r) (omega (arith, fit.0))) [ inl e ↦ inl (ap (says P) (e ∙ parts.1.0) ∙ se) | inr k ↦ inr (ap (says P) (k.1 ∙ tail.1.0) ∙ se) ];
      images = images-worn w r.pages (r.place + 3) (r.place + 4 + many r) (omega arith) parts.0.1.1 tail.0;
    }

pub written-stands : WrittenStands
written-stands P T σ τ r fit ok d = (fit, through-holds r.place (layout r) (rising-layout r) σ τ d, ok.numbered)

pub half-stands : HalfStands
half-stands P T σ τ r fit ok k t =
    let keeps = mute-keeps P r.number (opening r) (mute-opening P r fit.0 ok) in
    let K : Disk → Type 0 = (λ δ. NoEnd P δ r.number) in
    elim (torn-parts (opening r) (first_end r ∷ closing r) σ τ t) [
      | inl a ↦ inr (torn-keeps K K (opening r) keeps (mute-breaks P r.number (opening r) (mute-opening P r fit.0 ok)) σ τ a k)
      | inr (ρ, d, s) ↦ half-ending P T ρ τ r fit ok.numbered
          (through-holds r.place (opening r) (rising-front r.place (opening r) (first_end r ∷ closing r) (rising-layout r)) σ ρ d)
          (through-keeps K (opening r) keeps σ ρ d k) s
    ]
