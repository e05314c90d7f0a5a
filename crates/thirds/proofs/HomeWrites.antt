-- Lists of writes of homes: where they go, and what stands there afterwards.
--     Gives                               what a write has for a sector, if it goes there
--     given-set                           a sector that writes go to has what they give
--     lost-cases                          a sector that cannot be read is written, and no other
--     not-lost                            a sector that holds bytes can be read
--     To                                  a write of a page's image to its home of one side
--     Homeward                            and to either home
--     readable-put, readable-through      such writes leave a sector that can be read so
--     mend-to                             what is mended are homes
--     mend-among                          each home that cannot be read is mended
--     mend-none                           and none where all can be read
--     both-home                           what is written of both homes are homes
--     both-set                            and both have the image afterwards
--     redone                              afterwards each page with a record is home, and one without stays so
use Rattle.std.proofs.Common.{◌≡◌, ℕ, zero, suc, ◌+◌, ◌<◌, ◌≤◌, Bool, true, false, cond, ◌⊎◌, List, [], ◌∷◌, ◌++◌, Some, None, Option, sym, refl, ap, ◌∙◌, subst, inl, inr, arith}
use Rattle.std.specs.List.{AllByRecursion}
use Rattle.std.proofs.ByRecursion.{All-weaker, All-append}
use Rattle.std.proofs.lemmas.Bool.{cases_eq, cond-true}
use Rattle.disk.specs.Sectors.{Sector, holds, unreadable}
use Rattle.disk.specs.WriteLists.{Write}
use Rattle.geometry.specs.Places.{first_homes, second_homes}
use Rattle.thirds.specs.Words.{Disk, Images}
use Rattle.thirds.specs.Cuts.{Put, Through, write}
use Rattle.thirds.specs.Records.{Rec}
use Rattle.thirds.specs.Homes.{Pictured, Side, both_homes, has, lost, mend, newest, redo}
use Rattle.thirds.proofs.WriteLists.{Keeps, through-keeps}

abbrev Among : ℕ → List Write → Type 0
Among u [] = ⊥
Among u (w ∷ ws) = (w.to ≡ u) ⊎ Among u ws

among-left : (u : ℕ) (ws vs : List Write) → Among u ws → Among u (ws ++ vs)
among-left u [] vs a = absurd a
among-left u (w ∷ ws) vs (inl e) = inl e
among-left u (w ∷ ws) vs (inr a) = inr (among-left u ws vs a)

among-right : (u : ℕ) (ws vs : List Write) → Among u vs → Among u (ws ++ vs)
among-right u [] vs a = a
among-right u (w ∷ ws) vs a = inr (among-right u ws vs a)

-- what is written of a sector is one value only
abbrev pub Gives : ℕ → List ℕ → Write → Type 0
Gives u x w = w.to ≡ u → w.bytes ≡ x

given-kept : (u : ℕ) (x : List ℕ) (ws : List Write) → AllByRecursion (Gives u x) ws → (σ τ : Disk) → Through ws σ τ → σ u ≡ holds x → τ u ≡ holds x
given-kept u x ws a = through-keeps (λ δ. δ u ≡ holds x) ws (All-weaker (Gives u x) (Keeps (λ δ. δ u ≡ holds x)) one ws a)
  where
    one : (w : Write) → Gives u x w → Keeps (λ δ. δ u ≡ holds x) w
    one w g σ τ p e = elim (cases_eq u w.to) [ inl q ↦ ap τ q ∙ p.here ∙ ap holds (g (sym q)) | inr q ↦ p.away u q ∙ e ]

pub given-set : (u : ℕ) (x : List ℕ) (ws : List Write) → AllByRecursion (Gives u x) ws → (σ τ : Disk) → Among u ws → Through ws σ τ → τ u ≡ holds x
given-set u x [] a σ τ m d = absurd m
given-set u x (w ∷ ws) a σ τ (inl e) (ρ, p, d) = given-kept u x ws a.1 ρ τ d (ap ρ (sym e) ∙ p.here ∙ ap holds (a.0 e))
given-set u x (w ∷ ws) a σ τ (inr m) (ρ, p, d) = given-set u x ws a.1 ρ τ m d

-- an unreadable sector is written, and no other
pub lost-cases : (x : Sector) (u : ℕ) (v : List ℕ) → ((x ≡ unreadable) × (lost x u v ≡ write u v ∷ [])) ⊎ ((x ≡ unreadable → ⊥) × (lost x u v ≡ []))
lost-cases unreadable u v = inl (refl, refl)
lost-cases (holds x) u v = inr (λ e. (let z : ◌≡◌ {A = ℕ} 0 1 = cc in omega arith), refl)

pub not-lost : {x : Sector} {y : List ℕ} → x ≡ unreadable → x ≡ holds y → ⊥
not-lost a b = let z : ◌≡◌ {A = ℕ} 0 1 = cc in omega arith

module _ (P T : ℕ) (X : Images) where
  -- a page's image, to its home on a side
  abbrev pub To : ℕ → Write → Type 0
  To base w = (i : ℕ) × (i < P) × (w.to ≡ base + i) × (w.bytes ≡ X i)

  abbrev pub Homeward : Write → Type 0
  Homeward w = To (first_homes T) w ⊎ To (second_homes P T) w

  gives-first : (i : ℕ) → i < P → (w : Write) → Homeward w → Gives (first_homes T + i) (X i) w
  gives-first i l w (inl (j, k, e, v)) q = let z : j ≡ i = omega arith in v ∙ ap X z
  gives-first i l w (inr (j, k, e, v)) q = absurd (omega arith)

  gives-second : (i : ℕ) → i < P → (w : Write) → Homeward w → Gives (second_homes P T + i) (X i) w
  gives-second i l w (inl (j, k, e, v)) q = absurd (omega arith)
  gives-second i l w (inr (j, k, e, v)) q = let z : j ≡ i = omega arith in v ∙ ap X z

  -- a sector that can be read stays so
  pub readable-put : (u : ℕ) (w : Write) → Homeward w → (σ τ : Disk) → Put w.to w.bytes σ τ → (σ u ≡ unreadable → ⊥) → τ u ≡ unreadable → ⊥
  readable-put u w x σ τ p k e = elim (cases_eq u w.to) [ inl q ↦ not-lost (ap τ (sym q) ∙ e) p.here | inr q ↦ k (sym (p.away u q) ∙ e) ]

  pub readable-through : (u : ℕ) (ws : List Write) → AllByRecursion Homeward ws → (σ τ : Disk) → Through ws σ τ → (σ u ≡ unreadable → ⊥) → τ u ≡ unreadable → ⊥
  readable-through u ws a = through-keeps (λ δ. δ u ≡ unreadable → ⊥) ws (All-weaker Homeward (Keeps (λ δ. δ u ≡ unreadable → ⊥)) (readable-put u) ws a)

  -- the writes of mending and redoing
  pub mend-to : (σ : Disk) (base n : ℕ) → n ≤ P → AllByRecursion (To base) (mend σ X base n)
  mend-to σ base zero l = tt
  mend-to σ base (suc n) l =
      All-append (To base) (mend σ X base n) (lost (σ (base + n)) (base + n) (X n)) (mend-to σ base n (omega arith))
      (elim (lost-cases (σ (base + n)) (base + n) (X n)) [
        | inl (a, b) ↦ subst (AllByRecursion (To base)) (sym b) ((n, omega arith, refl, refl), tt)
        | inr (a, b) ↦ subst (AllByRecursion (To base)) (sym b) tt
      ])

  pub mend-among : (σ : Disk) (base n i : ℕ) → i < n → σ (base + i) ≡ unreadable → Among (base + i) (mend σ X base n)
  mend-among σ base zero i l e = absurd (omega arith)
  mend-among σ base (suc n) i l e = elim (cases_eq i n) [
    | inl q ↦ among-right (base + i) (mend σ X base n) (lost (σ (base + n)) (base + n) (X n))
        (elim (lost-cases (σ (base + n)) (base + n) (X n)) [
          | inl (a, b) ↦ subst (Among (base + i)) (sym b) (inl (omega arith))
          | inr (a, b) ↦ absurd (a (rw q at e))
        ])
    | inr q ↦ among-left (base + i) (mend σ X base n) (lost (σ (base + n)) (base + n) (X n)) (mend-among σ base n i (omega arith) e)
  ]

  pub mend-none : (σ : Disk) (base n : ℕ) → n ≤ P → Side P base σ → mend σ X base n ≡ []
  mend-none σ base zero l k = refl
  mend-none σ base (suc n) l k =
      ap (λ ws. ws ++ lost (σ (base + n)) (base + n) (X n)) (mend-none σ base n (omega arith) k)
      ∙ elim (lost-cases (σ (base + n)) (base + n) (X n)) [ inl (a, b) ↦ absurd (k n (omega arith) a) | inr (a, b) ↦ b ]

  pub both-home : (t : ℕ → Bool) (n : ℕ) → n ≤ P → AllByRecursion Homeward (both_homes t X (first_homes T) (second_homes P T) n)
  both-home t zero l = tt
  both-home t (suc n) l =
      All-append Homeward (both_homes t X (first_homes T) (second_homes P T) n) (cond (t n) (write (first_homes T + n) (X n) ∷ write (second_homes P T + n) (X n) ∷ []) [])
      (both-home t n (omega arith))
      (elim (t n) as (λ b. AllByRecursion Homeward (cond b (write (first_homes T + n) (X n) ∷ write (second_homes P T + n) (X n) ∷ []) [])) [
        | true ↦ (inl (n, omega arith, refl, refl), (inr (n, omega arith, refl, refl), tt))
        | false ↦ tt
      ])

  both-among : (t : ℕ → Bool) (n i : ℕ) → i < n → t i ≡ true
      → Among (first_homes T + i) (both_homes t X (first_homes T) (second_homes P T) n) × Among (second_homes P T + i) (both_homes t X (first_homes T) (second_homes P T) n)
  both-among t zero i l e = absurd (omega arith)
  both-among t (suc n) i l e =
      let front = both_homes t X (first_homes T) (second_homes P T) n in
      let two : List Write = write (first_homes T + n) (X n) ∷ write (second_homes P T + n) (X n) ∷ [] in
      elim (cases_eq i n) [
        | inl q ↦ (let b : cond (t n) two [] ≡ two = cond-true (t n) two [] (rw q at e) in (
          among-right (first_homes T + i) front (cond (t n) two []) (subst (Among (first_homes T + i)) (sym b) (inl (omega arith))),
          among-right (second_homes P T + i) front (cond (t n) two []) (subst (Among (second_homes P T + i)) (sym b) (inr (inl (omega arith)))),
        ))
        | inr q ↦ (let ih = both-among t n i (omega arith) e in (among-left (first_homes T + i) front (cond (t n) two []) ih.0, among-left (second_homes P T + i) front (cond (t n) two []) ih.1))
      ]

  -- afterwards both homes of such a page have its image
  pub both-set : (t : ℕ → Bool) (σ τ : Disk) → Through (both_homes t X (first_homes T) (second_homes P T) P) σ τ → (i : ℕ) → i < P → t i ≡ true
      → (τ (first_homes T + i) ≡ holds (X i)) × (τ (second_homes P T + i) ≡ holds (X i))
  both-set t σ τ d i l e =
      let ws = both_homes t X (first_homes T) (second_homes P T) P in
      let among = both-among t P i l e in (
        given-set (first_homes T + i) (X i) ws (All-weaker Homeward (Gives (first_homes T + i) (X i)) (gives-first i l) ws (both-home t P (omega arith))) σ τ among.0 d,
        given-set (second_homes P T + i) (X i) ws (All-weaker Homeward (Gives (second_homes P T + i) (X i)) (gives-second i l) ws (both-home t P (omega arith))) σ τ among.1 d,
      )

  -- afterwards each page with a record is home, and one without stays so
  pub redone : (rs : List Rec) (σ τ : Disk) → Through (redo rs X (first_homes T) (second_homes P T) P) σ τ → (i : ℕ) → i < P → (o : Option (List ℕ)) → newest rs i ≡ o
      → Pictured o (σ (first_homes T + i)) (σ (second_homes P T + i)) (X i) → (σ (first_homes T + i) ≡ unreadable → ⊥) → (σ (second_homes P T + i) ≡ unreadable → ⊥)
      → (τ (first_homes T + i) ≡ holds (X i)) × (τ (second_homes P T + i) ≡ holds (X i))
  redone rs σ τ d i l (Some y) e p a b = both-set (λ j. has (newest rs j)) σ τ d i l (ap has e)
  redone rs σ τ d i l None e (inl p, q) a b = absurd (a p)
  redone rs σ τ d i l None e (inr p, inl q) a b = absurd (b q)
  redone rs σ τ d i l None e (inr p, inr q) a b =
      let ws = redo rs X (first_homes T) (second_homes P T) P in (
        given-kept (first_homes T + i) (X i) ws (All-weaker Homeward (Gives (first_homes T + i) (X i)) (gives-first i l) ws (both-home (λ j. has (newest rs j)) P (omega arith))) σ τ d p,
        given-kept (second_homes P T + i) (X i) ws (All-weaker Homeward (Gives (second_homes P T + i) (X i)) (gives-second i l) ws (both-home (λ j. has (newest rs j)) P (omega arith))) σ τ d q,
      )
