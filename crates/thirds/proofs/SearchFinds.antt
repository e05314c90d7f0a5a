-- What a search of the log finds.
--     absent-no-end      with no end of a number there is no record with it
--     heads-one          a place has one right head for a number at most
--     search-finds       records laid so that all stand are found
--     search-is-one      and nothing else is
--     search-rests       the search reads nothing outside the log
use Rattle.std.proofs.Common.{◌≡◌, ℕ, ◌+◌, ◌*◌, ◌<◌, ◌≤◌, ◌⊎◌, List, [], ◌∷◌, length, sym, refl, ap, ◌∙◌, subst, inl, inr, arith}
use Rattle.disk.specs.Sectors.{holds, unreadable}
use Rattle.geometry.specs.Thirds.{next_of}
use Rattle.geometry.specs.declared.third.Third.{Third}
use Rattle.thirds.specs.Words.{Disk, end, head, says}
use Rattle.thirds.specs.Records.{Absent, HeadAt, ImagesAt, NoEnd, Page, Rec, Stands, many, numbers, start}
use Rattle.thirds.specs.Search.{Found, Log, Named, SameLog, SearchFinds, SearchIsOne, SearchRests, after, found-here, found-next, placed-here, placed-next}
use Rattle.thirds.proofs.RecordWords.{length-numbers}
use Rattle.thirds.proofs.Thirds.{inside}

-- one record at most stands at a place
pair : ℕ → List ℕ → Page
pair a b = (a, b)

page-same : (p q : Page) → p.0 ≡ q.0 → p.1 ≡ q.1 → p ≡ q
unfolding pair
page-same p q e f = let h : pair p.0 p.1 ≡ pair q.0 q.1 = cc in h

images-one : (σ : Disk) (ps qs : List Page) (u v : ℕ) → numbers ps ≡ numbers qs → ImagesAt σ u v ps → ImagesAt σ u v qs → ps ≡ qs
images-one σ [] [] u v e a b = refl
images-one σ [] (q ∷ qs) u v e a b = cc
images-one σ (p ∷ ps) [] u v e a b = cc
images-one σ (p ∷ ps) (q ∷ qs) u v e a b =
    let n : p.0 ≡ q.0 = cc in
    let ns : numbers ps ≡ numbers qs = cc in
    let rest : ps ≡ qs = images-one σ ps qs (u + 1) (v + 1) ns a.1 b.1 in
    let x : p.1 ≡ q.1 = same p.1 q.1 a.0 b.0 in
    let both : p ≡ q = page-same p q n x in
    cc
  where
    same : (x y : List ℕ) → (σ u ≡ holds x) ⊎ ((σ u ≡ unreadable) × (σ v ≡ holds x)) → (σ u ≡ holds y) ⊎ ((σ u ≡ unreadable) × (σ v ≡ holds y)) → x ≡ y
    same x y (inl a) (inl b) = cc
    same x y (inl a) (inr b) = cc
    same x y (inr a) (inl b) = cc
    same x y (inr a) (inr b) = cc

made : Third → ℕ → ℕ → List Page → Rec
made k p m ps = record { third = k; place = p; number = m; pages = ps }

made-same : (r : Rec) → made r.third r.place r.number r.pages ≡ r
unfolding made
made-same r = refl

-- the search reads the log area only
images-same : (σ τ : Disk) (ps : List Page) (u v : ℕ) → ((x : ℕ) → u ≤ x → x < v + length ps → τ x ≡ σ x) → u ≤ v → ImagesAt σ u v ps → ImagesAt τ u v ps
images-same σ τ [] u v e l h = tt
images-same σ τ (p ∷ ps) u v e l h =
    let here = e u (omega arith) (omega arith) in
    let there = e v (omega arith) (omega arith) in
    (elim h.0 [ inl a ↦ inl (here ∙ a) | inr a ↦ inr (here ∙ a.0, there ∙ a.1) ], images-same σ τ ps (u + 1) (v + 1) (λ x a b. e x (omega arith) (omega arith)) (omega arith) h.1)

module _ (P : ℕ) where
  pub absent-no-end : (T : ℕ) (σ : Disk) (k : Third) (p m : ℕ) → NoEnd P σ m → Absent P T σ k p m
  absent-no-end T σ k p m none r a b c st =
      elim st.ends [ inl e ↦ none _ (many r) (e ∙ ap (λ x. end x (many r)) c) | inr e ↦ none _ (many r) (e ∙ ap (λ x. end x (many r)) c) ]

  -- a record that would not fit is not there, whatever stands two sectors on
  absent-named : (T : ℕ) (σ : Disk) (k : Third) (p m : ℕ) (r : Rec) → Named P σ r → r.number ≡ m → start T k + T ≤ p + 5 + 2 * many r → Absent P T σ k p m
  absent-named T σ k p m r own i far q a b c st =
      let same : numbers q.pages ≡ numbers r.pages = elim st.heads [
        | inl e ↦ own _ (numbers q.pages) (e ∙ ap (λ x. head x (numbers q.pages)) (c ∙ sym i))
        | inr e ↦ own _ (numbers q.pages) (e.1 ∙ ap (λ x. head x (numbers q.pages)) (c ∙ sym i))
      ] in
      let long : many q ≡ many r = sym (length-numbers q.pages) ∙ ap length same ∙ length-numbers r.pages in
      let start : start T q.third ≡ start T k = ap (start T) a in
      omega (arith, st.fits.1)

  pub heads-one : (σ : Disk) (p m : ℕ) (ks ns : List ℕ) → HeadAt P σ p m ks → HeadAt P σ p m ns → ks ≡ ns
  heads-one σ p m ks ns (inl a) (inl b) = cc
  heads-one σ p m ks ns (inl a) (inr b) = absurd (b.0 ks a)
  heads-one σ p m ks ns (inr a) (inl b) = absurd (a.0 ns b)
  heads-one σ p m ks ns (inr a) (inr b) = let x = a.1 in let y = b.1 in cc

  stands-one : (T : ℕ) (σ : Disk) (r q : Rec) → r.third ≡ q.third → r.place ≡ q.place → r.number ≡ q.number → Stands P T σ r → Stands P T σ q → r ≡ q
  stands-one T σ r q a b c x y =
      let hr : HeadAt P σ q.place q.number (numbers r.pages) = subst (λ (n : ℕ). HeadAt P σ q.place n (numbers r.pages)) c (subst (λ (p : ℕ). HeadAt P σ p r.number (numbers r.pages)) b x.heads) in
      let ns : numbers r.pages ≡ numbers q.pages = heads-one σ q.place q.number (numbers r.pages) (numbers q.pages) hr y.heads in
      let long : many r ≡ many q = sym (length-numbers r.pages) ∙ ap length ns ∙ length-numbers q.pages in
      let e₁ : r.place + 3 ≡ q.place + 3 = omega arith in
      let e₂ : r.place + 4 + many r ≡ q.place + 4 + many q = omega arith in
      let ir : ImagesAt σ (q.place + 3) (q.place + 4 + many q) r.pages = subst (λ (v : ℕ). ImagesAt σ (q.place + 3) v r.pages) e₂ (subst (λ (u : ℕ). ImagesAt σ u (r.place + 4 + many r) r.pages) e₁ x.images) in
      let ps : r.pages ≡ q.pages = images-one σ r.pages q.pages (q.place + 3) (q.place + 4 + many q) ns ir y.images in
      let whole : made r.third r.place r.number r.pages ≡ made q.third q.place q.number q.pages = cc in
      sym (made-same r) ∙ whole ∙ made-same q

  found-one : (T : ℕ) (σ : Disk) (f k : Third) (p m : ℕ) (r q : Rec) → Found P T σ f k p m r → Found P T σ f k p m q → r ≡ q
  found-one T σ f k p m r q (found-here a b c x) (found-here a' b' c' y) = stands-one T σ r q (a ∙ sym a') (b ∙ sym b') (c ∙ sym c') x y
  found-one T σ f k p m r q (found-here a b c x) (found-next n z a' b' c' y) = absurd (n r a b c x)
  found-one T σ f k p m r q (found-next n z a b c x) (found-here a' b' c' y) = absurd (n q a' b' c' y)
  found-one T σ f k p m r q (found-next n z a b c x) (found-next n' z' a' b' c' y) = stands-one T σ r q (a ∙ sym a') (b ∙ sym b') (c ∙ sym c') x y

  -- what is found is not absent
  ended : (T : ℕ) (σ : Disk) (f k : Third) (p m s : ℕ) (r : Rec) → Log P T σ f k p m [] s → Found P T σ f k p m r → ⊥
  ended T σ f k p m s r l (found-here a b c x) = l.1 r a b c x
  ended T σ f k p m s r l (found-next n z a b c x) = l.2 z r a b c x

  stands-same : (T : ℕ) (σ τ : Disk) (r : Rec) → ((u : ℕ) → r.place ≤ u → u < r.place + 5 + 2 * many r → τ u ≡ σ u) → Stands P T σ r → Stands P T τ r
  stands-same T σ τ r e st =
      let one = e r.place (omega arith) (omega arith) in
      let two = e (r.place + 2) (omega arith) (omega arith) in
      record {
        heads = elim st.heads [ inl a ↦ inl (ap (says P) one ∙ a) | inr a ↦ inr (λ ks h. a.0 ks (ap (says P) (sym one) ∙ h), ap (says P) two ∙ a.1) ];
        fits = st.fits;
        ends = elim st.ends [ inl a ↦ inl (ap (says P) (e (r.place + 3 + many r) (omega arith) (omega arith)) ∙ a) | inr a ↦ inr (ap (says P) (e (r.place + 4 + 2 * many r) (omega arith) (omega arith)) ∙ a) ];
        images = images-same σ τ r.pages (r.place + 3) (r.place + 4 + many r) (λ x a b. e x (omega arith) (omega arith)) (omega arith) st.images;
      }

  stands-frame : (T : ℕ) (σ τ : Disk) (r : Rec) → SameLog T σ τ → 8 ≤ r.place → Stands P T σ r → Stands P T τ r
  stands-frame T σ τ r same l st = stands-same T σ τ r (λ u a b. same u (omega arith) (omega (arith, st.fits.1, inside T r.third))) st

  absent-frame : (T : ℕ) (σ τ : Disk) (k : Third) (p m : ℕ) → SameLog T σ τ → 8 ≤ p → Absent P T σ k p m → Absent P T τ k p m
  absent-frame T σ τ k p m same l n r a b c st = n r a b c (stands-frame T τ σ r (λ u x y. sym (same u x y)) (omega arith) st)

pub search-finds : SearchFinds
search-finds P T σ f k p m s [] l st own e none =
    let none' : NoEnd P σ m = subst (NoEnd P σ) (e ∙ add-zero m) none in
    (e ∙ add-zero m, absent-no-end P T σ k p m none', λ _. absent-no-end P T σ (next_of k) (start T (next_of k)) m none')
  where
    add-zero : (n : ℕ) → n + 0 ≡ n
    add-zero n = omega arith
search-finds P T σ f k p m s (r ∷ rs) (placed-here a b c, l) st own e none =
    (found-here a b c st.0, search-finds P T σ f r.third (after r) (m + 1) s rs l st.1 own.1 (omega arith) none)
search-finds P T σ f k p m s (r ∷ rs) (placed-next far n a b c, l) st own e none =
    (found-next (absent-named P T σ k p m r own.0 c far) n a b c st.0, search-finds P T σ f r.third (after r) (m + 1) s rs l st.1 own.1 (omega arith) none)

pub search-is-one : SearchIsOne
search-is-one P T σ f k p m s t [] [] a b = (refl, a.0 ∙ sym b.0)
search-is-one P T σ f k p m s t [] (q ∷ qs) a b = absurd (ended P T σ f k p m s q a b.0)
search-is-one P T σ f k p m s t (r ∷ rs) [] a b = absurd (ended P T σ f k p m t r b a.0)
search-is-one P T σ f k p m s t (r ∷ rs) (q ∷ qs) a b =
    let e : r ≡ q = found-one P T σ f k p m r q a.0 b.0 in
    let l : Log P T σ f r.third (after r) (m + 1) qs t = subst (λ (x : Rec). Log P T σ f x.third (after x) (m + 1) qs t) (sym e) b.1 in
    let rest = search-is-one P T σ f r.third (after r) (m + 1) s t rs qs a.1 l in
    let es = rest.0 in
    (cc, rest.1)

pub search-rests : SearchRests
search-rests P T σ τ f k p m s [] same l h = (h.0, absent-frame P T σ τ k p m same l h.1, λ n. absent-frame P T σ τ (next_of k) (start T (next_of k)) m same (inside T (next_of k)).0 (h.2 n))
search-rests P T σ τ f k p m s (r ∷ rs) same l (found-here a b c st, h) =
    (found-here a b c (stands-frame P T σ τ r same (omega arith) st), search-rests P T σ τ f r.third (after r) (m + 1) s rs same (omega arith) h)
search-rests P T σ τ f k p m s (r ∷ rs) same l (found-next n z a b c st, h) =
    let start = (inside T (next_of k)).0 in
    (found-next (absent-frame P T σ τ k p m same l n) z a b c (stands-frame P T σ τ r same (omega arith) st), search-rests P T σ τ f r.third (after r) (m + 1) s rs same (omega arith) h)
