-- What each test of a record shows, in the order in which it is read.
--     tested      no head, no room, no end or no image: no record; and none of these: the record
use Rattle.std.proofs.Common.{◌≡◌, ℕ, zero, suc, ◌+◌, ◌*◌, ◌<◌, ◌≤◌, ◌⊎◌, List, [], ◌∷◌, length, get_or, sym, refl, ap, ◌∙◌, subst, inl, inr, arith}
use Rattle.disk.specs.Sectors.{unreadable}
use Rattle.geometry.specs.declared.third.Third.{Third}
use Rattle.thirds.specs.Words.{Disk, end, head, says}
use Rattle.thirds.specs.Records.{Absent, HeadAt, ImagesAt, Page, Rec, Stands, many, numbers, start}
use Rattle.thirds.specs.Reading.{Copied, Tested, paired}
use Rattle.thirds.proofs.RecordWords.{length-numbers}
use Rattle.thirds.proofs.SearchFinds.{heads-one}

-- No head, no record.
no-heads : (P T : ℕ) (σ : Disk) (k : Third) (p m : ℕ) → ((ks : List ℕ) → says P (σ p) ≡ head m ks → ⊥) → ((ks : List ℕ) → says P (σ (p + 2)) ≡ head m ks → ⊥) → Absent P T σ k p m
no-heads P T σ k p m a b r x y z st = heads (moved st.heads)
  where
    moved : HeadAt P σ r.place r.number (numbers r.pages) → HeadAt P σ p m (numbers r.pages)
    moved h = subst (λ (n : ℕ). HeadAt P σ p n (numbers r.pages)) z (subst (λ (u : ℕ). HeadAt P σ u r.number (numbers r.pages)) y h)

    heads : HeadAt P σ p m (numbers r.pages) → ⊥
    heads (inl h) = a (numbers r.pages) h
    heads (inr h) = b (numbers r.pages) h.1

-- From here on a right head has the page numbers ns.
module _ (P T : ℕ) (σ : Disk) (k : Third) (p m : ℕ) (ns : List ℕ) (hd : HeadAt P σ p m ns) where
  named : (r : Rec) → r.place ≡ p → r.number ≡ m → Stands P T σ r → (numbers r.pages ≡ ns) × (many r ≡ length ns)
  named r y z st =
      let h = subst (λ (n : ℕ). HeadAt P σ p n (numbers r.pages)) z (subst (λ (u : ℕ). HeadAt P σ u r.number (numbers r.pages)) y st.heads) in
      let e : numbers r.pages ≡ ns = heads-one P σ p m (numbers r.pages) ns h hd in
      (e, sym (length-numbers r.pages) ∙ ap length e)

  no-room : (length ns ≡ 0) ⊎ (start T k + T ≤ p + 5 + 2 * length ns) → Absent P T σ k p m
  no-room far r x y z st = let c = (named r y z st).1 in let b = ap (start T) x in let fit = st.fits in omega (arith, fit.0, fit.1)

  no-ends : (says P (σ (p + 3 + length ns)) ≡ end m (length ns) → ⊥) → (says P (σ (p + 4 + 2 * length ns)) ≡ end m (length ns) → ⊥) → Absent P T σ k p m
  no-ends a b r x y z st =
      let c = (named r y z st).1 in
      let e₁ : r.place + 3 + many r ≡ p + 3 + length ns = omega arith in
      let e₂ : r.place + 4 + 2 * many r ≡ p + 4 + 2 * length ns = omega arith in
      let v : end r.number (many r) ≡ end m (length ns) = cc in
      elim st.ends [ inl h ↦ a (ap (λ u. says P (σ u)) (sym e₁) ∙ h ∙ v) | inr h ↦ b (ap (λ u. says P (σ u)) (sym e₂) ∙ h ∙ v) ]

  image-at : (ps : List Page) (u v j : ℕ) → j < length ps → ImagesAt σ u v ps → σ (u + j) ≡ unreadable → σ (v + j) ≡ unreadable → ⊥
  image-at [] u v j l h a b = absurd (omega arith)
  image-at (q ∷ ps) u v zero l h a b =
      let a' : σ u ≡ unreadable = ap σ (plus-zero u) ∙ a in let b' : σ v ≡ unreadable = ap σ (plus-zero v) ∙ b in
      elim h.0 [ inl x ↦ (let z : ◌≡◌ {A = ℕ} 0 1 = cc in omega arith) | inr x ↦ (let y = x.1 in let z : ◌≡◌ {A = ℕ} 0 1 = cc in omega arith) ]
    where
      plus-zero : (n : ℕ) → n ≡ n + 0
      plus-zero n = omega arith
  image-at (q ∷ ps) u v (suc j) l h a b = image-at ps (u + 1) (v + 1) j (omega arith) h.1 (ap σ (shift u) ∙ a) (ap σ (shift v) ∙ b)
    where
      shift : (n : ℕ) → n + 1 + j ≡ n + suc j
      shift n = omega arith

  no-page : (j : ℕ) → j < length ns → σ (p + 3 + j) ≡ unreadable → σ (p + 4 + length ns + j) ≡ unreadable → Absent P T σ k p m
  no-page j l a b r x y z st =
      let c = (named r y z st).1 in
      let e₁ : r.place + 3 + j ≡ p + 3 + j = omega arith in
      let e₂ : r.place + 4 + many r + j ≡ p + 4 + length ns + j = omega arith in
      image-at r.pages (r.place + 3) (r.place + 4 + many r) j (omega arith) st.images (ap σ e₁ ∙ a) (ap σ e₂ ∙ b)

numbers-paired : (ns : List ℕ) (xs : List (List ℕ)) → length xs ≡ length ns → numbers (paired ns xs) ≡ ns
numbers-paired [] xs e = refl
numbers-paired (n ∷ ns) [] e = absurd (omega arith)
numbers-paired (n ∷ ns) (x ∷ xs) e = ap (λ t. n ∷ t) (numbers-paired ns xs (omega arith))

images-paired : (σ : Disk) (ns : List ℕ) (xs : List (List ℕ)) (u v : ℕ) → length xs ≡ length ns → ((j : ℕ) → j < length ns → Copied σ (u + j) (v + j) (get_or xs j [])) → ImagesAt σ u v (paired ns xs)
images-paired σ [] xs u v e h = tt
images-paired σ (n ∷ ns) [] u v e h = absurd (omega arith)
images-paired σ (n ∷ ns) (x ∷ xs) u v e h = (
  subst (λ (b : ℕ). Copied σ u b x) (plus-zero v) (subst (λ (a : ℕ). Copied σ a (v + 0) x) (plus-zero u) (h 0 (omega arith))),
  images-paired σ ns xs (u + 1) (v + 1) (omega arith) (λ j l. subst (λ (b : ℕ). Copied σ (u + 1 + j) b (get_or xs j [])) (shift v j) (subst (λ (a : ℕ). Copied σ a (v + suc j) (get_or xs j [])) (shift u j) (h (suc j) (omega arith)))),
)
  where
    plus-zero : (n : ℕ) → n + 0 ≡ n
    plus-zero n = omega arith

    shift : (n j : ℕ) → n + suc j ≡ n + 1 + j
    shift n j = omega arith

pub tested : (P T : ℕ) (σ : Disk) (k : Third) (p m : ℕ) → Tested P T σ k p m
tested P T σ k p m = record {
  no-head = no-heads P T σ k p m;
  no-fit = no-room P T σ k p m;
  no-end = no-ends P T σ k p m;
  no-copy = no-page P T σ k p m;
  all-there = λ ns xs long hd some fit e im.
      (let r : Rec = record { third = k; place = p; number = m; pages = paired ns xs } in
      let c : many r ≡ length ns = sym (length-numbers (paired ns xs)) ∙ ap length (numbers-paired ns xs long) in
      record {
        heads = subst (HeadAt P σ p m) (sym (numbers-paired ns xs long)) hd;
        fits = (omega arith, omega arith);
        ends = subst (λ (n : ℕ). (says P (σ (p + 3 + n)) ≡ end m n) ⊎ (says P (σ (p + 4 + 2 * n)) ≡ end m n)) (sym c) e;
        images = subst (λ (n : ℕ). ImagesAt σ (p + 3) (p + 4 + n) (paired ns xs)) (sym c) (images-paired σ ns xs (p + 3) (p + 4 + length ns) long im);
      });
}
