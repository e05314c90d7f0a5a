-- The frames of a record's pages, into which its images were read one after the other.
--     held           a frame with an image that was read from a record in a third
--     taken          the frames after the images of pages
--     numbers-of     page numbers beside images are those numbers
--     many-of        and as many
--     page-below     a page of a head that fits is below the number of pages
--     taken-more     the next image is that of the next page
--     taken-all      no image is left: each frame has the image of its page, or is as before
--     copy-same      a read that is answered leaves the disk as it is
--     copy-moved     what was read, said of equal places and an equal disk
--     copy-is        the image that was read is the one that stands
use Rattle.std.proofs.Common.{◌≡◌, ℕ, zero, suc, ◌+◌, ◌<◌, ◌≤◌, Bool, true, false, eqb, List, [], ◌∷◌, length, drop, get_or, set, Some, None, Ok, sym, refl, ap, ◌∙◌, subst, inl, inr, arith, cond, add-one, drop-cons}
use Rattle.std.proofs.lemmas.Grind.{get_or-set_at}
use Rattle.std.proofs.lemmas.List.{get_or-set_other, length-set, get_or-take, drop_all}
use Rattle.std.proofs.lemmas.Bool.{cases_eq}
use Rattle.std.proofs.lemmas.Bool.Decides.{nat_tests}
use Rattle.disk.specs.Sectors.{DiskState, unreadable, holds}
use Rattle.frames.specs.Frames.{none_held}
use Rattle.frames.specs.declared.frame.Frame.{Frame}
use Rattle.geometry.specs.declared.third.Third.{Third}
use Rattle.layout.specs.Heads.{HeadFits}
use Rattle.layout.specs.declared.head.RecordHead.{RecordHead}
use Rattle.searching.specs.Looks.{listed, CopySeen}
use Rattle.searching.specs.LogReads.{kept}
use Rattle.searching.proofs.Listed.{listed-good}
use Rattle.thirds.specs.Words.{Disk, Rise, on}
use Rattle.thirds.specs.Records.{Page, numbers, ImagesAt}
use Rattle.thirds.specs.Reading.{paired, Copied}
use Rattle.thirds.specs.Homes.{image_in}

abbrev pub held : Third → List ℕ → Frame
held k x = record { now = x; forced = x; changed = false; third = Some k }

abbrev pub taken : Third → List Page → List Frame → List Frame
taken k [] frames = frames
taken k (p ∷ ps) frames = taken k ps (set frames p.0 (held k p.1))

-- page numbers and images side by side
pub numbers-of : (ns : List ℕ) (xs : List (List ℕ)) → length xs ≡ length ns → numbers (paired ns xs) ≡ ns
numbers-of [] xs e = refl
numbers-of (n ∷ ns) [] e = absurd (omega arith)
numbers-of (n ∷ ns) (x ∷ xs) e = ap (λ l. n ∷ l) (numbers-of ns xs (omega arith))

pub many-of : (ns : List ℕ) (xs : List (List ℕ)) → length xs ≡ length ns → length (paired ns xs) ≡ length ns
many-of [] xs e = refl
many-of (n ∷ ns) [] e = absurd (omega arith)
many-of (n ∷ ns) (x ∷ xs) e = ap suc (many-of ns xs (omega arith))

number-at : (ns : List ℕ) (xs : List (List ℕ)) (j : ℕ) → length xs ≡ length ns → (get_or (paired ns xs) j (0, [])).0 ≡ get_or ns j 0
number-at [] xs j e = refl
number-at (n ∷ ns) [] j e = absurd (omega arith)
number-at (n ∷ ns) (x ∷ xs) zero e = refl
number-at (n ∷ ns) (x ∷ xs) (suc j) e = number-at ns xs j (omega arith)

copied-at : (σ : Disk) (ps : List Page) (u v j : ℕ) → j < length ps → ImagesAt σ u v ps → Copied σ (u + j) (v + j) (get_or ps j (0, [])).1
copied-at σ [] u v j l h = absurd (omega arith)
copied-at σ (p ∷ ps) u v zero l h = subst (λ (a : ℕ). Copied σ a (v + 0) p.1) (plus-zero u) (subst (λ (b : ℕ). Copied σ u b p.1) (plus-zero v) h.0)
  where
    plus-zero : (n : ℕ) → n ≡ n + 0
    plus-zero n = omega arith
copied-at σ (p ∷ ps) u v (suc j) l h =
    subst (λ (a : ℕ). Copied σ a (v + suc j) (get_or ps j (0, [])).1) (shift u) (subst (λ (b : ℕ). Copied σ (u + 1 + j) b (get_or ps j (0, [])).1) (shift v) (copied-at σ ps (u + 1) (v + 1) j (omega arith) h.1))
  where
    shift : (n : ℕ) → n + 1 + j ≡ n + suc j
    shift n = omega arith

pub copy-is : (a b : ℕ) (d e : DiskState) (r : Bool) (image x : List ℕ) → CopySeen a b d (Ok r) e image → Copied (on d.sectors) a b x → image ≡ x
copy-is a b d e true image x v (inl h) = elim v.2 [ inl q ↦ (let z : holds image ≡ holds x = sym q ∙ h in cc) | inr q ↦ (let z : unreadable ≡ holds x = sym q.0 ∙ h in cc) ]
copy-is a b d e true image x v (inr h) = elim v.2 [ inl q ↦ (let z : holds image ≡ unreadable = sym q ∙ h.0 in cc) | inr q ↦ (let z : holds image ≡ holds x = sym q.1 ∙ h.1 in cc) ]
copy-is a b d e false image x v (inl h) = let z : unreadable ≡ holds x = sym v.2 ∙ h in cc
copy-is a b d e false image x v (inr h) = let z : unreadable ≡ holds x = sym v.3 ∙ h.1 in cc

pub copy-same : (a b : ℕ) (d e : DiskState) (r : Bool) (image : List ℕ) → CopySeen a b d (Ok r) e image → e ≡ d
copy-same a b d e true image v = v.1
copy-same a b d e false image v = v.1

pub copy-moved : (a b a' b' : ℕ) (d d' e : DiskState) (r : Bool) (image : List ℕ) → a ≡ a' → b ≡ b' → d ≡ d' → CopySeen a b d (Ok r) e image → CopySeen a' b' d' (Ok r) e image
copy-moved a b a' b' d d' e r image p q s v =
    subst (λ (z : DiskState). CopySeen a' b' z (Ok r) e image) s (subst (λ (j : ℕ). CopySeen a' j d (Ok r) e image) q (subst (λ (i : ℕ). CopySeen i b d (Ok r) e image) p v))

-- the page at a place is below the number of pages
below-at : (low P : ℕ) (ns : List ℕ) (j : ℕ) → j < length ns → Rise low P ns → get_or ns j 0 < P
below-at low P [] j l r = absurd (omega arith)
below-at low P (n ∷ ns) zero l r = r.1
below-at low P (n ∷ ns) (suc j) l r = below-at (n + 1) P ns j (omega arith) r.2

pub page-below : (P : ℕ) (h : RecordHead) (j : ℕ) → HeadFits P h → j < h.count → get_or h.pages j 0 < P
page-below P h j fits l =
    let good = listed-good P h fits in
    subst (λ (n : ℕ). n < P) (get_or-take h.count h.pages j 0 l) (below-at 0 P (listed h) j (omega arith) good.1)

-- no image of a page whose number is too low
none-below : (i low P : ℕ) (ps : List Page) → i < low → Rise low P (numbers ps) → image_in ps i ≡ None
none-below i low P [] l r = refl
none-below i low P (p ∷ ps) l r = let rest = none-below i (p.0 + 1) P ps (omega (arith, r.0)) r.2 in let a = r.0 in grind (arith, nat_tests)

cond-same : {X : Type 0} (i n : ℕ) (a b : X) → i ≡ n → cond (eqb i n) a b ≡ a
cond-same i n a b q = grind (arith, nat_tests)

cond-other : {X : Type 0} (i n : ℕ) (a b : X) → (i ≡ n → ⊥) → cond (eqb i n) a b ≡ b
cond-other i n a b q = grind (arith, nat_tests)

each-taken : (P low : ℕ) (k : Third) (ps : List Page) (frames : List Frame) (i : ℕ) → P ≤ length frames → i < length frames → Rise low P (numbers ps)
    → get_or (taken k ps frames) i none_held ≡ kept (image_in ps i) (Some k) (get_or frames i none_held)
each-taken P low k [] frames i m l r = refl
each-taken P low k (p ∷ ps) frames i m l r =
    let after = set frames p.0 (held k p.1) in
    let long : length after ≡ length frames = length-set frames p.0 (held k p.1) in
    let rest = each-taken P (p.0 + 1) k ps after i (omega arith) (omega arith) r.2 in
    elim (cases_eq i p.0) [
      | inl q ↦
          rest
          ∙ ap (λ o. kept o (Some k) (get_or after i none_held)) (none-below i (p.0 + 1) P ps (omega arith) r.2)
          ∙ get_or-set_at frames p.0 i (held k p.1) none_held q (omega arith)
          ∙ sym (ap (λ o. kept o (Some k) (get_or frames i none_held)) (cond-same i p.0 (Some p.1) (image_in ps i) q))
      | inr q ↦
          rest
          ∙ ap (kept (image_in ps i) (Some k)) (get_or-set_other frames p.0 i (held k p.1) none_held q)
          ∙ sym (ap (λ o. kept o (Some k) (get_or frames i none_held)) (cond-other i p.0 (Some p.1) (image_in ps i) q))
    ]

module _ (P : ℕ) (h : RecordHead) (fits : HeadFits P h) (xs : List (List ℕ)) (many : length xs ≡ h.count) where
  as-many : length xs ≡ length (listed h)
  as-many = many ∙ sym (listed-good P h fits).0

  pub taken-all : (k : Third) (frames later : List Frame) (j : ℕ) → h.count ≤ j → taken k (drop j (paired (listed h) xs)) later ≡ taken k (paired (listed h) xs) frames → P ≤ length frames
      → (i : ℕ) → i < length frames → get_or later i none_held ≡ kept (image_in (paired (listed h) xs) i) (Some k) (get_or frames i none_held)
  taken-all k frames later j l same m i less =
      let ps = paired (listed h) xs in
      let none : drop j ps ≡ [] = drop_all j ps (omega (arith, many-of (listed h) xs as-many, as-many)) in
      let is : later ≡ taken k ps frames = sym (ap (λ qs. taken k qs later) none) ∙ same in
      ap (λ fs. get_or fs i none_held) is
      ∙ each-taken P 0 k ps frames i m less (subst (Rise 0 P) (sym (numbers-of (listed h) xs as-many)) (listed-good P h fits).1)

  pub taken-more : (k : Third) (frames : List Frame) (a b : ℕ) (d e : DiskState) (r : Bool) (image : List ℕ) (j page : ℕ) → j < h.count → page ≡ get_or h.pages j 0
      → CopySeen (a + j) (b + j) d (Ok r) e image → ImagesAt (on d.sectors) a b (paired (listed h) xs)
      → taken k (drop (j + 1) (paired (listed h) xs)) (set frames page (held k image)) ≡ taken k (drop j (paired (listed h) xs)) frames
  taken-more k frames a b d e r image j page l at v im =
      let ps = paired (listed h) xs in
      let short : j < length ps = omega (arith, many-of (listed h) xs as-many, as-many) in
      let p = get_or ps j (0, []) in
      let one : page ≡ p.0 = at ∙ sym (number-at (listed h) xs j as-many ∙ get_or-take h.count h.pages j 0 l) in
      let two : image ≡ p.1 = copy-is (a + j) (b + j) d e r image p.1 v (copied-at (on d.sectors) ps a b j short im) in
      ap (λ i. taken k (drop i ps) (set frames page (held k image))) (add-one j)
      ∙ ap (λ n. taken k (drop (suc j) ps) (set frames n (held k image))) one
      ∙ ap (λ x. taken k (drop (suc j) ps) (set frames p.0 (held k x))) two
      ∙ sym (ap (λ qs. taken k qs frames) (drop-cons ps j (0, []) short))
