-- What a write, whole or cut, leaves of a down volume.
--     marks-struck                                     no head and no end comes from a write of neither
--     Mild                                             a write that keeps the log and gives homes their images
--     mild-low, mild-first, mild-second                one before the log, to a first home, to a second home
--     pictured-struck, shows-struck, sound-struck      what such a write keeps
--     down-header-0, down-header-2                     a header is written from the other
--     down-anchor-4, down-anchor-6                     a sound anchor is written while the other can be read
--     down-first-home, down-second-home                a home is written while the other side can be read
use Rattle.std.proofs.Common.{◌≡◌, ℕ, ◌^◌, ◌+◌, ◌<◌, ◌≤◌, ◌⊎◌, List, Some, None, Option, sym, refl, ap, ◌∙◌, subst, inl, inr, arith}
use Rattle.std.proofs.lemmas.Bool.{cases_eq}
use Rattle.disk.specs.Sectors.{Sector, holds, unreadable}
use Rattle.geometry.specs.Places.{first_homes, second_homes}
use Rattle.geometry.specs.declared.third.Third.{Third}
use Rattle.thirds.specs.Words.{Calm, Disk, Images, anchor_bytes, header_bytes, says, word_of}
use Rattle.thirds.specs.Cuts.{Struck, struck-pair, struck-whole}
use Rattle.thirds.specs.Records.{Rec, start}
use Rattle.thirds.specs.Search.{SameLog}
use Rattle.thirds.specs.Homes.{Fair, Pictured, Side, newest}
use Rattle.thirds.specs.Volumes.{Anchored, Down, Headed, Marks, Shows, Sound, Span}
use Rattle.thirds.proofs.Words.{anchor-calm, header-calm, says-anchor, unsaid}
use Rattle.thirds.proofs.WriteLists.{struck-away}
use Rattle.thirds.proofs.Thirds.{inside}
use Rattle.thirds.proofs.SearchFinds.{search-rests}

struck-at : {s : ℕ} {v : List ℕ} {σ τ : Disk} → Struck s v σ τ → (u : ℕ) → (τ u ≡ σ u) ⊎ ((τ u ≡ unreadable) ⊎ ((u ≡ s) × (τ u ≡ holds v)))
struck-at {s} {v} {σ} {τ} (struck-whole p) u = elim (cases_eq u s) [ inl e ↦ inr (inr (e, ap τ e ∙ p.here)) | inr e ↦ inl (p.away u e) ]
struck-at (struck-pair t a b w) u = elim (w u) [ inl e ↦ inl e | inr h ↦ inr (inl h.0) ]

pub marks-struck : (P : ℕ) {s n : ℕ} {v : List ℕ} {σ τ : Disk} → Struck s v σ τ → Calm (word_of P v) → Marks P σ n → Marks P τ n
marks-struck P x c k = record {
  of-heads = λ u m ns e. elim (struck-at x u) [
    | inl a ↦ k.of-heads u m ns (ap (says P) (sym a) ∙ e)
    | inr (inl a) ↦ absurd (subst Calm (unsaid P a e) tt)
    | inr (inr (a, b)) ↦ absurd (subst Calm (ap (says P) (sym b) ∙ e) c)
  ];
  of-ends = λ u m j e. elim (struck-at x u) [
    | inl a ↦ k.of-ends u m j (ap (says P) (sym a) ∙ e)
    | inr (inl a) ↦ absurd (subst Calm (unsaid P a e) tt)
    | inr (inr (a, b)) ↦ absurd (subst Calm (ap (says P) (sym b) ∙ e) c)
  ];
}

-- what is good stays good if the write is good and the unreadable is
good-struck : (G : Sector → Type 0) {s : ℕ} {v : List ℕ} {σ τ : Disk} → Struck s v σ τ → G unreadable → (u : ℕ) → (u ≡ s → G (holds v)) → G (σ u) → G (τ u)
good-struck G x z u w g = elim (struck-at x u) [
  | inl a ↦ subst G (sym a) g
  | inr (inl a) ↦ subst G (sym a) z
  | inr (inr (a, b)) ↦ subst G (sym b) (w a)
]

module _ (P T : ℕ) (X : Images) where
  -- a write that keeps the log and gives homes their images
  pub record Mild (s : ℕ) (v : List ℕ) : Type 0 where
    pub calm : Calm (word_of P v)
    pub outside : (s < 7) ⊎ (8 + T + T + T ≤ s)
    pub right : (i : ℕ) → i < P → (first_homes T + i ≡ s) ⊎ (second_homes P T + i ≡ s) → v ≡ X i

  same-log-struck : {s : ℕ} {v : List ℕ} {σ τ : Disk} → Struck s v σ τ → Mild s v → SameLog T σ τ
  same-log-struck x k u a b = struck-away x u (elim k.outside [ inl c ↦ inr (omega arith) | inr c ↦ inl (omega arith) ])

  pub pictured-struck : {s : ℕ} {v : List ℕ} {σ τ : Disk} → Struck s v σ τ → Mild s v → (o : Option (List ℕ)) (i : ℕ) → i < P
      → Pictured o (σ (first_homes T + i)) (σ (second_homes P T + i)) (X i) → Pictured o (τ (first_homes T + i)) (τ (second_homes P T + i)) (X i)
  pictured-struck x k (Some y) i l p = p
  pictured-struck x k None i l p = (
    good-struck (Fair (X i)) x (inl refl) (first_homes T + i) (λ e. inr (ap holds (k.right i l (inl e)))) p.0,
    good-struck (Fair (X i)) x (inl refl) (second_homes P T + i) (λ e. inr (ap holds (k.right i l (inr e)))) p.1,
  )

  pub mild-low : (s : ℕ) (v : List ℕ) → s < 7 → Calm (word_of P v) → Mild s v
  mild-low s v l c = record { calm = c; outside = inl l; right = λ i j e. absurd (omega arith) }

  pub mild-first : (i : ℕ) → i < P → Calm (word_of P (X i)) → Mild (first_homes T + i) (X i)
  mild-first i l c = record { calm = c; outside = inr (omega arith); right = λ j k e. let z : j ≡ i = omega arith in ap X (sym z) }

  pub mild-second : (i : ℕ) → i < P → Calm (word_of P (X i)) → Mild (second_homes P T + i) (X i)
  mild-second i l c = record { calm = c; outside = inr (omega arith); right = λ j k e. let z : j ≡ i = omega arith in ap X (sym z) }

module _ (P T : ℕ) (X : Images) (h : Span) where
  pub shows-struck : {s : ℕ} {v : List ℕ} {σ τ : Disk} → Struck s v σ τ → Mild P T X s v → (f : Third) (m : ℕ) (rs : List Rec) (n : ℕ) → Shows P T X h σ f m rs n → Shows P T X h τ f m rs n
  shows-struck {s} {v} {σ} {τ} x k f m rs n z = record {
    found = search-rests P T σ τ f f (start T f) m n rs (same-log-struck P T X x k) (inside T f).0 z.found;
    pictured = λ i l. pictured-struck P T X x k (newest rs i) i l (z.pictured i l);
    marks = marks-struck P x k.calm z.marks;
    within = z.within;
  }

  pub sound-struck : {s : ℕ} {v : List ℕ} {σ τ : Disk} → Struck s v σ τ → Mild P T X s v → (f : Third) (m : ℕ) → Sound P T X h σ f m → Sound P T X h τ f m
  sound-struck x k f m (rs, n, z) = (rs, n, shows-struck x k f m rs n z)

  anchored-struck : {s : ℕ} {v : List ℕ} {σ τ : Disk} → Struck s v σ τ → Mild P T X s v → (y : Sector) → Anchored P T X h σ y → Anchored P T X h τ y
  anchored-struck x k y (inl e) = inl e
  anchored-struck x k y (inr (f, m, e, q, z)) = inr (f, m, e, q, sound-struck x k f m z)

module _ (P T N : ℕ) (X : Images) (h : Span) where
  -- the parts that a write puts at risk are given
  down-struck : {s : ℕ} {v : List ℕ} {σ τ : Disk} → Struck s v σ τ → Mild P T X s v
      → ((s ≡ 0) ⊎ (s ≡ 2) → Headed P T N (holds v)) → ((s ≡ 4) ⊎ (s ≡ 6) → Anchored P T X h τ (holds v))
      → (τ 0 ≡ unreadable → ⊥) ⊎ (τ 2 ≡ unreadable → ⊥) → (τ 4 ≡ unreadable → ⊥) ⊎ (τ 6 ≡ unreadable → ⊥)
      → Side P (first_homes T) τ ⊎ Side P (second_homes P T) τ → Down P T N X h σ → Down P T N X h τ
  down-struck {s} {v} {σ} {τ} x k hv av eh ea sides d = record {
    good = d.good;
    headers = record {
      one = good-struck (Headed P T N) x (inl refl) 0 (λ e. hv (inl (sym e))) d.headers.one;
      two = good-struck (Headed P T N) x (inl refl) 2 (λ e. hv (inr (sym e))) d.headers.two;
      either = eh;
    };
    anchors = record {
      one = good-struck (Anchored P T X h τ) x (inl refl) 4 (λ e. av (inl (sym e))) (anchored-struck P T X h x k (σ 4) d.anchors.one);
      two = good-struck (Anchored P T X h τ) x (inl refl) 6 (λ e. av (inr (sym e))) (anchored-struck P T X h x k (σ 6) d.anchors.two);
      either = ea;
    };
    sides = sides;
    calm = d.calm;
  }

  -- what is left alone
  either-away : {s : ℕ} {v : List ℕ} {σ τ : Disk} → Struck s v σ τ → (u w : ℕ) → (u + 1 < s) ⊎ (s + 1 < u) → (w + 1 < s) ⊎ (s + 1 < w)
      → (σ u ≡ unreadable → ⊥) ⊎ (σ w ≡ unreadable → ⊥) → (τ u ≡ unreadable → ⊥) ⊎ (τ w ≡ unreadable → ⊥)
  either-away x u w a b (inl c) = inl (λ e. c (sym (struck-away x u a) ∙ e))
  either-away x u w a b (inr c) = inr (λ e. c (sym (struck-away x w b) ∙ e))

  side-away : {s : ℕ} {v : List ℕ} {σ τ : Disk} → Struck s v σ τ → (base : ℕ) → ((i : ℕ) → i < P → (base + i + 1 < s) ⊎ (s + 1 < base + i)) → Side P base σ → Side P base τ
  side-away x base far k i l e = k i l (sym (struck-away x (base + i) (far i l)) ∙ e)

  sides-away : {s : ℕ} {v : List ℕ} {σ τ : Disk} → Struck s v σ τ → s < 7 → Side P (first_homes T) σ ⊎ Side P (second_homes P T) σ → Side P (first_homes T) τ ⊎ Side P (second_homes P T) τ
  sides-away x l (inl k) = inl (side-away x (first_homes T) (λ i j. inr (omega arith)) k)
  sides-away x l (inr k) = inr (side-away x (second_homes P T) (λ i j. inr (omega arith)) k)

  -- the five kinds of writes
  pub down-header-0 : {σ τ : Disk} → Struck 0 (header_bytes P T N) σ τ → (σ 2 ≡ unreadable → ⊥) → Down P T N X h σ → Down P T N X h τ
  down-header-0 x c d = down-struck x (mild-low P T X 0 (header_bytes P T N) (omega arith) (header-calm P T N)) (λ _. inr refl) (λ e. absurd (omega arith))
      (inr (λ e. c (sym (struck-away x 2 (inr (omega arith))) ∙ e)))
      (either-away x 4 6 (inr (omega arith)) (inr (omega arith)) d.anchors.either) (sides-away x (omega arith) d.sides) d

  pub down-header-2 : {σ τ : Disk} → Struck 2 (header_bytes P T N) σ τ → (σ 0 ≡ unreadable → ⊥) → Down P T N X h σ → Down P T N X h τ
  down-header-2 x c d = down-struck x (mild-low P T X 2 (header_bytes P T N) (omega arith) (header-calm P T N)) (λ _. inr refl) (λ e. absurd (omega arith))
      (inl (λ e. c (sym (struck-away x 0 (inl (omega arith))) ∙ e)))
      (either-away x 4 6 (inr (omega arith)) (inr (omega arith)) d.anchors.either) (sides-away x (omega arith) d.sides) d

  pub down-anchor-4 : {σ τ : Disk} (f : Third) (m : ℕ) → m < 2 ^ 32 → Struck 4 (anchor_bytes f m) σ τ → (σ 6 ≡ unreadable → ⊥) → Sound P T X h σ f m → Down P T N X h σ → Down P T N X h τ
  down-anchor-4 f m num x c z d = let sa = says-anchor P f m num in let k = mild-low P T X 4 (anchor_bytes f m) (omega arith) (anchor-calm P f m num) in
      down-struck x k (λ e. absurd (omega arith)) (λ _. inr (f, m, sa, num, sound-struck P T X h x k f m z))
      (either-away x 0 2 (inl (omega arith)) (inl (omega arith)) d.headers.either) (inr (λ e. c (sym (struck-away x 6 (inr (omega arith))) ∙ e))) (sides-away x (omega arith) d.sides) d

  pub down-anchor-6 : {σ τ : Disk} (f : Third) (m : ℕ) → m < 2 ^ 32 → Struck 6 (anchor_bytes f m) σ τ → (σ 4 ≡ unreadable → ⊥) → Sound P T X h σ f m → Down P T N X h σ → Down P T N X h τ
  down-anchor-6 f m num x c z d = let sa = says-anchor P f m num in let k = mild-low P T X 6 (anchor_bytes f m) (omega arith) (anchor-calm P f m num) in
      down-struck x k (λ e. absurd (omega arith)) (λ _. inr (f, m, sa, num, sound-struck P T X h x k f m z))
      (either-away x 0 2 (inl (omega arith)) (inl (omega arith)) d.headers.either) (inl (λ e. c (sym (struck-away x 4 (inl (omega arith))) ∙ e))) (sides-away x (omega arith) d.sides) d

  down-home : {s : ℕ} {v : List ℕ} {σ τ : Disk} → Struck s v σ τ → 8 + T + T + T ≤ s → Mild P T X s v → Side P (first_homes T) τ ⊎ Side P (second_homes P T) τ → Down P T N X h σ → Down P T N X h τ
  down-home x l k sides d =
      down-struck x k (λ e. absurd (omega arith)) (λ e. absurd (omega arith))
      (either-away x 0 2 (inl (omega arith)) (inl (omega arith)) d.headers.either) (either-away x 4 6 (inl (omega arith)) (inl (omega arith)) d.anchors.either) sides d

  pub down-first-home : {σ τ : Disk} (i : ℕ) → i < P → Struck (first_homes T + i) (X i) σ τ → Side P (second_homes P T) σ → Down P T N X h σ → Down P T N X h τ
  down-first-home i l x k d = down-home x (omega arith) (mild-first P T X i l (d.calm i l)) (inr (side-away x (second_homes P T) (λ j q. inr (omega arith)) k)) d

  pub down-second-home : {σ τ : Disk} (i : ℕ) → i < P → Struck (second_homes P T + i) (X i) σ τ → Side P (first_homes T) σ → Down P T N X h σ → Down P T N X h τ
  down-second-home i l x k d = down-home x (omega arith) (mild-second P T X i l (d.calm i l)) (inl (side-away x (first_homes T) (λ j q. inl (omega arith)) k)) d
