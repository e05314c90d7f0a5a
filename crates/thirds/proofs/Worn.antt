-- What two lost sectors leave of an up volume.
--     torn-worn                                  a cut in a list of writes is a state between two of them, less a pair
--     from-strong                                writes between states each of which outlives the loss of any pair
--     named-worn, marks-worn, pictured-worn      what a lost pair keeps
--     Strong                                     a volume at work
--     down-worn                                  with two sound anchors it can be recovered
--     strong-worn                                so can a volume at work, if no end has the number under way
--     marks-none                                 no end has a number that all are below
--     spoil-leaves                               an up volume that lost two adjacent sectors can be recovered
use Rattle.std.proofs.Common.{◌≡◌, ℕ, ◌^◌, ◌+◌, ◌<◌, ◌⊎◌, List, [], ◌∷◌, length, Some, None, Option, sym, refl, ap, ◌∙◌, subst, inl, inr, arith}
use Rattle.std.specs.List.{AllByRecursion}
use Rattle.std.proofs.ByRecursion.{All-weaker}
use Rattle.std.proofs.lemmas.Bool.{cases_lt}
use Rattle.disk.specs.Sectors.{Sector, holds, unreadable}
use Rattle.disk.specs.WriteLists.{Write}
use Rattle.geometry.specs.Places.{Good, first_homes, second_homes}
use Rattle.geometry.specs.declared.third.Third.{Third}
use Rattle.thirds.specs.Words.{Calm, Disk, Images, anchor, header_bytes, says, word_of}
use Rattle.thirds.specs.Cuts.{From, Torn, Worn, struck-pair, struck-whole}
use Rattle.thirds.specs.Records.{NoEnd, Rec, Stands, Whole, start}
use Rattle.thirds.specs.Search.{Named}
use Rattle.thirds.specs.Homes.{Fair, Pictured, Side, newest}
use Rattle.thirds.specs.Volumes.{Core, Down, Headed, Marks, Shows, Sound, Span, SpoilLeaves, Up, Within, just}
use Rattle.thirds.proofs.Words.{anchor-read, unsaid}
use Rattle.thirds.proofs.WriteLists.{Keeps, through-keeps}
use Rattle.thirds.proofs.RecordStands.{no-end-worn, spoil-stands}
use Rattle.thirds.proofs.SearchFinds.{search-finds}
use Rattle.thirds.proofs.HomeWrites.{not-lost}

-- A cut in a list of writes is a state between two of them, less a pair.
pub torn-worn : (K : Disk → Type 0) (ws : List Write) → AllByRecursion (Keeps K) ws → (σ τ : Disk) → Torn ws σ τ → K σ → (ρ : Disk) × (t : ℕ) × K ρ × Worn t ρ τ
torn-worn K [] a σ τ t k = absurd t
torn-worn K (w ∷ ws) a σ τ (inl (struck-whole p)) k = (τ, 0, a.0 σ τ p k, λ u. inl refl)
torn-worn K (w ∷ ws) a σ τ (inl (struck-pair t x y z)) k = (σ, t, k, z)
torn-worn K (w ∷ ws) a σ τ (inr (ρ, p, t)) k = torn-worn K ws a.1 ρ τ t (a.0 σ ρ p k)

-- Writes between states each of which outlives the loss of any pair.
pub from-strong : (L K : Disk → Type 0) (A : Write → Type 0) → ((w : Write) → A w → Keeps K w) → ((t : ℕ) (ρ τ : Disk) → K ρ → Worn t ρ τ → L τ) → (σ : Disk) (ws : List Write) → AllByRecursion A ws → K σ → From σ ws L K
from-strong L K A f g σ ws a k = record {
  cut = λ τ t. (let z = torn-worn K ws (All-weaker A (Keeps K) f ws a) σ τ t k in g z.1 z.0 τ z.2 z.3);
  done = λ τ d. through-keeps K ws (All-weaker A (Keeps K) f ws a) σ τ d k;
}

module _ (t : ℕ) (σ τ : Disk) (w : Worn t σ τ) where
  good-worn : (G : Sector → Type 0) → G unreadable → (u : ℕ) → G (σ u) → G (τ u)
  good-worn G z u g = elim (w u) [ inl e ↦ subst G (sym e) g | inr h ↦ subst G (sym h.0) z ]

  pub pictured-worn : (o : Option (List ℕ)) (a b : ℕ) (x : List ℕ) → Pictured o (σ a) (σ b) x → Pictured o (τ a) (τ b) x
  pictured-worn (Some y) a b x p = p
  pictured-worn None a b x p = (good-worn (Fair x) (inl refl) a p.0, good-worn (Fair x) (inl refl) b p.1)

  either-worn : (u v : ℕ) → u + 1 < v → (σ u ≡ unreadable → ⊥) → (σ v ≡ unreadable → ⊥) → (τ u ≡ unreadable → ⊥) ⊎ (τ v ≡ unreadable → ⊥)
  either-worn u v l a b = elim (w u) [
    | inl e ↦ inl (λ q. a (sym e ∙ q))
    | inr h ↦ elim (w v) [ inl e ↦ inr (λ q. b (sym e ∙ q)) | inr k ↦ absurd (omega (arith, h.1, h.2, k.1, k.2)) ]
  ]

  sides-worn : (P T : ℕ) → Side P (first_homes T) σ → Side P (second_homes P T) σ → Side P (first_homes T) τ ⊎ Side P (second_homes P T) τ
  sides-worn P T a b = elim (cases_lt t (first_homes T + P)) [
    | inl l ↦ inr (λ i j q. elim (w (second_homes P T + i)) [ inl e ↦ b i j (sym e ∙ q) | inr h ↦ absurd (omega (arith, h.1, h.2)) ])
    | inr l ↦ inl (λ i j q. elim (w (first_homes T + i)) [ inl e ↦ a i j (sym e ∙ q) | inr h ↦ absurd (omega (arith, h.1, h.2)) ])
  ]

module _ (P t : ℕ) (σ τ : Disk) (w : Worn t σ τ) where
  pub named-worn : (q : Rec) → Named P σ q → Named P τ q
  named-worn q k u ks e = elim (w u) [ inl a ↦ k u ks (ap (says P) (sym a) ∙ e) | inr h ↦ (let x = unsaid P h.0 e in let z : ◌≡◌ {A = ℕ} 0 1 = cc in absurd (omega arith)) ]

  pub marks-worn : (n : ℕ) → Marks P σ n → Marks P τ n
  marks-worn n k = record {
    of-heads = λ u m ns e. elim (w u) [ inl a ↦ k.of-heads u m ns (ap (says P) (sym a) ∙ e) | inr h ↦ absurd (subst Calm (unsaid P h.0 e) tt) ];
    of-ends = λ u m j e. elim (w u) [ inl a ↦ k.of-ends u m j (ap (says P) (sym a) ∙ e) | inr h ↦ absurd (subst Calm (unsaid P h.0 e) tt) ];
  }

  -- from an anchor whose records were whole
  shows-worn : (T : ℕ) (X : Images) (h : Span) (f : Third) (m : ℕ) (rs : List Rec) (n : ℕ) → Core P T X f m rs σ → n ≡ m + length rs → Marks P σ (n + 1) → NoEnd P τ n → Within h n → Shows P T X h τ f m rs n
  shows-worn T X h f m rs n c e k none l = record {
    found = search-finds P T τ f f (start T f) m n rs c.laid
        (All-weaker (Whole P T σ) (Stands P T τ) (λ q x. spoil-stands P T t σ τ q x w) rs c.whole)
        (All-weaker (Named P σ) (Named P τ) named-worn rs c.named) e none;
    pictured = λ i j. pictured-worn t σ τ w (newest rs i) (first_homes T + i) (second_homes P T + i) (X i) (c.pictured i j);
    marks = marks-worn (n + 1) k;
    within = l;
  }

-- An anchor from which records run up to the number n.
abbrev Leads : ℕ → ℕ → Images → ℕ → Disk → Sector → Type 0
Leads P T X n σ x = (f : Third) × (m : ℕ) × (rs : List Rec) × (says P x ≡ anchor f m) × (m < 2 ^ 32) × Core P T X f m rs σ × (n ≡ m + length rs)

-- A volume at work: all is whole, but the anchors may differ and a record numbered n may be half written.
pub record Strong (P T N : ℕ) (X : Images) (n : ℕ) (σ : Disk) : Type 0 where
  pub good : Good P T N × (N < 2 ^ 32)
  pub headers : (σ 0 ≡ holds (header_bytes P T N)) × (σ 2 ≡ holds (header_bytes P T N))
  pub one : Leads P T X n σ (σ 4)
  pub two : Leads P T X n σ (σ 6)
  pub marks : Marks P σ (n + 1)
  pub sides : Side P (first_homes T) σ × Side P (second_homes P T) σ
  pub calm : (i : ℕ) → i < P → Calm (word_of P (X i))

pub down-worn : (P T N t : ℕ) (X : Images) (h : Span) (σ τ : Disk) → Worn t σ τ → Good P T N × (N < 2 ^ 32) → σ 0 ≡ holds (header_bytes P T N) → σ 2 ≡ holds (header_bytes P T N) → ((i : ℕ) → i < P → Calm (word_of P (X i)))
    → (f : Third) (m : ℕ) (g : Third) (n : ℕ) → says P (σ 4) ≡ anchor f m → says P (σ 6) ≡ anchor g n → m < 2 ^ 32 → n < 2 ^ 32 → Sound P T X h τ f m → Sound P T X h τ g n
    → Side P (first_homes T) σ → Side P (second_homes P T) σ → Down P T N X h τ
down-worn P T N t X h σ τ w good h₀ h₂ calm f m g n a₄ a₆ num num' s₄ s₆ a b = record {
  good = good;
  calm = calm;
  headers = record {
    one = good-worn t σ τ w (Headed P T N) (inl refl) 0 (inr h₀);
    two = good-worn t σ τ w (Headed P T N) (inl refl) 2 (inr h₂);
    either = either-worn t σ τ w 0 2 (omega arith) (λ q. not-lost q h₀) (λ q. not-lost q h₂);
  };
  anchors = record {
    one = elim (w 4) [ inl e ↦ inr (f, m, ap (says P) e ∙ a₄, num, s₄) | inr k ↦ inl k.0 ];
    two = elim (w 6) [ inl e ↦ inr (g, n, ap (says P) e ∙ a₆, num', s₆) | inr k ↦ inl k.0 ];
    either = either-worn t σ τ w 4 6 (omega arith) (anchor-read P a₄) (anchor-read P a₆);
  };
  sides = sides-worn t σ τ w P T a b;
}

pub strong-worn : (P T N t : ℕ) (X : Images) (n : ℕ) (σ τ : Disk) → Strong P T N X n σ → Worn t σ τ → NoEnd P τ n → Down P T N X (just n) τ
strong-worn P T N t X n σ τ k w none =
    let (f, m, rs, e, num, c, l) = k.one in
    let (g, j, qs, e', num', c', l') = k.two in
    down-worn P T N t X (just n) σ τ w k.good k.headers.0 k.headers.1 k.calm f m g j e e' num num'
    (rs, n, shows-worn P t σ τ w T X (just n) f m rs n c l k.marks none (omega arith, omega arith)) (qs, n, shows-worn P t σ τ w T X (just n) g j qs n c' l' k.marks none (omega arith, omega arith)) k.sides.0 k.sides.1

up-strong : (P T N : ℕ) (X : Images) (f : Third) (m : ℕ) (rs : List Rec) (σ : Disk) → Up P T N X f m rs σ → Strong P T N X (m + length rs) σ
up-strong P T N X f m rs σ k = record {
  good = k.good;
  headers = k.headers;
  one = (f, m, rs, k.anchors.0, k.small, k.core, refl);
  two = (f, m, rs, k.anchors.1, k.small, k.core, refl);
  marks = record { of-heads = λ u n ns e. omega (arith, k.marks.of-heads u n ns e); of-ends = λ u n c e. omega (arith, k.marks.of-ends u n c e) };
  sides = k.sides;
  calm = k.calm;
}

pub marks-none : (P : ℕ) (σ : Disk) (n : ℕ) → Marks P σ n → NoEnd P σ n
marks-none P σ n k u c e = omega (arith, k.of-ends u n c e)

pub spoil-leaves : SpoilLeaves
spoil-leaves P T N t X f m rs σ τ k w = strong-worn P T N t X (m + length rs) σ τ (up-strong P T N X f m rs σ k) w (no-end-worn P w (marks-none P σ (m + length rs) k.marks))
