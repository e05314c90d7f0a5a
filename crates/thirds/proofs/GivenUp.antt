-- The anchored third is given up: its images go home, and then the anchors move on.
--     giving-from      the images stay through every cut, and then the third behind it is the anchored one
use Rattle.std.proofs.Common.{◌≡◌, ℕ, ◌^◌, ◌+◌, ◌<◌, ◌≤◌, true, List, [], ◌∷◌, ◌++◌, length, Some, None, Option, sym, refl, ap, ◌∙◌, subst, inl, inr, arith}
use Rattle.std.specs.List.{AllByRecursion}
use Rattle.std.proofs.ByRecursion.{All-weaker}
use Rattle.std.proofs.lemmas.Bool.{cases_eq}
use Rattle.std.proofs.lemmas.List.{length-append}
use Rattle.disk.specs.Sectors.{Sector, holds}
use Rattle.disk.specs.WriteLists.{Write}
use Rattle.geometry.specs.Places.{first_homes, second_homes}
use Rattle.geometry.specs.Thirds.{next_of}
use Rattle.geometry.specs.declared.third.Third.{Third}
use Rattle.thirds.specs.Words.{Calm, Disk, Images, anchor, anchor_bytes, says, word_of}
use Rattle.thirds.specs.Cuts.{From, Put, Through, struck-pair, struck-whole, write}
use Rattle.thirds.specs.Records.{Rec, Whole, start}
use Rattle.thirds.specs.Search.{Named}
use Rattle.thirds.specs.Homes.{Pictured, carry, holder, in_third, newest, or_else}
use Rattle.thirds.specs.Volumes.{Core, Down, Marks, Up, just}
use Rattle.thirds.specs.Recovery.{both_anchors}
use Rattle.thirds.proofs.Words.{anchor-calm, says-anchor}
use Rattle.thirds.proofs.WriteLists.{Keeps, from-one, from-then, from-with}
use Rattle.thirds.proofs.Thirds.{inside}
use Rattle.thirds.proofs.RecordStands.{no-end-worn}
use Rattle.thirds.proofs.Places.{all-back, all-zip, laid-back, laid-inside}
use Rattle.thirds.proofs.OwnWrites.{whole-put}
use Rattle.thirds.proofs.Struck.{Mild, marks-struck, mild-first, mild-low, mild-second, pictured-struck}
use Rattle.thirds.proofs.Worn.{Strong, from-strong, marks-none, spoil-leaves, strong-worn}
use Rattle.thirds.proofs.HomeWrites.{Homeward, both-home, both-set, readable-put}
use Rattle.thirds.proofs.Newest.{holder-front, newest-parts, same-third-self}

-- A write outside the log, right for the homes, keeps the records and the images.
named-calm : (P s : ℕ) (v : List ℕ) (σ τ : Disk) → Calm (word_of P v) → Put s v σ τ → (q : Rec) → Named P σ q → Named P τ q
named-calm P s v σ τ c p q k u ks e = elim (cases_eq u s) [
  | inr ne ↦ k u ks (ap (says P) (sym (p.away u ne)) ∙ e)
  | inl at ↦ absurd (subst Calm (ap (says P) (sym p.here ∙ ap τ (sym at)) ∙ e) c)
]

core-mild : (P T : ℕ) (X : Images) (f : Third) (m : ℕ) (rs : List Rec) (s : ℕ) (v : List ℕ) (σ τ : Disk) → Mild P T X s v → Put s v σ τ → Core P T X f m rs σ → Core P T X f m rs τ
core-mild P T X f m rs s v σ τ k p c = record {
  laid = c.laid;
  whole = all-zip (λ q. start T q.third ≤ q.place) (Whole P T σ) (Whole P T τ) one rs (laid-inside T f f (start T f) m rs (omega arith) c.laid) c.whole;
  named = All-weaker (Named P σ) (Named P τ) (named-calm P s v σ τ k.calm p) rs c.named;
  pictured = λ i l. pictured-struck P T X (struck-whole p) k (newest rs i) i l (c.pictured i l);
}
  where
    one : (q : Rec) → start T q.third ≤ q.place → Whole P T σ q → Whole P T τ q
    one q l h =
        let z = inside T q.third in
        whole-put P T s v σ τ q p (elim k.outside [ inl a ↦ inl (omega (arith, z.0)) | inr a ↦ inr (omega (arith, z.1, h.0.1)) ]) h

homeward-mild : (P T : ℕ) (X : Images) (w : Write) → ((i : ℕ) → i < P → Calm (word_of P (X i))) → Homeward P T X w → Mild P T X w.to w.bytes × (8 ≤ w.to)
homeward-mild P T X w c (inl (i, l, a, b)) = (subst (λ (v : List ℕ). Mild P T X w.to v) (sym b) (subst (λ (u : ℕ). Mild P T X u (X i)) (sym a) (mild-first P T X i l (c i l))), omega arith)
homeward-mild P T X w c (inr (i, l, a, b)) = (subst (λ (v : List ℕ). Mild P T X w.to v) (sym b) (subst (λ (u : ℕ). Mild P T X u (X i)) (sym a) (mild-second P T X i l (c i l))), omega arith)

up-home : (P T N : ℕ) (X : Images) (f : Third) (m : ℕ) (rs : List Rec) (w : Write) → Homeward P T X w → Keeps (Up P T N X f m rs) w
up-home P T N X f m rs w x σ τ p k =
    let z = homeward-mild P T X w k.calm x in
    let far = z.1 in
    record {
      good = k.good;
      headers = (p.away 0 (omega arith) ∙ k.headers.0, p.away 2 (omega arith) ∙ k.headers.1);
      anchors = (ap (says P) (p.away 4 (omega arith)) ∙ k.anchors.0, ap (says P) (p.away 6 (omega arith)) ∙ k.anchors.1);
      small = k.small;
      calm = k.calm;
      core = core-mild P T X f m rs w.to w.bytes σ τ z.0 p k.core;
      marks = marks-struck P (struck-whole p) z.0.calm k.marks;
      sides = (λ i l. readable-put P T X (first_homes T + i) w x σ τ p (k.sides.0 i l), λ i l. readable-put P T X (second_homes P T + i) w x σ τ p (k.sides.1 i l));
    }

module _ (P T N : ℕ) (X : Images) (f : Third) (m : ℕ) (front back : List Rec) (num : m + length front < 2 ^ 32) (in-front : AllByRecursion (λ q. q.third ≡ f) front) (in-back : AllByRecursion (λ q. q.third ≡ f → ⊥) back) where
  abbrev all : List Rec
  all = front ++ back

  abbrev taken : List Write
  taken = carry f all X (first_homes T) (second_homes P T) P

  pictured-back : (i : ℕ) (a b : Sector) → Pictured (newest all i) a b (X i) → (in_third f (holder all i) ≡ true → (a ≡ holds (X i)) × (b ≡ holds (X i)))
      → (o : Option (List ℕ)) → newest back i ≡ o → Pictured o a b (X i)
  pictured-back i a b p home (Some y) e = subst (λ (o : Option (List ℕ)). Pictured o a b (X i)) (newest-parts front back i ∙ ap (λ o. or_else o (newest front i)) e) p
  pictured-back i a b p home None e = elim (holder-front f front back i in-front e) [
    | inl (x, y) ↦ subst (λ (o : Option (List ℕ)). Pictured o a b (X i)) (newest-parts front back i ∙ ap (λ o. or_else o (newest front i)) e ∙ x) p
    | inr h ↦ (let z = home (ap (in_third f) h ∙ same-third-self f) in (inr z.0, inr z.1))
  ]

  core-back : (σ ρ : Disk) → Core P T X f m all ρ → Through taken σ ρ → Core P T X (next_of f) (m + length front) back ρ
  core-back σ ρ c d = record {
    laid = laid-back T f f (start T f) m front back refl c.laid in-front in-back;
    whole = all-back (Whole P T ρ) front back c.whole;
    named = all-back (Named P ρ) front back c.named;
    pictured = λ i l. pictured-back i (ρ (first_homes T + i)) (ρ (second_homes P T + i)) (c.pictured i l) (both-set P T X (λ j. in_third f (holder all j)) σ ρ d i l) (newest back i) refl;
  }

  abbrev goes : ℕ
  goes = m + length all

  long : goes ≡ m + length front + length back
  long = omega (arith, length-append front back)

  abbrev fresh-anchor : List ℕ
  fresh-anchor = anchor_bytes (next_of f) (m + length front)

  fresh-says : word_of P fresh-anchor ≡ anchor (next_of f) (m + length front)
  fresh-says = says-anchor P (next_of f) (m + length front) num

  fresh-calm : Calm (word_of P fresh-anchor)
  fresh-calm = anchor-calm P (next_of f) (m + length front) num

  -- one anchor is the new one
  mixed : (σ τ : Disk) → Put 4 fresh-anchor σ τ → Up P T N X f m all σ → Core P T X (next_of f) (m + length front) back σ → Strong P T N X goes τ × Marks P τ goes
  mixed σ τ p k c =
      let mild = mild-low P T X 4 fresh-anchor (omega arith) fresh-calm in
      let marked = marks-struck P (struck-whole p) fresh-calm k.marks in (
        record {
          good = k.good;
          headers = (p.away 0 (omega arith) ∙ k.headers.0, p.away 2 (omega arith) ∙ k.headers.1);
          one = (next_of f, m + length front, back, ap (says P) p.here ∙ fresh-says, num, core-mild P T X (next_of f) (m + length front) back 4 fresh-anchor σ τ mild p c, long);
          calm = k.calm;
          two = (f, m, all, ap (says P) (p.away 6 (omega arith)) ∙ k.anchors.1, k.small, core-mild P T X f m all 4 fresh-anchor σ τ mild p k.core, refl);
          marks = record { of-heads = λ u n ns e. omega (arith, marked.of-heads u n ns e); of-ends = λ u n c e. omega (arith, marked.of-ends u n c e) };
          sides = (λ i l e. k.sides.0 i l (sym (p.away (first_homes T + i) (omega arith)) ∙ e), λ i l e. k.sides.1 i l (sym (p.away (second_homes P T + i) (omega arith)) ∙ e));
        },
        marked,
      )

  up-next : (σ ρ τ : Disk) → Put 4 fresh-anchor σ ρ → Put 6 fresh-anchor ρ τ → Up P T N X f m all σ → Core P T X (next_of f) (m + length front) back σ
      → Up P T N X (next_of f) (m + length front) back τ
  up-next σ ρ τ p q k c =
      let marked = marks-struck P (struck-whole q) fresh-calm (marks-struck P (struck-whole p) fresh-calm k.marks) in
      record {
        good = k.good;
        headers = (q.away 0 (omega arith) ∙ p.away 0 (omega arith) ∙ k.headers.0, q.away 2 (omega arith) ∙ p.away 2 (omega arith) ∙ k.headers.1);
        anchors = (ap (says P) (q.away 4 (omega arith) ∙ p.here) ∙ fresh-says, ap (says P) q.here ∙ fresh-says);
        small = num;
        calm = k.calm;
        core = core-mild P T X (next_of f) (m + length front) back 6 fresh-anchor ρ τ (mild-low P T X 6 fresh-anchor (omega arith) fresh-calm) q
            (core-mild P T X (next_of f) (m + length front) back 4 fresh-anchor σ ρ (mild-low P T X 4 fresh-anchor (omega arith) fresh-calm) p c);
        marks = subst (Marks P τ) long marked;
        sides = (λ i l e. k.sides.0 i l (sym (q.away (first_homes T + i) (omega arith) ∙ p.away (first_homes T + i) (omega arith)) ∙ e), λ i l e. k.sides.1 i l (sym (q.away (second_homes P T + i) (omega arith) ∙ p.away (second_homes P T + i) (omega arith)) ∙ e));
      }

  abbrev D : Disk → Type 0
  D = Down P T N X (just goes)

  anchors-from : (σ : Disk) → Up P T N X f m all σ → Core P T X (next_of f) (m + length front) back σ → From σ (both_anchors (next_of f) (m + length front)) D (Up P T N X (next_of f) (m + length front) back)
  anchors-from σ k c =
      let U : Disk → Type 0 = Up P T N X (next_of f) (m + length front) back in
      from-then D U (λ ρ. Put 4 fresh-anchor σ ρ) σ (write 4 fresh-anchor ∷ []) (write 6 fresh-anchor ∷ [])
      (from-one D (λ ρ. Put 4 fresh-anchor σ ρ) σ 4 fresh-anchor
      (λ τ x. elim x [
        | struck-pair t a b w ↦ spoil-leaves P T N t X f m all σ τ k w
        | struck-whole p ↦ (let z = mixed σ τ p k c in strong-worn P T N 0 X goes τ τ z.0 (λ u. inl refl) (marks-none P τ goes z.1))
      ]) (λ τ p. p))
      (λ ρ p. from-one D U ρ 6 fresh-anchor
      (λ τ x. elim x [
        | struck-pair t a b w ↦ (let z = mixed σ ρ p k c in strong-worn P T N t X goes ρ τ z.0 w (no-end-worn P w (marks-none P ρ goes z.1)))
        | struck-whole q ↦ subst (λ (n : ℕ). Down P T N X (just n) τ) (sym long) (spoil-leaves P T N 0 X (next_of f) (m + length front) back τ τ (up-next σ ρ τ p q k c) (λ u. inl refl))
      ])
      (λ τ q. up-next σ ρ τ p q k c))

  pub giving-from : (σ : Disk) → Up P T N X f m all σ → From σ (taken ++ both_anchors (next_of f) (m + length front)) D (Up P T N X (next_of f) (m + length front) back)
  giving-from σ k =
      let U : Disk → Type 0 = Up P T N X f m all in
      let C : Disk → Type 0 = Core P T X (next_of f) (m + length front) back in
      from-then D (Up P T N X (next_of f) (m + length front) back) (λ ρ. U ρ × C ρ) σ taken (both_anchors (next_of f) (m + length front))
      (from-with D (λ ρ. U ρ × C ρ) U σ taken
      (from-strong D U (Homeward P T X) (up-home P T N X f m all) (λ t ρ τ u w. spoil-leaves P T N t X f m all ρ τ u w) σ taken (both-home P T X (λ j. in_third f (holder all j)) P (omega arith)) k)
      (λ ρ d u. (u, core-back σ ρ u.core d)))
      (λ ρ z. anchors-from ρ z.0 z.1)
