-- What a record's writes, cut or done, leave of an up volume.
--     Room             a record and its place behind the live ones
--     record-from      cut, the images are as before or as after; done, the volume is up with those after
use Rattle.std.proofs.Common.{◌≡◌, ℕ, ◌^◌, ◌+◌, ◌<◌, ◌≤◌, ◌⊎◌, List, [], ◌∷◌, ◌++◌, length, sym, refl, ap, ◌∙◌, subst, inl, inr, arith}
use Rattle.std.specs.List.{AllByRecursion}
use Rattle.std.proofs.ByRecursion.{All-weaker, All-push}
use Rattle.std.proofs.lemmas.Bool.{cases_eq}
use Rattle.std.proofs.lemmas.List.{length_push}
use Rattle.disk.specs.Sectors.{holds}
use Rattle.disk.specs.WriteLists.{Write}
use Rattle.geometry.specs.Places.{Good, first_homes, second_homes}
use Rattle.geometry.specs.declared.third.Third.{Third}
use Rattle.thirds.specs.Words.{Calm, Disk, Images, anchor, end, head, header_bytes, says, word_of}
use Rattle.thirds.specs.Cuts.{From, Put, Worn}
use Rattle.thirds.specs.Records.{Fits, NoEnd, Proper, Rec, Stands, Whole, layout, numbers, start}
use Rattle.thirds.specs.Search.{Named, Placed}
use Rattle.thirds.specs.Homes.{Side, newest}
use Rattle.thirds.specs.Volumes.{Core, Down, Marks, Shows, Sound, Up, just}
use Rattle.thirds.specs.Forces.{Changes, final_place, final_third, from_to_next}
use Rattle.thirds.proofs.WriteLists.{Keeps, through-keeps}
use Rattle.thirds.proofs.Thirds.{inside}
use Rattle.thirds.proofs.RecordStands.{half-stands, spoil-stands, written-stands}
use Rattle.thirds.proofs.SearchFinds.{search-finds}
use Rattle.thirds.proofs.Places.{Apart, all-zip, laid-numbers, laid-push}
use Rattle.thirds.proofs.OwnWrites.{Kind, Own, is-calm, is-end, is-head, own-layout, whole-put}
use Rattle.thirds.proofs.Worn.{Strong, down-worn, marks-none, marks-worn, named-worn, pictured-worn, strong-worn, torn-worn}
use Rattle.thirds.proofs.SameVolume.{wider-down}
use Rattle.thirds.proofs.Newest.{calm-in, pictured-push, pictured-same}

-- A record and its place behind the live ones.
pub record Room (P T : ℕ) (f : Third) (m : ℕ) (rs : List Rec) (r : Rec) : Type 0 where
  pub fits : Fits T r
  pub proper : Proper P r
  pub number : r.number ≡ m + length rs
  pub within : start T r.third ≤ r.place
  pub apart : AllByRecursion (Apart r) rs
  pub placed : Placed T f (final_third f rs) (final_place (start T f) rs) (m + length rs) r

module _ (P T N : ℕ) (X : Images) (f : Third) (m : ℕ) (rs : List Rec) (r : Rec) where
  -- as up, but for the record under way
  record Writing (δ : Disk) : Type 0 where
    good : Good P T N × (N < 2 ^ 32)
    headers : (δ 0 ≡ holds (header_bytes P T N)) × (δ 2 ≡ holds (header_bytes P T N))
    anchors : (says P (δ 4) ≡ anchor f m) × (says P (δ 6) ≡ anchor f m)
    small : m < 2 ^ 32
    calm : (i : ℕ) → i < P → Calm (word_of P (X i))
    core : Core P T X f m rs δ
    own : Named P δ r
    marks : Marks P δ (m + length rs + 1)
    sides : Side P (first_homes T) δ × Side P (second_homes P T) δ

  named-put : (w : Write) → Own P r w → Proper P r → (q : Rec) → (q.number ≡ r.number → numbers q.pages ≡ numbers r.pages) → (σ τ : Disk) → Put w.to w.bytes σ τ → Named P σ q → Named P τ q
  named-put w o ok q same σ τ p k u ks e = elim (cases_eq u w.to) [
    | inr ne ↦ k u ks (ap (says P) (sym (p.away u ne)) ∙ e)
    | inl at ↦ by-kind (o.kind ok) (ap (says P) (sym p.here ∙ ap τ (sym at)) ∙ e)
  ]
    where
      by-kind : {x : List ℕ} → Kind P r.number (numbers r.pages) x → word_of P x ≡ head q.number ks → ks ≡ numbers q.pages
      by-kind (is-head a) b = let z : q.number ≡ r.number = cc in let y = same z in cc
      by-kind (is-end c a) b = cc
      by-kind (is-calm a) b = absurd (subst Calm b a)

  marks-put : (w : Write) → Own P r w → Proper P r → r.number ≡ m + length rs → (σ τ : Disk) → Put w.to w.bytes σ τ → Marks P σ (m + length rs + 1) → Marks P τ (m + length rs + 1)
  marks-put w o ok i σ τ p k = record {
    of-heads = λ u n ns e. elim (cases_eq u w.to) [
      | inr ne ↦ k.of-heads u n ns (ap (says P) (sym (p.away u ne)) ∙ e)
      | inl at ↦ in-head (o.kind ok) (ap (says P) (sym p.here ∙ ap τ (sym at)) ∙ e)
    ];
    of-ends = λ u n c e. elim (cases_eq u w.to) [
      | inr ne ↦ k.of-ends u n c (ap (says P) (sym (p.away u ne)) ∙ e)
      | inl at ↦ in-end (o.kind ok) (ap (says P) (sym p.here ∙ ap τ (sym at)) ∙ e)
    ];
  }
    where
      in-head : {x : List ℕ} {n : ℕ} {ns : List ℕ} → Kind P r.number (numbers r.pages) x → word_of P x ≡ head n ns → n < m + length rs + 1
      in-head {x} {n} {ns} (is-head a) b = let z : n ≡ r.number = cc in omega arith
      in-head {x} {n} {ns} (is-end c a) b = let z : ◌≡◌ {A = ℕ} 0 1 = cc in absurd (omega arith)
      in-head {x} {n} {ns} (is-calm a) b = absurd (subst Calm b a)

      in-end : {x : List ℕ} {n d : ℕ} → Kind P r.number (numbers r.pages) x → word_of P x ≡ end n d → n < m + length rs + 1
      in-end {x} {n} {d} (is-head a) b = let z : ◌≡◌ {A = ℕ} 0 1 = cc in absurd (omega arith)
      in-end {x} {n} {d} (is-end c a) b = let z : n ≡ r.number = cc in omega arith
      in-end {x} {n} {d} (is-calm a) b = absurd (subst Calm b a)

  writing-put : Room P T f m rs r → (w : Write) → Own P r w → Keeps Writing w
  writing-put room w o σ τ p k =
      let low = inside T r.third in
      let top : w.to < 8 + T + T + T = omega (arith, o.high, room.fits.1, low.1) in
      let bottom : 8 ≤ w.to = omega (arith, o.low, room.within, low.0) in
      record {
        good = k.good;
        headers = (p.away 0 (omega arith) ∙ k.headers.0, p.away 2 (omega arith) ∙ k.headers.1);
        anchors = (ap (says P) (p.away 4 (omega arith)) ∙ k.anchors.0, ap (says P) (p.away 6 (omega arith)) ∙ k.anchors.1);
        small = k.small;
        calm = k.calm;
        core = record {
          laid = k.core.laid;
          whole = all-zip (Apart r) (Whole P T σ) (Whole P T τ) (λ q a h. whole-put P T w.to w.bytes σ τ q p (elim a [ inl x ↦ inr (omega (arith, o.low)) | inr x ↦ inl (omega (arith, o.high)) ]) h) rs room.apart k.core.whole;
          named = all-zip (λ q. q.number < m + length rs) (Named P σ) (Named P τ) (λ q a h. named-put w o room.proper q (λ e. absurd (omega (arith, room.number))) σ τ p h) rs (laid-numbers T f f (start T f) m rs k.core.laid) k.core.named;
          pictured = λ i l. pictured-same (newest rs i) (X i) (p.away (first_homes T + i) (omega arith)) (p.away (second_homes P T + i) (omega arith)) (k.core.pictured i l);
        };
        own = named-put w o room.proper r (λ e. refl) σ τ p k.own;
        marks = marks-put w o room.proper room.number σ τ p k.marks;
        sides = (λ i l e. k.sides.0 i l (sym (p.away (first_homes T + i) (omega arith)) ∙ e), λ i l e. k.sides.1 i l (sym (p.away (second_homes P T + i) (omega arith)) ∙ e));
      }

  writing-start : r.number ≡ m + length rs → (σ : Disk) → Up P T N X f m rs σ → Writing σ
  writing-start i σ k = record {
    good = k.good;
    headers = k.headers;
    anchors = k.anchors;
    small = k.small;
    calm = k.calm;
    core = k.core;
    own = λ u ks e. absurd (omega (arith, k.marks.of-heads u r.number ks e));
    marks = record { of-heads = λ u n ns e. omega (arith, k.marks.of-heads u n ns e); of-ends = λ u n c e. omega (arith, k.marks.of-ends u n c e) };
    sides = k.sides;
  }

  writing-strong : (σ : Disk) → Writing σ → Strong P T N X (m + length rs) σ
  writing-strong σ k = record {
    good = k.good;
    headers = k.headers;
    one = (f, m, rs, k.anchors.0, k.small, k.core, refl);
    two = (f, m, rs, k.anchors.1, k.small, k.core, refl);
    calm = k.calm;
    marks = k.marks;
    sides = k.sides;
  }

  -- the record stands: the new images
  shows-new : (Y : Images) → Changes P X r.pages Y → Room P T f m rs r → (t : ℕ) (σ τ : Disk) → Writing σ → Worn t σ τ → Stands P T τ r → Shows P T Y (from_to_next (m + length rs)) τ f m (rs ++ r ∷ []) (m + length rs + 1)
  shows-new Y ch room t σ τ k w st =
      let here = marks-worn P t σ τ w (m + length rs + 1) k.marks in
      record {
        found = search-finds P T τ f f (start T f) m (m + length rs + 1) (rs ++ r ∷ []) (laid-push T f f (start T f) m rs r k.core.laid room.placed)
            (All-push (Stands P T τ) rs r (All-weaker (Whole P T σ) (Stands P T τ) (λ q x. spoil-stands P T t σ τ q x w) rs k.core.whole) st)
            (All-push (Named P τ) rs r (All-weaker (Named P σ) (Named P τ) (named-worn P t σ τ w) rs k.core.named) (named-worn P t σ τ w r k.own))
            (omega (arith, length_push rs r)) (marks-none P τ (m + length rs + 1) here);
        pictured = λ i l. pictured-push rs r i (τ (first_homes T + i)) (τ (second_homes P T + i)) (X i) (Y i) (ch i l) (pictured-worn t σ τ w (newest rs i) (first_homes T + i) (second_homes P T + i) (X i) (k.core.pictured i l));
        marks = record { of-heads = λ u n ns e. omega (arith, here.of-heads u n ns e); of-ends = λ u n c e. omega (arith, here.of-ends u n c e) };
        within = (omega arith, omega arith);
      }

  calm-changed : (Y : Images) → Changes P X r.pages Y → Proper P r → ((i : ℕ) → i < P → Calm (word_of P (X i))) → (i : ℕ) → i < P → Calm (word_of P (Y i))
  calm-changed Y ch ok c i l = subst (λ (x : List ℕ). Calm (word_of P x)) (sym (ch i l)) (calm-in P r.pages i (X i) ok.calm (c i l))

  pub record-from : (Y : Images) → Changes P X r.pages Y → Room P T f m rs r → (σ : Disk) → Up P T N X f m rs σ
      → From σ (layout r) (λ τ. Down P T N X (from_to_next (m + length rs)) τ ⊎ Down P T N Y (from_to_next (m + length rs)) τ) (Up P T N Y f m (rs ++ r ∷ []))
  record-from Y ch room σ up =
      let keeps = All-weaker (Own P r) (Keeps Writing) (writing-put room) (layout r) (own-layout P r room.fits.0) in
      let none : NoEnd P σ r.number = subst (NoEnd P σ) (sym room.number) (marks-none P σ (m + length rs) up.marks) in
      let n = m + length rs in
      record {
        cut = λ τ t.
            (let (ρ, u, k, w) = torn-worn Writing (layout r) keeps σ τ t (writing-start room.number σ up) in
            elim (half-stands P T σ τ r room.fits room.proper none t) [
              | inr e ↦ inl (wider-down P T N X (just n) (from_to_next n) τ (omega arith, omega arith) (strong-worn P T N u X n ρ τ (writing-strong ρ k) w (subst (NoEnd P τ) room.number e)))
              | inl st ↦ (let z : Sound P T Y (from_to_next n) τ f m = (rs ++ r ∷ [], n + 1, shows-new Y ch room u ρ τ k w st) in
                  inr (down-worn P T N u Y (from_to_next n) ρ τ w k.good k.headers.0 k.headers.1 (calm-changed Y ch room.proper k.calm) f m f m k.anchors.0 k.anchors.1 k.small k.small z z k.sides.0 k.sides.1))
            ]);
        done = λ τ d.
            (let k = through-keeps Writing (layout r) keeps σ τ d (writing-start room.number σ up) in
            record {
              good = k.good;
              headers = k.headers;
              anchors = k.anchors;
              small = k.small;
              calm = calm-changed Y ch room.proper k.calm;
              sides = k.sides;
              marks = record { of-heads = λ u n ns e. omega (arith, length_push rs r, k.marks.of-heads u n ns e); of-ends = λ u n c e. omega (arith, length_push rs r, k.marks.of-ends u n c e) };
              core = record {
                laid = laid-push T f f (start T f) m rs r k.core.laid room.placed;
                whole = All-push (Whole P T τ) rs r k.core.whole (written-stands P T σ τ r room.fits room.proper d);
                named = All-push (Named P τ) rs r k.core.named k.own;
                pictured = λ i l. pictured-push rs r i (τ (first_homes T + i)) (τ (second_homes P T + i)) (X i) (Y i) (ch i l) (k.core.pictured i l);
              };
            });
      }
