-- What does not count: images of no page, and how much wider the span is.
--     homes-only      images that differ in no page are the images of the same volumes
--     wider-down      what is so with a span is so with a wider one
use Rattle.std.proofs.Common.{◌≡◌, ℕ, ◌+◌, ◌<◌, List, Option, sym, subst, inl, inr, arith}
use Rattle.disk.specs.Sectors.{Sector}
use Rattle.geometry.specs.Places.{first_homes, second_homes}
use Rattle.geometry.specs.declared.third.Third.{Third}
use Rattle.thirds.specs.Words.{Calm, Disk, Images, word_of}
use Rattle.thirds.specs.Records.{Rec}
use Rattle.thirds.specs.Homes.{Pictured, newest}
use Rattle.thirds.specs.Volumes.{Anchored, Down, HomesOnly, Sound, Span, Up, Wider, WiderDown}

module _ (P T N : ℕ) (W X : Images) (same : (i : ℕ) → i < P → X i ≡ W i) where
  pictured-images : (o : Option (List ℕ)) (a b : Sector) (i : ℕ) → i < P → Pictured o a b (W i) → Pictured o a b (X i)
  pictured-images o a b i l p = subst (λ (x : List ℕ). Pictured o a b x) (sym (same i l)) p

  calm-images : ((i : ℕ) → i < P → Calm (word_of P (W i))) → (i : ℕ) → i < P → Calm (word_of P (X i))
  calm-images c i l = subst (λ (x : List ℕ). Calm (word_of P x)) (sym (same i l)) (c i l)

  sound-images : (h : Span) (σ : Disk) (f : Third) (m : ℕ) → Sound P T W h σ f m → Sound P T X h σ f m
  sound-images h σ f m (rs, n, z) = (
    rs,
    n,
    record {
      found = z.found;
      marks = z.marks;
      within = z.within;
      pictured = λ i l. pictured-images (newest rs i) (σ (first_homes T + i)) (σ (second_homes P T + i)) i l (z.pictured i l);
    },
  )

  anchored-images : (h : Span) (σ : Disk) (y : Sector) → Anchored P T W h σ y → Anchored P T X h σ y
  anchored-images h σ y (inl e) = inl e
  anchored-images h σ y (inr (f, m, e, q, z)) = inr (f, m, e, q, sound-images h σ f m z)

  down-images : (h : Span) (σ : Disk) → Down P T N W h σ → Down P T N X h σ
  down-images h σ d = record {
    good = d.good;
    headers = d.headers;
    anchors = record { one = anchored-images h σ (σ 4) d.anchors.one; two = anchored-images h σ (σ 6) d.anchors.two; either = d.anchors.either };
    sides = d.sides;
    calm = calm-images d.calm;
  }

  up-images : (f : Third) (m : ℕ) (rs : List Rec) (σ : Disk) → Up P T N W f m rs σ → Up P T N X f m rs σ
  up-images f m rs σ k = record {
    good = k.good;
    headers = k.headers;
    anchors = k.anchors;
    small = k.small;
    core = record {
      laid = k.core.laid;
      whole = k.core.whole;
      named = k.core.named;
      pictured = λ i l. pictured-images (newest rs i) (σ (first_homes T + i)) (σ (second_homes P T + i)) i l (k.core.pictured i l);
    };
    marks = k.marks;
    sides = k.sides;
    calm = calm-images k.calm;
  }

pub homes-only : HomesOnly
homes-only P T N W X σ same = (λ h d. down-images P T N W X same h σ d, λ f m rs k. up-images P T N W X same f m rs σ k)

sound-wider : (P T : ℕ) (X : Images) (h g : Span) (σ : Disk) (f : Third) (m : ℕ) → Wider h g → Sound P T X h σ f m → Sound P T X g σ f m
sound-wider P T X h g σ f m w (rs, n, z) =
    (rs, n, record { found = z.found; pictured = z.pictured; marks = z.marks; within = (omega (arith, w.0, z.within), omega (arith, w.1, z.within)) })

anchored-wider : (P T : ℕ) (X : Images) (h g : Span) (σ : Disk) (y : Sector) → Wider h g → Anchored P T X h σ y → Anchored P T X g σ y
anchored-wider P T X h g σ y w (inl e) = inl e
anchored-wider P T X h g σ y w (inr (f, m, e, q, z)) = inr (f, m, e, q, sound-wider P T X h g σ f m w z)

pub wider-down : WiderDown
wider-down P T N X h g σ w d = record {
  good = d.good;
  headers = d.headers;
  anchors = record { one = anchored-wider P T X h g σ (σ 4) w d.anchors.one; two = anchored-wider P T X h g σ (σ 6) w d.anchors.two; either = d.anchors.either };
  sides = d.sides;
  calm = d.calm;
}
