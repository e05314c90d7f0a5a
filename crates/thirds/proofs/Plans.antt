-- Recovery always has a plan.
--     plan-stands      what recovery reads off a down volume, and what it writes
--     never-lacks      no header, no anchor and no image is missing
use Rattle.std.proofs.Common.{◌≡◌, ℕ, ◌^◌, ◌+◌, ◌<◌, ◌⊎◌, List, [], ◌∷◌, ◌++◌, Some, None, Option, sym, refl, ap, ◌∙◌, inl, inr}
use Rattle.std.proofs.lemmas.Bool.{cases_eq}
use Rattle.disk.specs.Sectors.{Sector, unreadable}
use Rattle.disk.specs.WriteLists.{Write}
use Rattle.geometry.specs.Places.{Good, first_homes, second_homes}
use Rattle.geometry.specs.declared.third.Third.{Third}
use Rattle.geometry.specs.declared.third.Third.TheVariants.{Zero}
use Rattle.thirds.specs.Words.{Disk, Images, anchor, anchor_bytes, header_bytes}
use Rattle.thirds.specs.Cuts.{write}
use Rattle.thirds.specs.Homes.{Pictured, ReadImage, mend, newest, redo}
use Rattle.thirds.specs.Volumes.{Anchored, Headed, Sound, Span, header_in}
use Rattle.thirds.specs.Recovery.{AnchorWrites, HeaderWrites, NeverLacks, PlanStands, anchor-again-wrong, anchor-wrong, anchors-right, both_anchors, header-again-wrong, header-wrong, headers-right}
use Rattle.thirds.proofs.Words.{anchor-read, header-there, header-unread}
use Rattle.thirds.proofs.Thirds.{third-cases}

neither : {A B : Type 0} → A → B → (A → ⊥) ⊎ (B → ⊥) → ⊥
neither a b (inl f) = f a
neither a b (inr g) = g b

header-plan : (P T N : ℕ) (σ : Disk) → Good P T N × (N < 2 ^ 32) → Headed P T N (σ 0) → Headed P T N (σ 2) → (σ 0 ≡ unreadable → ⊥) ⊎ (σ 2 ≡ unreadable → ⊥) → (ws : List Write) × HeaderWrites P T N σ ws
header-plan P T N σ good (inl a) (inl b) e = absurd (neither a b e)
header-plan P T N σ good (inl a) (inr b) e = (write 0 (header_bytes P T N) ∷ [], header-wrong (ap (header_in N) a) (ap (header_in N) b ∙ header-there P T N good.0 good.1) refl)
header-plan P T N σ good (inr a) (inl b) e = (write 2 (header_bytes P T N) ∷ [], header-again-wrong (ap (header_in N) a ∙ header-there P T N good.0 good.1) (ap (header_in N) b) refl)
header-plan P T N σ good (inr a) (inr b) e = ([], headers-right (ap (header_in N) a ∙ header-there P T N good.0 good.1) _ (ap (header_in N) b ∙ header-there P T N good.0 good.1) refl)

module _ (P T : ℕ) (X : Images) (h : Span) (σ : Disk) where
  abbrev Chosen : Type 0
  Chosen = (f : Third) × (m : ℕ) × (ws : List Write) × AnchorWrites P σ f m ws × (m < 2 ^ 32) × Sound P T X h σ f m

  anchor-plan : Anchored P T X h σ (σ 4) → Anchored P T X h σ (σ 6) → (σ 4 ≡ unreadable → ⊥) ⊎ (σ 6 ≡ unreadable → ⊥) → Chosen
  anchor-plan (inl a) (inl b) e = absurd (neither a b e)
  anchor-plan (inl a) (inr (f, m, b, num, z)) e = (f, m, write 4 (anchor_bytes f m) ∷ [], anchor-wrong (λ g n e. anchor-read P e a) b refl, num, z)
  anchor-plan (inr (f, m, a, num, z)) (inl b) e = (f, m, write 6 (anchor_bytes f m) ∷ [], anchor-again-wrong a (λ e. anchor-read P e b) refl, num, z)
  anchor-plan (inr (f, m, a, num, z)) (inr (g, n, b, num', y)) e = elim (third-cases g f) [
    | inr no-third ↦ (f, m, write 6 (anchor_bytes f m) ∷ [], anchor-again-wrong a (λ c. no-third (let q : g ≡ f = cc in q)) refl, num, z)
    | inl u ↦ elim (cases_eq n m) [
      | inr ne ↦ (f, m, write 6 (anchor_bytes f m) ∷ [], anchor-again-wrong a (λ c. ne (let q : n ≡ m = cc in q)) refl, num, z)
      | inl v ↦ (f, m, [], anchors-right a (b ∙ (let q : anchor g n ≡ anchor f m = cc in q)) refl, num, z)
    ]
  ]

image-there : (o : Option (List ℕ)) (a b : Sector) (x : List ℕ) → Pictured o a b x → (a ≡ unreadable → ⊥) ⊎ (b ≡ unreadable → ⊥) → ReadImage o a b x
image-there (Some y) a b x p e = sym p
image-there None a b x (inr p, q) e = inl p
image-there None a b x (inl p, inr q) e = inr (p, q)
image-there None a b x (inl p, inl q) e = absurd (neither p q e)

pub plan-stands : PlanStands
plan-stands P T N W h σ d =
    let (hs, hw) = header-plan P T N σ d.good d.headers.one d.headers.two d.headers.either in
    let (f, m, as', aw, num, (rs, s, z)) = anchor-plan P T W h σ d.anchors.one d.anchors.two d.anchors.either in (
      s,
      z.within,
      λ lasts. (
        hs ++ (as' ++ ((mend σ W (first_homes T) P ++ mend σ W (second_homes P T) P) ++ (redo rs W (first_homes T) (second_homes P T) P ++ both_anchors Zero (s + 1)))),
        record {
          numbers-last = lasts;
          first = f;
          number = m;
          anchor-small = num;
          log = rs;
          header-part = hs;
          anchor-part = as';
          headers = hw;
          anchors = aw;
          found = z.found;
          images = λ i l. image-there (newest rs i) (σ (first_homes T + i)) (σ (second_homes P T + i)) (W i) (z.pictured i l) (elim d.sides [ inl a ↦ inl (a i l) | inr b ↦ inr (b i l) ]);
          writes = refl;
        },
      ),
    )

pub never-lacks : NeverLacks
never-lacks P T N W h σ d = record {
  some-header = λ a b. elim d.headers.either [
    | inl x ↦ x (header-unread P T N (σ 0) d.good d.headers.one a)
    | inr x ↦ x (header-unread P T N (σ 2) d.good d.headers.two b)
  ];
  some-anchor = λ a b. elim d.anchors.either [
    | inl x ↦ elim d.anchors.one [ inl e ↦ x e | inr e ↦ a e.0 e.1 e.2 ]
    | inr x ↦ elim d.anchors.two [ inl e ↦ x e | inr e ↦ b e.0 e.1 e.2 ]
  ];
  some-image = λ f m s ws rs aw lg i l none a b. elim d.sides [ inl x ↦ x i l a | inr x ↦ x i l b ];
}
