-- What recovery reads are the settled images.
--     chosen             the anchor that recovery takes is sound
--     reads-settled      so the images are the settled ones, and the missing number is within the span
use Rattle.std.proofs.Common.{◌≡◌, ℕ, ◌+◌, List, Some, None, Option, sym, ◌∙◌, subst, inl, inr, arith}
use Rattle.disk.specs.Sectors.{Sector}
use Rattle.disk.specs.WriteLists.{Write}
use Rattle.geometry.specs.Places.{first_homes, second_homes}
use Rattle.geometry.specs.declared.third.Third.{Third}
use Rattle.thirds.specs.Words.{Disk, Images, anchor, says}
use Rattle.thirds.specs.Records.{Rec, start}
use Rattle.thirds.specs.Homes.{Pictured, ReadImage, newest}
use Rattle.thirds.specs.Volumes.{Anchored, Down, Sound, Span}
use Rattle.thirds.specs.Recovery.{AnchorWrites, ReadsSettled, anchor-again-wrong, anchor-wrong, anchors-right}
use Rattle.thirds.proofs.Words.{unsaid}
use Rattle.thirds.proofs.SearchFinds.{search-is-one}

anchor-third : {f g : Third} {m n : ℕ} → anchor f m ≡ anchor g n → f ≡ g
anchor-third e = cc

anchor-number : {f g : Third} {m n : ℕ} → anchor f m ≡ anchor g n → m ≡ n
anchor-number e = cc

sound-there : (P T : ℕ) (X : Images) (h : Span) (σ : Disk) (y : Sector) (f : Third) (m : ℕ) → says P y ≡ anchor f m → Anchored P T X h σ y → Sound P T X h σ f m
sound-there P T X h σ y f m e (inl z) = let b = unsaid P z e in let q : ◌≡◌ {A = ℕ} 0 1 = cc in absurd (omega arith)
sound-there P T X h σ y f m e (inr (g, n, a, q, z)) =
    subst (λ (k : Third). Sound P T X h σ k m) (anchor-third (sym a ∙ e)) (subst (λ (k : ℕ). Sound P T X h σ g k) (anchor-number (sym a ∙ e)) z)

pub chosen : (P T N : ℕ) (X : Images) (h : Span) (σ : Disk) (f : Third) (m : ℕ) (ws : List Write) → Down P T N X h σ → AnchorWrites P σ f m ws → Sound P T X h σ f m
chosen P T N X h σ f m ws d (anchors-right a b w) = sound-there P T X h σ (σ 4) f m a d.anchors.one
chosen P T N X h σ f m ws d (anchor-wrong a b w) = sound-there P T X h σ (σ 6) f m b d.anchors.two
chosen P T N X h σ f m ws d (anchor-again-wrong a b w) = sound-there P T X h σ (σ 4) f m a d.anchors.one

read-right : (o : Option (List ℕ)) (a b : Sector) (x w : List ℕ) → ReadImage o a b x → Pictured o a b w → x ≡ w
read-right (Some y) a b x w r p = r ∙ p
read-right None a b x w (inl r) (inl p, q) = cc
read-right None a b x w (inl r) (inr p, q) = cc
read-right None a b x w (inr (r, z)) (p, inl q) = cc
read-right None a b x w (inr (r, z)) (p, inr q) = cc

pub reads-settled : ReadsSettled
reads-settled P T N W X h s σ ws d p =
    let z = chosen P T N W h σ p.first p.number p.anchor-part d p.anchors in
    let only = search-is-one P T σ p.first p.first (start T p.first) p.number s z.1 p.log z.0 p.found z.2.found in (
      λ i l. read-right (newest p.log i) (σ (first_homes T + i)) (σ (second_homes P T + i)) (X i) (W i) (p.images i l)
          (subst (λ (rs : List Rec). Pictured (newest rs i) (σ (first_homes T + i)) (σ (second_homes P T + i)) (W i)) (sym only.0) (z.2.pictured i l)),
      (omega (arith, only.1, z.2.within), omega (arith, only.1, z.2.within)),
    )
