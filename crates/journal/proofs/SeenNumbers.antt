-- The header and the anchor that recovery takes of a volume that is down.
--     numbers-seen     the header that counts has the volume's numbers
--     number-small     the number of the anchor that counts has four bytes
use Rattle.std.proofs.Common.{◌≡◌, ℕ, ◌^◌, ◌<◌, List, Some, ap, ◌∙◌, inl, inr, arith}
use Rattle.disk.specs.Sectors.{Sector}
use Rattle.disk.specs.WriteLists.{Write}
use Rattle.geometry.specs.Places.{Good}
use Rattle.geometry.specs.declared.third.Third.{Third}
use Rattle.layout.specs.declared.header.Header.{Header}
use Rattle.thirds.proofs.Words.{header-read, header-there, unsaid}
use Rattle.thirds.specs.Recovery.{AnchorWrites, HeaderWrites, anchor-again-wrong, anchor-wrong, anchors-right, header-again-wrong, header-wrong, headers-right}
use Rattle.thirds.specs.Volumes.{Anchored, Down, Headed, Span, header_in}
use Rattle.thirds.specs.Words.{Disk, Images, anchor, says}

abbrev made : ℕ → ℕ → ℕ → Header
made P T N = record { pages = P; third = T; sectors = N }

numbers-of : (P T N p t : ℕ) (x : Sector) → Good P T N × (N < 2 ^ 32) → Headed P T N x → header_in N x ≡ Some (made p t N) → (p ≡ P) × (t ≡ T)
numbers-of P T N p t x good h e =
    let there : header_in N x ≡ Some (made P T N) = ap (header_in N) (header-read P T N x h e) ∙ header-there P T N good.0 good.1 in
    let is : made p t N ≡ made P T N = cc in
    (ap (λ (y : Header). y.pages) is, ap (λ (y : Header). y.third) is)

pub numbers-seen : (P T N p t : ℕ) (X : Images) (h : Span) (σ : Disk) (ws : List Write) → Down P T N X h σ → HeaderWrites p t N σ ws → (p ≡ P) × (t ≡ T)
numbers-seen P T N p t X h σ ws d (headers-right a g b w) = numbers-of P T N p t (σ 0) d.good d.headers.one a
numbers-seen P T N p t X h σ ws d (header-wrong a b w) = numbers-of P T N p t (σ 2) d.good d.headers.two b
numbers-seen P T N p t X h σ ws d (header-again-wrong a b w) = numbers-of P T N p t (σ 0) d.good d.headers.one a

small-of : (P T : ℕ) (X : Images) (h : Span) (σ : Disk) (x : Sector) (f : Third) (m : ℕ) → Anchored P T X h σ x → says P x ≡ anchor f m → m < 2 ^ 32
small-of P T X h σ x f m (inl z) e = let b = unsaid P z e in let q : ◌≡◌ {A = ℕ} 0 1 = cc in absurd (omega arith)
small-of P T X h σ x f m (inr (g, n, a, l, z)) e = let q : n ≡ m = cc in omega (arith, l)

pub number-small : (P T N : ℕ) (X : Images) (h : Span) (σ : Disk) (f : Third) (m : ℕ) (ws : List Write) → Down P T N X h σ → AnchorWrites P σ f m ws → m < 2 ^ 32
number-small P T N X h σ f m ws d (anchors-right a b w) = small-of P T X h σ (σ 4) f m d.anchors.one a
number-small P T N X h σ f m ws d (anchor-wrong a b w) = small-of P T X h σ (σ 6) f m d.anchors.two b
number-small P T N X h σ f m ws d (anchor-again-wrong a b w) = small-of P T X h σ (σ 4) f m d.anchors.one a
