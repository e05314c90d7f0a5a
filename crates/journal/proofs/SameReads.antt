-- What recovery reads of a disk is what it reads of the sectors that the volume uses.
--     inside-low                      headers and anchors lie inside
--     inside-first, inside-second     so do the homes
--     inside-log                      and the log
--     headers-same                    the header that counts is the same
--     no-anchor-same                  no anchor is there
--     anchors-same                    the anchor that counts
--     log-same                        the records that are found
--     image-same, image-back          the image of a page
--     mend-same                       the homes to be mended
use Rattle.std.proofs.Common.{◌≡◌, ℕ, zero, suc, ◌+◌, ◌*◌, ◌<◌, ◌≤◌, ◌⊎◌, List, ◌++◌, Option, sym, refl, ap, ◌∙◌, ap₂, subst, inl, inr, arith}
use Rattle.disk.specs.Sectors.{Sector}
use Rattle.disk.specs.WriteLists.{Write}
use Rattle.geometry.specs.Places.{first_homes, second_homes}
use Rattle.geometry.specs.declared.third.Third.{Third}
use Rattle.thirds.proofs.SearchFinds.{search-rests}
use Rattle.thirds.proofs.Thirds.{inside}
use Rattle.thirds.specs.Disks.{Inside}
use Rattle.thirds.specs.Homes.{ReadImage, lost, mend}
use Rattle.thirds.specs.Records.{Rec, start}
use Rattle.thirds.specs.Recovery.{AnchorWrites, HeaderWrites, NoAnchor, anchor-again-wrong, anchor-wrong, anchors-right, header-again-wrong, header-wrong, headers-right}
use Rattle.thirds.specs.Search.{Log}
use Rattle.thirds.specs.Volumes.{header_in}
use Rattle.thirds.specs.Words.{Disk, Images, says}

pub inside-low : (P T s : ℕ) → (s ≡ 0) ⊎ ((s ≡ 2) ⊎ ((s ≡ 4) ⊎ (s ≡ 6))) → Inside P T s
inside-low P T s (inl e) = (omega arith, (λ q. omega arith), (λ q. omega arith), λ q. omega arith)
inside-low P T s (inr (inl e)) = (omega arith, (λ q. omega arith), (λ q. omega arith), λ q. omega arith)
inside-low P T s (inr (inr (inl e))) = (omega arith, (λ q. omega arith), (λ q. omega arith), λ q. omega arith)
inside-low P T s (inr (inr (inr e))) = (omega arith, (λ q. omega arith), (λ q. omega arith), λ q. omega arith)

pub inside-first : (P T i : ℕ) → i < P → Inside P T (first_homes T + i)
inside-first P T i l = (omega arith, (λ q. omega arith), (λ q. omega arith), λ q. omega arith)

pub inside-second : (P T i : ℕ) → i < P → Inside P T (second_homes P T + i)
inside-second P T i l = (omega arith, (λ q. omega arith), (λ q. omega arith), λ q. omega arith)

pub inside-log : (P T u : ℕ) → 4 ≤ u → u < 8 + 3 * T → Inside P T u
inside-log P T u a b = (omega arith, (λ q. omega arith), (λ q. omega arith), λ q. omega arith)

pub no-anchor-same : (P : ℕ) {x y : Sector} → y ≡ x → NoAnchor P x → NoAnchor P y
no-anchor-same P e n f m a = n f m (ap (says P) (sym e) ∙ a)

read-as : (o : Option (List ℕ)) (x : List ℕ) {a b a' b' : Sector} → a ≡ a' → b ≡ b' → ReadImage o a b x → ReadImage o a' b' x
read-as o x {a} {b} {a'} {b'} p q r = subst (λ (y : Sector). ReadImage o a' y x) q (subst (λ (y : Sector). ReadImage o y b x) p r)

module _ (P T : ℕ) (σ τ : Disk) (same : (s : ℕ) → Inside P T s → τ s ≡ σ s) where
  one-header : τ 0 ≡ σ 0
  one-header = same 0 (inside-low P T 0 (inl refl))

  two-header : τ 2 ≡ σ 2
  two-header = same 2 (inside-low P T 2 (inr (inl refl)))

  one-anchor : τ 4 ≡ σ 4
  one-anchor = same 4 (inside-low P T 4 (inr (inr (inl refl))))

  two-anchor : τ 6 ≡ σ 6
  two-anchor = same 6 (inside-low P T 6 (inr (inr (inr refl))))

  pub headers-same : (N p t : ℕ) (ws : List Write) → HeaderWrites p t N σ ws → HeaderWrites p t N τ ws
  headers-same N p t ws (headers-right a h b w) = headers-right (ap (header_in N) one-header ∙ a) h (ap (header_in N) two-header ∙ b) w
  headers-same N p t ws (header-wrong a b w) = header-wrong (ap (header_in N) one-header ∙ a) (ap (header_in N) two-header ∙ b) w
  headers-same N p t ws (header-again-wrong a b w) = header-again-wrong (ap (header_in N) one-header ∙ a) (ap (header_in N) two-header ∙ b) w

  pub anchors-same : (f : Third) (m : ℕ) (ws : List Write) → AnchorWrites P σ f m ws → AnchorWrites P τ f m ws
  anchors-same f m ws (anchors-right a b w) = anchors-right (ap (says P) one-anchor ∙ a) (ap (says P) two-anchor ∙ b) w
  anchors-same f m ws (anchor-wrong a b w) = anchor-wrong (no-anchor-same P one-anchor a) (ap (says P) two-anchor ∙ b) w
  anchors-same f m ws (anchor-again-wrong a b w) = anchor-again-wrong (ap (says P) one-anchor ∙ a) (λ c. b (ap (says P) (sym two-anchor) ∙ c)) w

  pub log-same : (f : Third) (m s : ℕ) (rs : List Rec) → Log P T σ f f (start T f) m rs s → Log P T τ f f (start T f) m rs s
  log-same f m s rs l = search-rests P T σ τ f f (start T f) m s rs (λ u a b. same u (inside-log P T u (omega arith) (omega arith))) (inside T f).0 l

  pub image-same : (o : Option (List ℕ)) (x : List ℕ) (i : ℕ) → i < P → ReadImage o (σ (first_homes T + i)) (σ (second_homes P T + i)) x → ReadImage o (τ (first_homes T + i)) (τ (second_homes P T + i)) x
  image-same o x i l r = read-as o x (sym (same (first_homes T + i) (inside-first P T i l))) (sym (same (second_homes P T + i) (inside-second P T i l))) r

  pub image-back : (o : Option (List ℕ)) (x : List ℕ) (i : ℕ) → i < P → ReadImage o (τ (first_homes T + i)) (τ (second_homes P T + i)) x → ReadImage o (σ (first_homes T + i)) (σ (second_homes P T + i)) x
  image-back o x i l r = read-as o x (same (first_homes T + i) (inside-first P T i l)) (same (second_homes P T + i) (inside-second P T i l)) r

  mend-as : (X : Images) (base n : ℕ) → ((i : ℕ) → i < n → τ (base + i) ≡ σ (base + i)) → mend σ X base n ≡ mend τ X base n
  mend-as X base zero e = refl
  mend-as X base (suc n) e = ap₂ (λ (ws vs : List Write). ws ++ vs) (mend-as X base n (λ i l. e i (omega arith))) (ap (λ (x : Sector). lost x (base + n) (X n)) (sym (e n (omega arith))))

  pub mend-same : (X : Images) → mend σ X (first_homes T) P ++ mend σ X (second_homes P T) P ≡ mend τ X (first_homes T) P ++ mend τ X (second_homes P T) P
  mend-same X = ap₂ (λ (ws vs : List Write). ws ++ vs)
      (mend-as X (first_homes T) P (λ i l. same (first_homes T + i) (inside-first P T i l)))
      (mend-as X (second_homes P T) P (λ i l. same (second_homes P T + i) (inside-second P T i l)))
