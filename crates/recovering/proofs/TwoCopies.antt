-- What the two copies of a header and of an anchor come to.
--     headers-good                     the numbers of a right header are good
--     header_twin, headers-read        the header that counts, by what was read of both copies
--     anchors-same, anchors-differ, anchors-first-none, anchors-none      the same of the anchor
use Rattle.std.proofs.Common.{◌≡◌, ℕ, ◌+◌, ◌*◌, ◌&&◌, eqb, leb, List, [], ◌∷◌, get_or, Some, None, Option, Ok, sym, refl, ap, ◌∙◌, subst, true, arith}
use Rattle.std.proofs.lemmas.Bool.{and_parts}
use Rattle.std.proofs.lemmas.Bool.Decides.{nat_tests, Decides-eqb}
use Rattle.std.proofs.lemmas.Option.{none-some}
use Rattle.disk.specs.WriteLists.{Write}
use Rattle.disk.specs.Sectors.{Sector, unreadable, holds, DiskState, count}
use Rattle.layout.specs.Anchors.{decode_anchor, encode_anchor}
use Rattle.layout.proofs.Numbers.{was-open}
use Rattle.layout.specs.Headers.{decode_header, encode_header, good_numbers, header_of}
use Rattle.layout.specs.declared.anchor.Anchor.{Anchor}
use Rattle.layout.specs.declared.header.Header.{Header}
use Rattle.geometry.specs.Places.{Good}
use Rattle.geometry.specs.declared.third.Third.{Third}
use Rattle.thirds.specs.Words.{anchor, says, on, header_bytes, anchor_bytes, Disk}
use Rattle.thirds.specs.Cuts.{write}
use Rattle.thirds.specs.Volumes.{header_in}
use Rattle.thirds.specs.Recovery.{HeaderWrites, NoAnchor, headers-right, header-wrong, header-again-wrong, anchors-right, anchor-wrong, anchor-again-wrong}
use Rattle.working.specs.Values.{in_sector, ValueRead}
use Rattle.recovering.specs.Copies.{HeaderRead, AnchorRead}
use Rattle.recovering.specs.declared.twins.Twin.{Twin}
use Rattle.recovering.proofs.Words.{anchor-said, said-anchor}

passes-good : (p t n : ℕ) → good_numbers p t n ≡ true → Good p t n
passes-good p t n h =
    let a = and_parts (leb 2 p) _ h in
    let b = and_parts (leb p 21) _ a.1 in
    let c = and_parts (leb (2 * p + 6) t) _ b.1 in
    let d = and_parts (leb t 1000) _ c.1 in
    (grind (arith, nat_tests, a.0), grind (arith, nat_tests, b.0), grind (arith, nat_tests, c.0), grind (arith, nat_tests, d.0), grind (arith, nat_tests, d.1))

numbers-right : (N p t n : ℕ) (h : Header) → header_of N p t n ≡ Some h → (h.sectors ≡ N) × Good h.pages h.third h.sectors
numbers-right N p t n h e =
    let right : (eqb n N && good_numbers p t n ≡ true) × (Some (record { pages = p; third = t; sectors = n }) ≡ Some h) = was-open _ _ h e in
    let tests = and_parts (eqb n N) (good_numbers p t n) right.0 in
    let is : n ≡ N = (Decides-eqb n N).0 tests.0 in
    let value : Some (record { pages = p; third = t; sectors = n }) ≡ Some h = right.1 in
    let pages : p ≡ h.pages = cc in
    let third : t ≡ h.third = cc in
    let sectors : n ≡ h.sectors = cc in
    (sym sectors ∙ is, rw (← pages, ← third, ← sectors) (passes-good p t n tests.1))

bytes-right : (N : ℕ) (bytes : List ℕ) (h : Header) → decode_header N bytes ≡ Some h → (h.sectors ≡ N) × Good h.pages h.third h.sectors
bytes-right N bytes h e = numbers-right N (get_or bytes 5 0) (get_or bytes 6 0 * 256 + get_or bytes 7 0) _ h (was-open _ _ h e).1

written : (s : ℕ) (h : Header) → write s (encode_header h) ∷ [] ≡ write s (header_bytes h.pages h.third h.sectors) ∷ []
unfolding header_bytes
written s h = refl

anchor-written : (s : ℕ) (a : Anchor) → write s (encode_anchor a) ∷ [] ≡ write s (anchor_bytes a.third a.group) ∷ []
unfolding anchor_bytes
anchor-written s a = refl

header-is : (N : ℕ) (x : Sector) → in_sector (decode_header N) x ≡ header_in N x
header-is N unreadable = refl
header-is N (holds bytes) = refl

anchor-in : (P : ℕ) (x : Sector) (a : Anchor) → in_sector decode_anchor x ≡ Some a → says P x ≡ anchor a.third a.group
anchor-in P unreadable a e = cc
anchor-in P (holds bytes) a e = anchor-said P bytes a e

in-anchor : (P : ℕ) (x : Sector) (f : Third) (m : ℕ) → says P x ≡ anchor f m → in_sector decode_anchor x ≡ Some (record { third = f; group = m })
in-anchor P unreadable f m e = cc
in-anchor P (holds bytes) f m e = said-anchor P bytes f m e

no-anchor : (P : ℕ) (x : Sector) → in_sector decode_anchor x ≡ None → NoAnchor P x
no-anchor P x e f m s = let z = in-anchor P x f m s in cc

-- What is read of two sectors, one after the other.
both-read : {X : Type 0} (decoded : List ℕ → Option X) (s t : ℕ) (d m e : DiskState) (a b : Option X) → ValueRead decoded s d (Ok a) m → ValueRead decoded t m (Ok b) e
    → (e ≡ d) × (a ≡ in_sector decoded (on d.sectors s)) × (b ≡ in_sector decoded (on d.sectors t))
both-read decoded s t d m e a b x y = (y.1 ∙ x.1, x.2, y.2 ∙ ap (λ (z : DiskState). in_sector decoded (on z.sectors t)) x.1)

-- A right header is of this disk, and its numbers are good.
header-right : (N : ℕ) (x : Sector) (h : Header) → header_in N x ≡ Some h → (h.sectors ≡ N) × Good h.pages h.third h.sectors
header-right N unreadable h e = absurd (none-some _ e)
header-right N (holds bytes) h e = bytes-right N bytes h e

pub headers-good : (P T N : ℕ) (σ : Disk) (ws : List Write) → HeaderWrites P T N σ ws → Good P T N
headers-good P T N σ ws (headers-right a h b w) = (header-right N (σ 0) _ a).1
headers-good P T N σ ws (header-wrong a b w) = (header-right N (σ 2) _ b).1
headers-good P T N σ ws (header-again-wrong a b w) = (header-right N (σ 0) _ a).1

abbrev pub header_twin : Option Header → Option Header → Option (Twin Header)
header_twin (Some a) (Some b) = Some (record { value = a; bad = None })
header_twin (Some a) None = Some (record { value = a; bad = Some 2 })
header_twin None (Some b) = Some (record { value = b; bad = Some 0 })
header_twin None None = None

pub headers-read : (N : ℕ) (d m e : DiskState) (a b : Option Header) → N ≡ count d → ValueRead (decode_header N) 0 d (Ok a) m → ValueRead (decode_header N) 2 m (Ok b) e → HeaderRead d (Ok (header_twin a b)) e
headers-read N d m e a b n x y =
    let read = both-read (decode_header N) 0 2 d m e a b x y in
    told a b (read.1 ∙ header-is N (on d.sectors 0)) (read.2 ∙ header-is N (on d.sectors 2))
  where
    same : e ≡ d
    same = y.1 ∙ x.1

    at : (i : ℕ) (h : Header) → Some h ≡ header_in N (on d.sectors i) → header_in h.sectors (on d.sectors i) ≡ Some h
    at i h q = subst (λ (n : ℕ). header_in n (on d.sectors i) ≡ Some h) (sym ((header-right N (on d.sectors i) h (sym q)).0)) (sym q)

    told : (a b : Option Header) → a ≡ header_in N (on d.sectors 0) → b ≡ header_in N (on d.sectors 2) → HeaderRead d (Ok (header_twin a b)) e
    told (Some a) (Some b) p q =
        let s = (header-right N (on d.sectors 0) a (sym p)).0 in
        (same, s ∙ n, headers-right (at 0 a p) b (rw s (sym q)) refl)
    told (Some a) None p q =
        let s = (header-right N (on d.sectors 0) a (sym p)).0 in
        (same, s ∙ n, header-again-wrong (at 0 a p) (rw s (sym q)) (written 2 a))
    told None (Some b) p q =
        let s = (header-right N (on d.sectors 2) b (sym q)).0 in
        (same, s ∙ n, header-wrong (rw s (sym p)) (at 2 b q) (written 0 b))
    told None None p q = (same, rw (sym n) (sym p), rw (sym n) (sym q))

module _ (P : ℕ) (d m e : DiskState) (a b : Option Anchor) (x : ValueRead decode_anchor 4 d (Ok a) m) (y : ValueRead decode_anchor 6 m (Ok b) e) where
  two : (e ≡ d) × (a ≡ in_sector decode_anchor (on d.sectors 4)) × (b ≡ in_sector decode_anchor (on d.sectors 6))
  two = both-read decode_anchor 4 6 d m e a b x y

  pub anchors-same : (v : Anchor) → a ≡ Some v → b ≡ a → AnchorRead P d (Ok (Some (record { value = v; bad = None }))) e
  anchors-same v is same = (two.0, anchors-right (anchor-in P (on d.sectors 4) v (sym two.1 ∙ is)) (anchor-in P (on d.sectors 6) v (sym two.2 ∙ same ∙ is)) refl)

  pub anchors-differ : (v : Anchor) → a ≡ Some v → (b ≡ a → ⊥) → AnchorRead P d (Ok (Some (record { value = v; bad = Some 6 }))) e
  anchors-differ v is other =
      (two.0, anchor-again-wrong (anchor-in P (on d.sectors 4) v (sym two.1 ∙ is)) (λ s. other (two.2 ∙ in-anchor P (on d.sectors 6) v.third v.group s ∙ sym is)) (anchor-written 6 v))

  pub anchors-first-none : (v : Anchor) → a ≡ None → b ≡ Some v → AnchorRead P d (Ok (Some (record { value = v; bad = Some 4 }))) e
  anchors-first-none v is there = (two.0, anchor-wrong (no-anchor P (on d.sectors 4) (sym two.1 ∙ is)) (anchor-in P (on d.sectors 6) v (sym two.2 ∙ there)) (anchor-written 4 v))

  pub anchors-none : a ≡ None → b ≡ None → AnchorRead P d (Ok None) e
  anchors-none p q = (two.0, no-anchor P (on d.sectors 4) (sym two.1 ∙ p), no-anchor P (on d.sectors 6) (sym two.2 ∙ q))
