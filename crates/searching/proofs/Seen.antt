-- What the decoders read of a sector, and what it says.
--     head-said       a head that was read: what the sector says
--     no-head-said    no head with this number was read: the sector says none
--     end-said        an end that was read: what the sector says
--     end-decoded     a sector that says that it is an end is read as that
--     head-fits       a head that was read fits
--     head-number     the number of a head has four bytes
--     head-seen       what the head of a number, looked for in a sector, tells
--     end-seen        what an end that is looked for in a sector tells
--     ends-first      the first of two ends is right
--     ends-second     it is not, and the second one was looked for
--     ends-lost       it is not, and the second one was not read
use Rattle.std.proofs.Common.{◌≡◌, ℕ, ◌^◌, ◌<◌, ◌≤◌, Bool, true, false, cond, ◌&&◌, eqb, List, length, Some, None, Option, Ok, sym, refl, ap, ap₂, subst, ◌∙◌, inl, inr, arith}
use Rattle.std.proofs.lemmas.Bool.{cases_eq, cases_lt}
use Rattle.std.proofs.lemmas.Bool.Decides.{nat_tests}
use Rattle.std.proofs.lemmas.List.{get_or_past}
use Rattle.std.proofs.lemmas.Option.{none-some, same_Some}
use Rattle.std.proofs.lemmas.Map.Entries.{option_filter}
use Rattle.disk.specs.Sectors.{Sector, Sound, DiskState, At, unreadable, holds}
use Rattle.disk.specs.declared.faults.Fault.{Fault}
use Rattle.layout.specs.Padded.{tag_is}
use Rattle.layout.specs.Anchors.{decode_anchor}
use Rattle.layout.specs.Ends.{decode_end}
use Rattle.layout.specs.Heads.{HeadFits, decode_head}
use Rattle.layout.specs.declared.anchor.Anchor.{Anchor}
use Rattle.layout.specs.declared.end.RecordEnd.{RecordEnd}
use Rattle.layout.specs.declared.head.RecordHead.{RecordHead}
use Rattle.layout.proofs.HeadRound.{head-exact}
use Rattle.layout.proofs.Numbers.{was-open, tag-letters}
use Rattle.searching.specs.Looks.{listed, ReadBetween, HeadSeen, EndSeen, EndsSeen}
use Rattle.thirds.specs.Words.{Word, head, end, other, word_of, says, as_head, as_end, as_anchor, on}
use Rattle.working.specs.Values.{in_sector, ReadLost, ValueRead}

-- what bytes say of a head
as-head-is : (P : ℕ) (o : Option RecordHead) (w : Word) (m : ℕ) (ks : List ℕ) → ((h : RecordHead) → o ≡ Some h → h.group ≡ m → ⊥) → (w ≡ head m ks → ⊥) → as_head o w ≡ head m ks → ⊥
as-head-is P None w m ks f g e = g e
as-head-is P (Some h) w m ks f g e = let z : h.group ≡ m = cc in f h refl z

as-end-head : (o : Option RecordEnd) (a : Option Anchor) (m : ℕ) (ks : List ℕ) → as_end o (as_anchor a other) ≡ head m ks → ⊥
as-end-head None None m ks e = let z : ◌≡◌ {A = ℕ} 0 1 = cc in omega arith
as-end-head None (Some a) m ks e = let z : ◌≡◌ {A = ℕ} 0 1 = cc in omega arith
as-end-head (Some x) a m ks e = let z : ◌≡◌ {A = ℕ} 0 1 = cc in omega arith

pub head-said : (P : ℕ) (x : Sector) (h : RecordHead) → Some h ≡ in_sector (decode_head P) x → says P x ≡ head h.group (listed h)
unfolding word_of
head-said P unreadable h e = cc
head-said P (holds b) h e = ap (λ o. as_head o (as_end (decode_end b) (as_anchor (decode_anchor b) other))) (sym e)

pub no-head-said : (P m : ℕ) (x : Sector) (ks : List ℕ) (o : Option RecordHead) → o ≡ in_sector (decode_head P) x → ((h : RecordHead) → o ≡ Some h → h.group ≡ m → ⊥) → says P x ≡ head m ks → ⊥
unfolding word_of
no-head-said P m unreadable ks o q f e = let z : ◌≡◌ {A = ℕ} 0 1 = cc in omega arith
no-head-said P m (holds b) ks o q f e =
    as-head-is P (decode_head P b) (as_end (decode_end b) (as_anchor (decode_anchor b) other)) m ks (λ h z. f h (q ∙ z)) (as-end-head (decode_end b) (decode_anchor b) m ks) e

front-open : {X : Type 0} (a b : Bool) (x : Option X) (y : X) → cond (a && b) x None ≡ Some y → a ≡ true
front-open true b x y e = refl
front-open false b x y e = absurd (none-some y e)

-- No bytes are both a head and an end.
no-both : (P : ℕ) (b : List ℕ) (h : RecordHead) (n : RecordEnd) → decode_head P b ≡ Some h → decode_end b ≡ Some n → ⊥
no-both P b h n x y =
    let a = tag-letters 70 83 68 72 b (was-open (tag_is 70 83 68 72 b) _ h x).0 in
    let e = tag-letters 70 83 68 69 b (front-open (tag_is 70 83 68 69 b) _ _ n y) in
    omega (arith, a.3, e.3)

no-head-there : (P : ℕ) (b : List ℕ) (n : RecordEnd) → decode_end b ≡ Some n → (o : Option RecordHead) → decode_head P b ≡ o → o ≡ None
no-head-there P b n y None e = refl
no-head-there P b n y (Some h) e = absurd (no-both P b h n e y)

pub end-said : (P : ℕ) (x : Sector) (n : RecordEnd) → in_sector decode_end x ≡ Some n → says P x ≡ end n.group n.count
unfolding word_of
end-said P unreadable n e = absurd (none-some n e)
end-said P (holds b) n e =
    ap (λ o. as_head o (as_end (decode_end b) (as_anchor (decode_anchor b) other))) (no-head-there P b n e (decode_head P b) refl)
    ∙ ap (λ o. as_end o (as_anchor (decode_anchor b) other)) e

as-head-end : (o : Option RecordHead) (w : Word) (m n : ℕ) → as_head o w ≡ end m n → w ≡ end m n
as-head-end None w m n e = e
as-head-end (Some h) w m n e = let z : ◌≡◌ {A = ℕ} 0 1 = cc in absurd (omega arith)

made : ℕ → ℕ → RecordEnd
made m n = record { group = m; count = n }

as-end-end : (o : Option RecordEnd) (a : Option Anchor) (m n : ℕ) → as_end o (as_anchor a other) ≡ end m n → o ≡ Some (record { group = m; count = n })
unfolding made
as-end-end None None m n e = let z : ◌≡◌ {A = ℕ} 0 1 = cc in absurd (omega arith)
as-end-end None (Some a) m n e = let z : ◌≡◌ {A = ℕ} 0 1 = cc in absurd (omega arith)
as-end-end (Some x) a m n e =
    let p : x.group ≡ m = cc in
    let q : x.count ≡ n = cc in
    ap Some (ap₂ made p q)

pub end-decoded : (P : ℕ) (x : Sector) (m n : ℕ) → says P x ≡ end m n → in_sector decode_end x ≡ Some (record { group = m; count = n })
unfolding word_of
end-decoded P unreadable m n e = let z : ◌≡◌ {A = ℕ} 0 1 = cc in absurd (omega arith)
end-decoded P (holds b) m n e =
    as-end-end (decode_end b) (decode_anchor b) m n (as-head-end (decode_head P b) (as_end (decode_end b) (as_anchor (decode_anchor b) other)) m n e)

-- A sector that can be read is on the disk.
at-there : (d : DiskState) (s : ℕ) (b : List ℕ) → on d.sectors s ≡ holds b → At d s (holds b)
at-there d s b e = record {
  exists = elim (cases_lt s (length d.sectors)) [
    | inl l ↦ l
    | inr l ↦ (let x = sym (get_or_past d.sectors s unreadable l) ∙ e in let z : ◌≡◌ {A = ℕ} 0 1 = cc in absurd (omega arith))
  ];
  is = e;
}

pub head-fits : (P s : ℕ) (d : DiskState) (h : RecordHead) → Sound d → Some h ≡ in_sector (decode_head P) (on d.sectors s) → HeadFits P h
head-fits P s d h sound e = go (on d.sectors s) refl e
  where
    go : (x : Sector) → on d.sectors s ≡ x → Some h ≡ in_sector (decode_head P) x → HeadFits P h
    go unreadable q e = absurd (none-some h (sym e))
    go (holds b) q e = let k = sound.whole s b (at-there d s b q) in (head-exact P b h k.long k.small (sym e)).0

-- the number of a head has four bytes
as-head-told : (o : Option RecordHead) (n : Option RecordEnd) (a : Option Anchor) (m : ℕ) (ks : List ℕ) → as_head o (as_end n (as_anchor a other)) ≡ head m ks → (h : RecordHead) × (o ≡ Some h) × (h.group ≡ m)
as-head-told None n a m ks e = absurd (as-end-head n a m ks e)
as-head-told (Some h) n a m ks e = (h, refl, cc)

pub head-number : (P s m : ℕ) (ks : List ℕ) (d : DiskState) → Sound d → says P (on d.sectors s) ≡ head m ks → m < 2 ^ 32
unfolding word_of
head-number P s m ks d sound e = go (on d.sectors s) refl e
  where
    go : (x : Sector) → on d.sectors s ≡ x → says P x ≡ head m ks → m < 2 ^ 32
    go unreadable q e = let z : ◌≡◌ {A = ℕ} 0 1 = cc in absurd (omega arith)
    go (holds b) q e =
        let (h, is, same) = as-head-told (decode_head P b) (decode_end b) (decode_anchor b) m ks e in
        let fits = head-fits P s d h sound (sym is ∙ ap (in_sector (decode_head P)) (sym q)) in
        omega (arith, fits.0, same)

-- A head that is looked for, by its number.
abbrev numbered : ℕ → RecordHead → Bool
numbered m h = eqb h.group m

right-kept : (m : ℕ) (h : RecordHead) → h.group ≡ m → option_filter (numbered m) (Some h) ≡ Some h
right-kept m h q = grind (arith, nat_tests)

wrong-dropped : (m : ℕ) (h : RecordHead) → (h.group ≡ m → ⊥) → option_filter (numbered m) (Some h) ≡ None
wrong-dropped m h q = grind (arith, nat_tests)

pub head-seen : (P s m : ℕ) (d e : DiskState) (o r : Option RecordHead) → Sound d → r ≡ option_filter (λ (h : RecordHead). eqb h.group m) o → ValueRead (decode_head P) s d (Ok o) e → HeadSeen P s m d (Ok r) e
head-seen P s m d e None r sound f v = subst (λ (q : Option RecordHead). HeadSeen P s m d (Ok q) e) (sym f) (v.0, v.1, λ ks. no-head-said P m (on d.sectors s) ks None v.2 (λ h z. absurd (none-some h z)))
head-seen P s m d e (Some h) r sound f v = elim (cases_eq h.group m) [
  | inl q ↦ subst (λ (q : Option RecordHead). HeadSeen P s m d (Ok q) e) (sym (f ∙ right-kept m h q))
      (v.0, v.1, subst (λ (n : ℕ). says P (on d.sectors s) ≡ head n (listed h)) q (head-said P (on d.sectors s) h v.2), (q, head-fits P s d h sound v.2))
  | inr q ↦ subst (λ (q : Option RecordHead). HeadSeen P s m d (Ok q) e) (sym (f ∙ wrong-dropped m h q))
      (v.0, v.1, λ ks. no-head-said P m (on d.sectors s) ks (Some h) v.2 (λ k z y. q (ap (λ (x : RecordHead). x.group) (same_Some h k z) ∙ y)))
]

-- An end that is looked for.
pub end-seen : (s : ℕ) (n : RecordEnd) (d e : DiskState) (o : Option RecordEnd) (b : Bool) → (b ≡ true → o ≡ Some n) → (b ≡ false → o ≡ Some n → ⊥) → ValueRead decode_end s d (Ok o) e → (P : ℕ) → EndSeen P s n.group n.count d (Ok b) e
end-seen s n d e o true f g v P = (v.0, v.1, end-said P (on d.sectors s) n (sym v.2 ∙ f refl))
end-seen s n d e o false f g v P = (v.0, v.1, λ x. g refl (v.2 ∙ end-decoded P (on d.sectors s) n.group n.count x))

pub ends-first : (P a b m n : ℕ) (d e : DiskState) (r : Bool) → r ≡ true → EndSeen P a m n d (Ok r) e → EndsSeen P a b m n d (Ok r) e
ends-first P a b m n d e true t v = (v.0, v.1, inl v.2)
ends-first P a b m n d e false t v = let z : ◌≡◌ {A = ℕ} 0 1 = cc in absurd (omega arith)

pub ends-second : (P a b m n : ℕ) (d k e : DiskState) (q r : Bool) → q ≡ false → EndSeen P a m n d (Ok q) k → EndSeen P b m n k (Ok r) e → EndsSeen P a b m n d (Ok r) e
ends-second P a b m n d k e true r t v w = let z : ◌≡◌ {A = ℕ} 0 1 = cc in absurd (omega arith)
ends-second P a b m n d k e false true t v w = (v.0, w.1 ∙ v.1, inr (subst (λ (z : DiskState). says P (on z.sectors b) ≡ end m n) v.1 w.2))
ends-second P a b m n d k e false false t v w = (v.0, w.1 ∙ v.1, v.2, subst (λ (z : DiskState). says P (on z.sectors b) ≡ end m n → ⊥) v.1 w.2)

pub ends-lost : (P a b m n : ℕ) (d k e : DiskState) (q : Bool) (x : Fault) → a ≤ b → EndSeen P a m n d (Ok q) k → ReadLost b k x e → ReadBetween a b d x e
ends-lost P a b m n d k e true x l v w = (b, l, omega arith, subst (λ (z : DiskState). ReadLost b z x e) v.1 w)
ends-lost P a b m n d k e false x l v w = (b, l, omega arith, subst (λ (z : DiskState). ReadLost b z x e) v.1 w)
