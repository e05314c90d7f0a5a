-- What is written is read back.
--     says-head                     the head of a record says its number and its page numbers
--     says-end                      an end says its number and how many pages
--     says-anchor                   an anchor says its third and its number
--     anchor-calm, header-calm      an anchor and a header are neither a head nor an end
--     header-there                  a header is right on its disk
--     header-read                   a header that is right there is the volume's
--     header-unread                 one that is not cannot be read
--     few                           page numbers that rise below P are at most P
--     unsaid                        what cannot be read says nothing
--     anchor-read                   what says an anchor can be read
use Rattle.std.proofs.Common.{◌≡◌, ℕ, ◌+◌, ◌-◌, ◌^◌, ◌<◌, ◌≤◌, true, List, [], ◌∷◌, ◌++◌, length, replicate, Some, None, sym, refl, ap, ◌∙◌, subst, inl, inr, arith}
use Rattle.std.proofs.lemmas.Bool.Decides.{nat_tests}
use Rattle.std.proofs.lemmas.List.{take_at, length-append, length-replicate}
use Rattle.std.proofs.lemmas.Option.{none-some}
use Rattle.disk.specs.Sectors.{Sector, holds, unreadable}
use Rattle.geometry.specs.Places.{Good}
use Rattle.geometry.specs.declared.third.Third.{Third}
use Rattle.names.proofs.Stored.{zeros-only}
use Rattle.layout.proofs.AnchorRound.{anchor-round}
use Rattle.layout.proofs.EndRound.{end-round}
use Rattle.layout.proofs.HeadRound.{head-round}
use Rattle.layout.proofs.HeaderRound.{header-round}
use Rattle.layout.specs.Anchors.{decode_anchor}
use Rattle.layout.specs.Ends.{decode_end}
use Rattle.layout.specs.Heads.{good_pages}
use Rattle.layout.specs.Padded.{padded}
use Rattle.layout.specs.declared.anchor.Anchor.{Anchor}
use Rattle.layout.specs.declared.end.RecordEnd.{RecordEnd}
use Rattle.layout.specs.declared.head.RecordHead.{RecordHead}
use Rattle.layout.specs.declared.header.Header.{Header}
use Rattle.thirds.specs.Words.{Calm, Rise, Word, anchor, anchor_bytes, as_anchor, as_end, as_head, end, end_bytes, head, head_bytes, header_bytes, nothing, other, says, word_of}
use Rattle.thirds.specs.Volumes.{Headed, header_in}

pub few : (low P : ℕ) (ns : List ℕ) → low ≤ P → Rise low P ns → low + length ns ≤ P
few low P [] l r = omega arith
few low P (n ∷ ns) l r = omega (arith, r.0, few (n + 1) P ns (omega (arith, r.1)) r.2)

good-rise : (low P k : ℕ) (ns : List ℕ) → Rise low P ns → good_pages (length ns) low P (ns ++ replicate k 0) ≡ true
unfolding good_pages
good-rise low P k [] r = zeros-only k
good-rise low P k (n ∷ ns) r = let rest = good-rise (n + 1) P k ns r.2 in let a = r.0 in let b = r.1 in grind (arith, nat_tests)

pub says-head : (P m : ℕ) (ns : List ℕ) → P ≤ 21 → m < 2 ^ 32 → Rise 0 P ns → 0 < length ns → word_of P (head_bytes m ns) ≡ head m ns
unfolding word_of head_bytes padded
says-head P m ns p l r some =
    let short = few 0 P ns (omega arith) r in
    let pages = ns ++ replicate (21 - length ns) 0 in
    let long : length pages ≡ 21 = simp (length-append, length-replicate) (omega arith) in
    let h : RecordHead = record { group = m; count = length ns; pages = pages } in
    let read = head-round P h (l, omega arith, long, good-rise 0 P (21 - length ns) ns r) in
    let bytes = head_bytes m ns in
    ap (λ o. as_head o (as_end (decode_end bytes) (as_anchor (decode_anchor bytes) other))) read ∙ ap (head m) (take_at ns (replicate (21 - length ns) 0) (length ns) refl)

pub says-end : (P m n : ℕ) → m < 2 ^ 32 → n < 256 → word_of P (end_bytes m n) ≡ end m n
unfolding word_of end_bytes padded
says-end P m n l short =
    let e : RecordEnd = record { group = m; count = n } in
    ap (λ o. as_end o (as_anchor (decode_anchor (end_bytes m n)) other)) (end-round e (l, short))

pub says-anchor : (P : ℕ) (f : Third) (m : ℕ) → m < 2 ^ 32 → word_of P (anchor_bytes f m) ≡ anchor f m
unfolding word_of anchor_bytes padded
says-anchor P f m l =
    let a : Anchor = record { third = f; group = m } in
    ap (λ o. as_anchor o other) (anchor-round a l)

pub anchor-calm : (P : ℕ) (f : Third) (m : ℕ) → m < 2 ^ 32 → Calm (word_of P (anchor_bytes f m))
anchor-calm P f m l = subst Calm (sym (says-anchor P f m l)) tt

pub header-calm : (P T N : ℕ) → Calm (word_of P (header_bytes P T N))
unfolding word_of header_bytes padded
header-calm P T N = tt

pub header-there : (P T N : ℕ) → Good P T N → N < 2 ^ 32 → header_in N (holds (header_bytes P T N)) ≡ Some (record { pages = P; third = T; sectors = N })
unfolding header_bytes
header-there P T N good l = header-round N (record { pages = P; third = T; sectors = N }) (good, refl, l)

pub header-read : (P T N : ℕ) (x : Sector) {h : Header} → Headed P T N x → header_in N x ≡ Some h → x ≡ holds (header_bytes P T N)
header-read P T N x (inl e) a = let b : None ≡ Some _ = sym (ap (header_in N) e) ∙ a in absurd (none-some _ b)
header-read P T N x (inr e) a = e

pub header-unread : (P T N : ℕ) (x : Sector) → Good P T N × (N < 2 ^ 32) → Headed P T N x → header_in N x ≡ None → x ≡ unreadable
header-unread P T N x good (inl e) a = e
header-unread P T N x good (inr e) a = absurd (none-some _ (sym a ∙ ap (header_in N) e ∙ header-there P T N good.0 good.1))

pub unsaid : (P : ℕ) {x : Sector} {v : Word} → x ≡ unreadable → says P x ≡ v → nothing ≡ v
unsaid P e h = sym (ap (says P) e) ∙ h

pub anchor-read : (P : ℕ) {x : Sector} {f : Third} {m : ℕ} → says P x ≡ anchor f m → x ≡ unreadable → ⊥
anchor-read P a b = let c = unsaid P b a in let z : ◌≡◌ {A = ℕ} 0 1 = cc in omega arith
