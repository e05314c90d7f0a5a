-- What a list of writes leaves in a sector.
--     Among                             writes go to a sector
--     among-front, among-back           in one part of a list or in the other
--     after-parts                       a list in two parts is carried out part by part
--     Gives                             what a write has for a sector, if it goes there
--     Leaves                            a list leaves these bytes in a sector of every disk that has it
--     leaves-given                      so it does if it writes there, and nothing else
--     leaves-behind                     so does a list that ends in such a one
--     Quiet                             what a write has is neither a head nor an end
--     calm-written                      nor is then any sector that a list of such ones writes
--     all-run, all-zeros                what is so of each write of a run
--     among-run, among-zeros            a run goes to each of its sectors
use Rattle.std.proofs.Common.{◌≡◌, ℕ, zero, suc, ◌+◌, ◌<◌, ◌⊎◌, List, [], ◌∷◌, ◌++◌, length, get_or, replicate, sym, refl, ap, ◌∙◌, subst, inl, inr, add-zero, arith}
use Rattle.std.specs.List.{AllByRecursion}
use Rattle.std.proofs.lemmas.Bool.{cases_eq}
use Rattle.std.proofs.lemmas.Grind.{get_or-set_at}
use Rattle.std.proofs.lemmas.List.{get_or-replicate, get_or-set_other, length-replicate, length-set}
use Rattle.disk.proofs.DoneWrites.{length-after}
use Rattle.disk.specs.Sectors.{Sector, holds, unreadable}
use Rattle.disk.specs.WriteLists.{Write, after, put, run_of}
use Rattle.journal.specs.Formats.{zero_run, zeros}
use Rattle.thirds.specs.Cuts.{write}
use Rattle.thirds.specs.Words.{Calm, on, says, word_of}

abbrev pub Among : ℕ → List Write → Type 0
Among u [] = ⊥
Among u (w ∷ ws) = (u ≡ w.to) ⊎ Among u ws

pub among-front : (u : ℕ) (ws vs : List Write) → Among u ws → Among u (ws ++ vs)
among-front u [] vs a = absurd a
among-front u (w ∷ ws) vs (inl e) = inl e
among-front u (w ∷ ws) vs (inr a) = inr (among-front u ws vs a)

pub among-back : (u : ℕ) (ws vs : List Write) → Among u vs → Among u (ws ++ vs)
among-back u [] vs a = a
among-back u (w ∷ ws) vs a = inr (among-back u ws vs a)

after-parts : (ws vs : List Write) (l : List Sector) → after (ws ++ vs) l ≡ after vs (after ws l)
unfolding after
after-parts [] vs l = refl
after-parts (w ∷ ws) vs l = after-parts ws vs (put w l)

put-at : (w : Write) (l : List Sector) (u : ℕ) → u < length l → u ≡ w.to → on (put w l) u ≡ holds w.bytes
put-at w l u h e = get_or-set_at l w.to u (holds w.bytes) unreadable e (omega arith)

put-other : (w : Write) (l : List Sector) (u : ℕ) → (u ≡ w.to → ⊥) → on (put w l) u ≡ on l u
put-other w l u n = get_or-set_other l w.to u (holds w.bytes) unreadable n

longer : (w : Write) (l : List Sector) (u : ℕ) → u < length l → u < length (put w l)
longer w l u h = omega (arith, length-set l w.to (holds w.bytes))

abbrev pub Gives : ℕ → List ℕ → Write → Type 0
Gives u x w = u ≡ w.to → w.bytes ≡ x

abbrev pub Leaves : ℕ → List ℕ → List Write → Type 0
Leaves u x ws = (l : List Sector) → u < length l → on (after ws l) u ≡ holds x

kept : (u : ℕ) (x : List ℕ) (ws : List Write) → AllByRecursion (Gives u x) ws → (l : List Sector) → u < length l → on l u ≡ holds x → on (after ws l) u ≡ holds x
unfolding after
kept u x [] a l h e = e
kept u x (w ∷ ws) a l h e = kept u x ws a.1 (put w l) (longer w l u h) (elim (cases_eq u w.to) [ inl q ↦ put-at w l u h q ∙ ap holds (a.0 q) | inr q ↦ put-other w l u q ∙ e ])

pub leaves-given : (u : ℕ) (x : List ℕ) (ws : List Write) → AllByRecursion (Gives u x) ws → Among u ws → Leaves u x ws
unfolding after
leaves-given u x [] a m l h = absurd m
leaves-given u x (w ∷ ws) a (inl q) l h = kept u x ws a.1 (put w l) (longer w l u h) (put-at w l u h q ∙ ap holds (a.0 q))
leaves-given u x (w ∷ ws) a (inr m) l h = leaves-given u x ws a.1 m (put w l) (longer w l u h)

pub leaves-behind : (u : ℕ) (x : List ℕ) (ws vs : List Write) → Leaves u x vs → Leaves u x (ws ++ vs)
leaves-behind u x ws vs k l h = ap (λ (m : List Sector). on m u) (after-parts ws vs l) ∙ k (after ws l) (omega (arith, length-after ws l))

abbrev pub Quiet : ℕ → Write → Type 0
Quiet P w = Calm (word_of P w.bytes)

calm-as : (P : ℕ) {x y : Sector} → y ≡ x → Calm (says P x) → Calm (says P y)
calm-as P e c = subst (λ (z : Sector). Calm (says P z)) (sym e) c

calm-kept : (P : ℕ) (ws : List Write) → AllByRecursion (Quiet P) ws → (l : List Sector) (u : ℕ) → u < length l → Calm (says P (on l u)) → Calm (says P (on (after ws l) u))
unfolding after
calm-kept P [] a l u h c = c
calm-kept P (w ∷ ws) a l u h c = calm-kept P ws a.1 (put w l) u (longer w l u h) (elim (cases_eq u w.to) [ inl q ↦ calm-as P (put-at w l u h q) a.0 | inr q ↦ calm-as P (put-other w l u q) c ])

pub calm-written : (P : ℕ) (ws : List Write) → AllByRecursion (Quiet P) ws → (l : List Sector) (u : ℕ) → u < length l → Among u ws → Calm (says P (on (after ws l) u))
unfolding after
calm-written P [] a l u h m = absurd m
calm-written P (w ∷ ws) a l u h (inl q) = calm-kept P ws a.1 (put w l) u (longer w l u h) (calm-as P (put-at w l u h q) a.0)
calm-written P (w ∷ ws) a l u h (inr m) = calm-written P ws a.1 (put w l) u (longer w l u h) m

pub all-run : (Q : Write → Type 0) (first : ℕ) (blocks : List (List ℕ)) → ((i : ℕ) → i < length blocks → Q (write (first + i) (get_or blocks i []))) → AllByRecursion Q (run_of first blocks)
unfolding run_of
all-run Q first [] q = tt
all-run Q first (b ∷ bs) q = (
  subst (λ (n : ℕ). Q (write n b)) (add-zero first) (q 0 (omega arith)),
  all-run Q (first + 1) bs (λ i l. subst (λ (n : ℕ). Q (write n (get_or bs i []))) (next i) (q (suc i) (omega arith))),
)
  where
    next : (i : ℕ) → first + suc i ≡ first + 1 + i
    next i = omega arith

pub all-zeros : (Q : Write → Type 0) (first n : ℕ) → ((i : ℕ) → i < n → Q (write (first + i) zeros)) → AllByRecursion Q (zero_run first n)
all-zeros Q first n q =
    all-run Q first (replicate n zeros)
    (λ i l. let within : i < n = omega (arith, length-replicate n zeros) in subst (λ (x : List ℕ). Q (write (first + i) x)) (sym (get_or-replicate n i zeros [] within)) (q i within))

pub among-run : (first : ℕ) (blocks : List (List ℕ)) (i : ℕ) → i < length blocks → Among (first + i) (run_of first blocks)
unfolding run_of
among-run first [] i l = absurd (omega arith)
among-run first (b ∷ bs) zero l = inl (add-zero first)
among-run first (b ∷ bs) (suc i) l = inr (subst (λ (n : ℕ). Among n (run_of (first + 1) bs)) next (among-run (first + 1) bs i (omega arith)))
  where
    next : first + 1 + i ≡ first + suc i
    next = omega arith

pub among-zeros : (first n i : ℕ) → i < n → Among (first + i) (zero_run first n)
among-zeros first n i l = among-run first (replicate n zeros) i (omega (arith, length-replicate n zeros))
