-- From the calls of a disk to the sectors that a volume uses below its data.
--     done-goes          writes that a disk has done are done there
--     stopped-tears      writes of which it refused one are cut there
--     system-is          what a sector inside says there is what it says on the disk
--     system-lost        a sector that is lost on the disk is lost there, if it is seen there at all
--     data-unseen        a write to the data changes nothing there
--     data-cut-unseen    nor does one in which the power fails
use Rattle.std.proofs.Common.{◌≡◌, ℕ, zero, suc, ◌+◌, ◌-◌, ◌<◌, ◌≤◌, ◌≢◌, ◌⊎◌, true, false, Err, List, [], ◌∷◌, length, take, set, sym, refl, ap, ◌∙◌, subst, inl, inr, arith}
use Rattle.std.specs.List.{AllByRecursion}
use Rattle.std.proofs.lemmas.List.{length-take, length-set, take-set-le, set_comm, set-set, get_or-set_other, get_or-take}
use Rattle.std.proofs.lemmas.Bool.{cases_eq, cases_lt, true≢false}
use Rattle.disk.specs.Rules.{Cut, cut-before, cut-new, cut-own, cut-below, cut-above, Writes, WriteOff, write-was-off, write-failed}
use Rattle.disk.specs.Sectors.{Sector, holds, unreadable}
use Rattle.disk.specs.WriteLists.{Write, put, after, nth}
use Rattle.disk.specs.declared.faults.Fault.{Fault}
use Rattle.disk.specs.declared.faults.Fault.TheVariants.{PowerOff, Unreadable, NoSuchSector}
use Rattle.disk.proofs.DoneWrites.{length-after}
use Rattle.geometry.specs.Places.{first_homes, second_homes, data_start}
use Rattle.thirds.proofs.CutRule.{put-set, struck-cut, wear}
use Rattle.thirds.specs.Cuts.{Put, Through, Torn}
use Rattle.thirds.specs.Disks.{unused, hide, system, Inside, Lies, DoneGoes, StoppedTears, SystemIs, SystemLost, DataUnseen, DataCutUnseen}
use Rattle.thirds.specs.Words.{on}

-- `set` past the end of the front leaves it, so this wants no bound.
take-set-any : {A : Type 0} (n : ℕ) (l : List A) (i : ℕ) (x : A) → take n (set l i x) ≡ set (take n l) i x
take-set-any zero l i x = refl
take-set-any (suc n) [] i x = refl
take-set-any (suc n) (y ∷ l) zero x = refl
take-set-any (suc n) (y ∷ l) (suc i) x = ap (λ t. y ∷ t) (take-set-any n l i x)

-- Sectors that are hidden, and one that is written.
set-twice : (l : List Sector) (u v : ℕ) → set (set l u unreadable) v unreadable ≡ set (set l v unreadable) u unreadable
set-twice l u v = elim (cases_eq u v) [
  | inl e ↦ ap (λ n. set (set l u unreadable) n unreadable) (sym e) ∙ ap (λ n. set (set l n unreadable) u unreadable) e
  | inr ne ↦ set_comm l u v unreadable unreadable ne
]

hide-lost : (us : List ℕ) (l : List Sector) (u : ℕ) → hide us (set l u unreadable) ≡ set (hide us l) u unreadable
hide-lost [] l u = refl
hide-lost (v ∷ us) l u = ap (hide us) (set-twice l u v) ∙ hide-lost us (set l v unreadable) u

hide-set : (us : List ℕ) (l : List Sector) (s : ℕ) (x : Sector) → AllByRecursion (λ u. s ≢ u) us → hide us (set l s x) ≡ set (hide us l) s x
hide-set [] l s x a = refl
hide-set (u ∷ us) l s x a = ap (hide us) (set_comm l s u x unreadable a.0) ∙ hide-set us (set l u unreadable) s x a.1

length-hide : (us : List ℕ) (l : List Sector) → length (hide us l) ≡ length l
length-hide [] l = refl
length-hide (u ∷ us) l = length-hide us (set l u unreadable) ∙ length-set l u unreadable

hide-same : (us : List ℕ) (l : List Sector) (s : ℕ) → AllByRecursion (λ u. s ≢ u) us → on (hide us l) s ≡ on l s
hide-same [] l s a = refl
hide-same (u ∷ us) l s a = hide-same us (set l u unreadable) s a.1 ∙ get_or-set_other l u s unreadable unreadable a.0

-- the last of the hidden ones is lost anyway
hide-last : (a b c u : ℕ) (l : List Sector) → hide (a ∷ b ∷ c ∷ u ∷ []) (set l u unreadable) ≡ hide (a ∷ b ∷ c ∷ u ∷ []) l
hide-last a b c u l = hide-lost (a ∷ b ∷ c ∷ u ∷ []) l u ∙ set-set (set (set (set l a unreadable) b unreadable) c unreadable) u unreadable unreadable

module _ (P T : ℕ) where
  abbrev S : ℕ
  S = data_start P T

  abbrev seen : List Sector → List Sector
  seen l = hide (unused P T) (take S l)

  apart : (s : ℕ) → Inside P T s → AllByRecursion (λ u. s ≢ u) (unused P T)
  apart s i = (i.1, (i.2, (i.3, ((λ e. omega (arith, i.0, e)), tt))))

  length-seen : (l : List Sector) → S ≤ length l → length (seen l) ≡ S
  length-seen l h = length-hide (unused P T) (take S l) ∙ (omega (arith, length-take S l))

  seen-set : (l : List Sector) (s : ℕ) (x : Sector) → Inside P T s → seen (set l s x) ≡ set (seen l) s x
  seen-set l s x i = ap (hide (unused P T)) (take-set-any S l s x) ∙ hide-set (unused P T) (take S l) s x (apart s i)

  seen-lost : (l : List Sector) (u : ℕ) → seen (set l u unreadable) ≡ set (seen l) u unreadable
  seen-lost l u = ap (hide (unused P T)) (take-set-any S l u unreadable) ∙ hide-lost (unused P T) (take S l) u

  seen-two : (l : List Sector) (s u : ℕ) → seen (set (set l s unreadable) u unreadable) ≡ set (set (seen l) s unreadable) u unreadable
  seen-two l s u = seen-lost (set l s unreadable) u ∙ ap (λ t. set t u unreadable) (seen-lost l s)

  cut-seen : (s : ℕ) (v : List ℕ) (d e : List Sector) → Inside P T s → Cut s v d e → Cut s v (seen d) (seen e)
  cut-seen s v d e i (cut-before q) = cut-before (ap seen q)
  cut-seen s v d e i (cut-new q) = cut-new (ap seen q ∙ seen-set d s (holds v) i)
  cut-seen s v d e i (cut-own q) = cut-own (ap seen q ∙ seen-lost d s)
  cut-seen s v d e i (cut-below q) = cut-below (ap seen q ∙ seen-two d s (s - 1))
  cut-seen s v d e i (cut-above q) = cut-above (ap seen q ∙ seen-two d s (s + 1))

  longer : (s : ℕ) (l : List Sector) → Inside P T s → s < length l → s < length (seen l)
  longer s l i h = omega (arith, i.0, length-hide (unused P T) (take S l), length-take S l)

  put-on : (s : ℕ) (v : List ℕ) (l : List Sector) → Inside P T s → s < length l → Put s v (on (seen l)) (on (seen (set l s (holds v))))
  put-on s v l i h = subst (λ (x : List Sector). Put s v (on (seen l)) (on x)) (sym (seen-set l s (holds v) i)) (put-set (seen l) s v (longer s l i h))

  -- writes at sectors that exist, and the sectors after them
  goes : (ws : List Write) (l : List Sector) → Lies P T ws → ((k : ℕ) → k < length ws → (nth ws k).to < length l) → Through ws (on (seen l)) (on (seen (after ws l)))
  unfolding after
  goes [] l a h = refl
  goes (w ∷ ws) l a h = (
    on (seen (put w l)),
    put-on w.to w.bytes l a.0 (h 0 (omega arith)),
    goes ws (put w l) a.1 (λ k b. omega (arith, length-set l w.to (holds w.bytes), h (suc k) (omega arith))),
  )

  -- the write in which the power fails comes behind those that are done
  tears : (ws : List Write) (k : ℕ) (l e : List Sector) → Lies P T ws → S ≤ length l → k < length ws → Cut (nth ws k).to (nth ws k).bytes (after (take k ws) l) e
      → Torn ws (on (seen l)) (on (seen e))
  unfolding after
  tears [] k l e a h b c = absurd (omega arith)
  tears (w ∷ ws) zero l e a h b c = inl (struck-cut w.to w.bytes (seen l) (seen e) (longer w.to l a.0 (omega (arith, a.0.0))) (cut-seen w.to w.bytes l e a.0 c))
  tears (w ∷ ws) (suc k) l e a h b c = inr (
    on (seen (put w l)),
    put-on w.to w.bytes l a.0 (omega (arith, a.0.0)),
    tears ws k (put w l) e a.1 (omega (arith, length-set l w.to (holds w.bytes))) (omega arith) c,
  )

  lies-at : (ws : List Write) (k : ℕ) → Lies P T ws → k < length ws → Inside P T (nth ws k).to
  lies-at [] k a h = absurd (omega arith)
  lies-at (w ∷ ws) zero a h = a.0
  lies-at (w ∷ ws) (suc k) a h = lies-at ws k a.1 (omega arith)

  unseen : (s : ℕ) (x : Sector) (l : List Sector) → S ≤ s → seen (set l s x) ≡ seen l
  unseen s x l h = ap (hide (unused P T)) (take-set-le S l s x h)

  -- the last sector below the data is hidden
  last-unseen : (l : List Sector) (u : ℕ) → S ≤ u + 1 → seen (set l u unreadable) ≡ seen l
  last-unseen l u h = elim (cases_lt u S) [
    | inr far ↦ unseen u unreadable l far
    | inl near ↦ (let e : u ≡ second_homes P T + P = omega arith in
        ap (λ n. seen (set l n unreadable)) e
        ∙ ap (hide (unused P T)) (take-set-any S l (second_homes P T + P) unreadable)
        ∙ hide-last 1 3 (first_homes T + P) (second_homes P T + P) (take S l))
  ]

  cut-unseen : (s : ℕ) (v : List ℕ) (d e : List Sector) → S ≤ s → Cut s v d e → seen e ≡ seen d
  cut-unseen s v d e l (cut-before q) = ap seen q
  cut-unseen s v d e l (cut-new q) = ap seen q ∙ unseen s (holds v) d l
  cut-unseen s v d e l (cut-own q) = ap seen q ∙ unseen s unreadable d l
  cut-unseen s v d e l (cut-below q) = ap seen q ∙ last-unseen (set d s unreadable) (s - 1) (omega arith) ∙ unseen s unreadable d l
  cut-unseen s v d e l (cut-above q) = ap seen q ∙ last-unseen (set d s unreadable) (s + 1) (omega arith) ∙ unseen s unreadable d l

pub done-goes : DoneGoes
unfolding system
done-goes P T ws d e a h = subst (λ (l : List Sector). Through ws (on (seen P T d.sectors)) (on (seen P T l))) (sym h.sectors) (goes P T ws d.sectors a h.exist)

pub stopped-tears : StoppedTears
unfolding system
stopped-tears P T ws d x e a h power st = by-fault x st.refused
  where
    was-on : st.mid.power ≡ true
    was-on = st.done.power ∙ power

    by-off : (s : ℕ) (bytes : List ℕ) → WriteOff s bytes st.mid e → (e.power ≡ false) × Cut s bytes st.mid.sectors e.sectors
    by-off s bytes (write-was-off off same) = absurd (true≢false (sym was-on ∙ off))
    by-off s bytes (write-failed on there off cut) = (off, cut)

    by-fault : (y : Fault) → Writes (nth ws st.many).to (nth ws st.many).bytes st.mid (Err y) e → Torn ws (on (seen P T d.sectors)) (on (seen P T e.sectors)) × (e.power ≡ false) × ((s : ℕ) × (y ≡ PowerOff s))
    by-fault (PowerOff p) r =
        let (off, cut) = by-off (nth ws st.many).to (nth ws st.many).bytes r.1 in
        (tears P T ws st.many d.sectors e.sectors a h st.within (subst (λ (l : List Sector). Cut (nth ws st.many).to (nth ws st.many).bytes l e.sectors) st.done.sectors cut), off, (p, refl))
    by-fault (Unreadable p) r = absurd r
    by-fault NoSuchSector r = absurd (omega (arith, r.1, (lies-at P T ws st.many a st.within).0, ap length st.done.sectors, length-after (take st.many ws) d.sectors))

pub system-is : SystemIs
unfolding system
system-is P T s l i = hide-same (unused P T) (take (data_start P T) l) s (apart P T s i) ∙ get_or-take (data_start P T) l s unreadable (omega (arith, i.0))

pub system-lost : SystemLost
unfolding system
system-lost P T s u l = subst (λ (x : List Sector). (on x u ≡ on (seen P T l) u) ⊎ ((on x u ≡ unreadable) × (u ≡ s))) (sym (seen-lost P T l s)) (wear (seen P T l) s u)

pub data-unseen : DataUnseen
unfolding system
data-unseen P T s x l h = ap on (unseen P T s x l h)

pub data-cut-unseen : DataCutUnseen
unfolding system
data-cut-unseen P T s v d e l c = ap on (cut-unseen P T s v d e l c)
