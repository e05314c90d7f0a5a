-- The writes of recovery and of forces lie inside, and leave the data.
--     low-below            writes two sectors below the data are below it
--     data-rests           such writes change nothing from the data's start on
--     data-outlives        nor do they if the power fails in one
--     plan-lies       so are recovery's writes
--     forces-lie      and those of a force
use Rattle.std.proofs.Common.{◌≡◌, ℕ, ◌+◌, ◌<◌, ◌≤◌, zero, suc, ◌≢◌, ◌⊎◌, Err, List, [], ◌∷◌, ◌++◌, get_or, take, ap, length, sym, refl, ◌∙◌, subst, inl, inr, arith}
use Rattle.std.specs.List.{AllByRecursion}
use Rattle.std.proofs.ByRecursion.{All-weaker, All-append}
use Rattle.std.proofs.lemmas.List.{get_or-set_other}
use Rattle.disk.proofs.Cuts.{cut-far}
use Rattle.disk.specs.Rules.{Writes, write-was-off, write-failed}
use Rattle.disk.specs.Sectors.{DiskState, Sector, holds, unreadable}
use Rattle.disk.specs.WriteLists.{put, after, nth, Write}
use Rattle.disk.specs.declared.faults.Fault.{Fault}
use Rattle.disk.specs.declared.faults.Fault.TheVariants.{PowerOff, Unreadable, NoSuchSector}
use Rattle.geometry.specs.Places.{data_start, first_homes, second_homes}
use Rattle.geometry.specs.Thirds.{next_of}
use Rattle.geometry.specs.declared.third.Third.{Third}
use Rattle.geometry.specs.declared.third.Third.TheVariants.{Zero}
use Rattle.thirds.specs.Words.{Disk, Images, on}
use Rattle.thirds.specs.Records.{start, Fits, Rec, layout}
use Rattle.thirds.specs.Search.{Laid}
use Rattle.thirds.specs.Homes.{has, holder, in_third, mend, newest}
use Rattle.thirds.specs.Recovery.{AnchorWrites, HeaderWrites, Plan, anchor-again-wrong, anchor-wrong, anchors-right, both_anchors, header-again-wrong, header-wrong, headers-right}
use Rattle.thirds.specs.Forces.{Forces, force-on, force-round}
use Rattle.thirds.specs.Disks.{Inside, Lies, DataOutlives, DataRests, PlanLies, ForcesLie}
use Rattle.thirds.proofs.Places.{placed-there}
use Rattle.thirds.proofs.Thirds.{inside}
use Rattle.thirds.proofs.OwnWrites.{Own, own-layout}
use Rattle.thirds.proofs.HomeWrites.{Homeward, To, both-home, mend-to}

-- writes that lie inside leave what is above
above : (P T : ℕ) (ws : List Write) (l : List Sector) → Lies P T ws → (u : ℕ) → data_start P T ≤ u → get_or (after ws l) u unreadable ≡ get_or l u unreadable
unfolding after
above P T [] l a u h = refl
above P T (w ∷ ws) l a u h = let ne : u ≢ w.to = omega (arith, a.0.0) in above P T ws (put w l) a.1 u h ∙ get_or-set_other l w.to u (holds w.bytes) unreadable ne

pub data-rests : DataRests
data-rests P T ws d e a h u l = ap (λ (x : List Sector). get_or x u unreadable) h.sectors ∙ above P T ws d.sectors a u l

lies-take : (P T k : ℕ) (ws : List Write) → Lies P T ws → Lies P T (take k ws)
lies-take P T zero ws a = tt
lies-take P T (suc k) [] a = tt
lies-take P T (suc k) (w ∷ ws) a = (a.0, lies-take P T k ws a.1)

low-at : (P T : ℕ) (ws : List Write) (k : ℕ) → Lies P T ws → k < length ws → (nth ws k).to + 1 < data_start P T
low-at P T [] k a h = absurd (omega arith)
low-at P T (w ∷ ws) zero a h = a.0.0
low-at P T (w ∷ ws) (suc k) a h = low-at P T ws k a.1 (omega arith)

pub data-outlives : DataOutlives
data-outlives P T ws d x e a st u l = by-fault x st.refused ∙ data-rests P T (take st.many ws) d st.mid (lies-take P T st.many ws a) st.done u l
  where
    same : e ≡ st.mid → get_or e.sectors u unreadable ≡ get_or st.mid.sectors u unreadable
    same q = ap (λ (y : DiskState). get_or y.sectors u unreadable) q

    by-fault : (y : Fault) → Writes (nth ws st.many).to (nth ws st.many).bytes st.mid (Err y) e → get_or e.sectors u unreadable ≡ get_or st.mid.sectors u unreadable
    by-fault (PowerOff p) (at, write-was-off off q) = same q
    by-fault (PowerOff p) (at, write-failed on there off cut) =
        let low = low-at P T ws st.many a st.within in cut-far (nth ws st.many).to (nth ws st.many).bytes st.mid.sectors e.sectors u unreadable (inr (omega (arith, low))) cut
    by-fault (Unreadable p) r = absurd r
    by-fault NoSuchSector r = same r.2

module _ (P T : ℕ) (X : Images) where
  inside-low : (s : ℕ) → (s ≡ 0) ⊎ ((s ≡ 2) ⊎ ((s ≡ 4) ⊎ (s ≡ 6))) → Inside P T s
  inside-low s h = elim h [
    | inl e ↦ (omega arith, (λ q. omega (arith, e, q)), (λ q. omega (arith, e, q)), λ q. omega (arith, e, q))
    | inr (inl e) ↦ (omega arith, (λ q. omega (arith, e, q)), (λ q. omega (arith, e, q)), λ q. omega (arith, e, q))
    | inr (inr (inl e)) ↦ (omega arith, (λ q. omega (arith, e, q)), (λ q. omega (arith, e, q)), λ q. omega (arith, e, q))
    | inr (inr (inr e)) ↦ (omega arith, (λ q. omega (arith, e, q)), (λ q. omega (arith, e, q)), λ q. omega (arith, e, q))
  ]

  to-first : (w : Write) → To P T X (first_homes T) w → Inside P T w.to
  to-first w (i, l, e, b) = (omega arith, (λ q. omega (arith, e, q)), (λ q. omega (arith, e, q)), λ q. omega (arith, e, q))

  to-second : (w : Write) → To P T X (second_homes P T) w → Inside P T w.to
  to-second w (i, l, e, b) = (omega arith, (λ q. omega (arith, e, q)), (λ q. omega (arith, e, q)), λ q. omega (arith, e, q))

  homeward-lies : (ws : List Write) → AllByRecursion (Homeward P T X) ws → Lies P T ws
  homeward-lies ws a = All-weaker (Homeward P T X) (λ w. Inside P T w.to) (λ w h. elim h [ inl x ↦ to-first w x | inr x ↦ to-second w x ]) ws a

  header-lies : (N : ℕ) (σ : Disk) (ws : List Write) → HeaderWrites P T N σ ws → Lies P T ws
  header-lies N σ ws (headers-right a g b w) = subst (Lies P T) (sym w) tt
  header-lies N σ ws (header-wrong a b w) = subst (Lies P T) (sym w) (inside-low 0 (inl refl), tt)
  header-lies N σ ws (header-again-wrong a b w) = subst (Lies P T) (sym w) (inside-low 2 (inr (inl refl)), tt)

  anchor-lies : (σ : Disk) (f : Third) (m : ℕ) (ws : List Write) → AnchorWrites P σ f m ws → Lies P T ws
  anchor-lies σ f m ws (anchors-right a b w) = subst (Lies P T) (sym w) tt
  anchor-lies σ f m ws (anchor-wrong a b w) = subst (Lies P T) (sym w) (inside-low 4 (inr (inr (inl refl))), tt)
  anchor-lies σ f m ws (anchor-again-wrong a b w) = subst (Lies P T) (sym w) (inside-low 6 (inr (inr (inr refl))), tt)

  lies-join : (ws vs : List Write) → Lies P T ws → Lies P T vs → Lies P T (ws ++ vs)
  lies-join = All-append (λ w. Inside P T w.to)

  both-lie : (f : Third) (m : ℕ) → Lies P T (both_anchors f m)
  both-lie f m = (inside-low 4 (inr (inr (inl refl))), (inside-low 6 (inr (inr (inr refl))), tt))

  layout-lies : (r : Rec) → 8 ≤ r.place → Fits T r → Lies P T (layout r)
  layout-lies r low fit = let z = (inside T r.third).1 in
      All-weaker (Own P r) (λ w. Inside P T w.to) (λ w o. (omega (arith, o.high, fit.1), (λ q. omega (arith, o.low, low, q)), (λ q. omega (arith, o.low, low, q)), λ q. omega (arith, o.high, fit.1, q))) (layout r) (own-layout P r fit.0)

  plan-parts : (N : ℕ) (σ : Disk) (s : ℕ) (ws : List Write) → Plan P T N σ X s ws → Lies P T ws
  plan-parts N σ s ws p = subst (Lies P T) (sym p.writes)
      (lies-join p.header-part _ (header-lies N σ p.header-part p.headers)
      (lies-join p.anchor-part _ (anchor-lies σ p.first p.number p.anchor-part p.anchors)
      (lies-join _ _
      (homeward-lies _ (All-append (Homeward P T X) _ _
      (All-weaker (To P T X (first_homes T)) (Homeward P T X) (λ w x. inl x) (mend σ X (first_homes T) P) (mend-to P T X σ (first_homes T) P (omega arith)))
      (All-weaker (To P T X (second_homes P T)) (Homeward P T X) (λ w x. inr x) (mend σ X (second_homes P T) P) (mend-to P T X σ (second_homes P T) P (omega arith)))))
      (lies-join _ _ (homeward-lies _ (both-home P T X (λ j. has (newest p.log j)) P (omega arith))) (both-lie Zero (s + 1))))))

  forces-parts : (f : Third) (m : ℕ) (rs : List Rec) (r : Rec) (ws : List Write) → Laid T f f (start T f) m rs → Forces P T X f m rs r ws → Lies P T ws
  forces-parts f m rs r ws l (force-on h fit ok w) =
      let z = placed-there T f m (m + length rs) rs r l h in
      subst (Lies P T) (sym w) (layout-lies r (omega (arith, z, (inside T r.third).0)) fit)
  forces-parts f m rs r ws l (force-round front back e a b turn far x y z fit ok w) = subst (Lies P T) (sym w)
      (lies-join _ (layout r) (lies-join _ _ (homeward-lies _ (both-home P T X (λ j. in_third f (holder rs j)) P (omega arith))) (both-lie (next_of f) (m + length front))) (layout-lies r (omega (arith, y, (inside T f).0)) fit))

pub plan-lies : PlanLies
plan-lies P T N σ X = plan-parts P T X N σ

pub forces-lie : ForcesLie
forces-lie = forces-parts
