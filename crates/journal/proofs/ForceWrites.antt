-- The writes of a force: none, those of a record alone, and those where a third is given up.
--     writes-none         no page changed: none
--     writes-on           no third is given up: those of the record alone
--     writes-round        the anchored one is: the homes and the anchors before them
--     homes-carried       the images carried home are those of the pages whose newest record is in that third
use Rattle.std.proofs.Common.{◌≡◌, ℕ, zero, suc, ◌+◌, ◌<◌, Bool, true, false, cond, List, [], ◌∷◌, ◌++◌, length, refl, ap, ap₂, ◌∙◌, arith}
use Rattle.std.proofs.lemmas.Bool.{cond-false, cond-true}
use Rattle.disk.specs.WriteLists.{Write}
use Rattle.forcing.specs.Force.{carried, force_writes, record_of, third_in}
use Rattle.forcing.specs.Places.{first_in, gives_up}
use Rattle.forcing.specs.declared.place.LogPlace.{LogPlace}
use Rattle.frames.specs.Frames.{any_changed, changed_pages, forced_of}
use Rattle.frames.specs.declared.frame.Frame.{Frame}
use Rattle.geometry.specs.Places.{first_homes, second_homes}
use Rattle.geometry.specs.Thirds.{next_of}
use Rattle.geometry.specs.declared.third.Third.{Third}
use Rattle.journal.specs.Ties.{Tied}
use Rattle.thirds.specs.Cuts.{write}
use Rattle.thirds.specs.Words.{Images}
use Rattle.thirds.specs.Records.{Rec, layout}
use Rattle.thirds.specs.Homes.{both_homes, carry, holder, in_third}
use Rattle.thirds.specs.Recovery.{both_anchors}

module _ (P T : ℕ) (log : LogPlace) (frames : List Frame) where
  abbrev given-up : List Write
  given-up = carried log.anchored frames (first_homes T) (second_homes P T) ++ both_anchors (next_of log.anchored) (first_in (next_of log.anchored) log.firsts)

  abbrev gives : Bool
  gives = gives_up T log (length (changed_pages frames))

  abbrev writes : Bool → List Write
  writes b = cond b given-up [] ++ layout (record_of T log frames)

  pub writes-none : any_changed frames ≡ false → force_writes P T log frames ≡ []
  writes-none none = cond-false (any_changed frames) (writes gives) [] none

  pub writes-on : any_changed frames ≡ true → gives ≡ false → force_writes P T log frames ≡ layout (record_of T log frames)
  writes-on some e = cond-true (any_changed frames) (writes gives) [] some ∙ ap writes e

  pub writes-round : any_changed frames ≡ true → gives ≡ true → force_writes P T log frames ≡ given-up ++ layout (record_of T log frames)
  writes-round some e = cond-true (any_changed frames) (writes gives) [] some ∙ ap writes e

-- the same tests and the same images give the same writes
homes-alike : (test test' : ℕ → Bool) (X X' : Images) (a b n : ℕ) → ((i : ℕ) → i < n → test i ≡ test' i) → ((i : ℕ) → i < n → X i ≡ X' i) → both_homes test X a b n ≡ both_homes test' X' a b n
homes-alike test test' X X' a b zero t x = refl
homes-alike test test' X X' a b (suc n) t x =
    ap₂ (λ (us vs : List Write). us ++ vs)
    (homes-alike test test' X X' a b n (λ i l. t i (omega arith)) (λ i l. x i (omega arith)))
    (ap₂ (λ (c : Bool) (y : List ℕ). cond c (write (a + n) y ∷ write (b + n) y ∷ []) []) (t n (omega arith)) (x n (omega arith)))

pub homes-carried : (P T : ℕ) (X : Images) (f : Third) (m : ℕ) (rs : List Rec) (log : LogPlace) (frames : List Frame) (a b : ℕ) → Tied P T X f m rs log frames → carried log.anchored frames a b ≡ carry f rs X a b P
homes-carried P T X f m rs log frames a b tied =
    homes-alike (λ i. in_third log.anchored (third_in frames i)) (λ i. in_third f (holder rs i)) (forced_of frames) X a b (length frames)
    (λ i l. ap₂ in_third tied.anchored (tied.thirds i (omega (arith, tied.long))))
    (λ i l. tied.forced i (omega (arith, tied.long)))
    ∙ ap (carry f rs X a b) tied.long
