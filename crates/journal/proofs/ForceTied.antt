-- Each force of an up journal is one of a record, and memory is tied to the live records after it; with no page changed it writes nothing.
--     force-tied          so where the record goes on behind the last one, in the next third, or in the anchored one
--     nothing-forced      and so where no page changed
use Rattle.std.proofs.Common.{◌≡◌, ℕ, ◌+◌, ◌*◌, ◌^◌, ◌<◌, ◌≤◌, ◌≢◌, Bool, true, false, cond, List, [], ◌∷◌, ◌++◌, length, map, set, Ok, None, sym, refl, ap, ap₂, ◌∙◌, subst, inl, inr, append-nil, arith}
use Rattle.std.specs.List.{AllByRecursion}
use Rattle.std.proofs.ByRecursion.{All-weaker}
use Rattle.std.proofs.lemmas.Bool.{cases_Bool, cond-false, cond-true, ltb-false, ltb-true}
use Rattle.std.proofs.lemmas.List.{length-append}
use Rattle.disk.specs.WriteLists.{Write}
use Rattle.forcing.specs.Force.{ForceLeaves, force_writes, frames_after, record_of, third_in}
use Rattle.forcing.specs.Places.{LogAfter, first_in, gives_up, goes_on}
use Rattle.forcing.specs.declared.place.LogPlace.{LogPlace}
use Rattle.frames.specs.Frames.{any_changed, changed_pages, now_of, released, settled}
use Rattle.frames.specs.declared.frame.Frame.{Frame}
use Rattle.geometry.specs.Places.{first_homes, second_homes}
use Rattle.geometry.specs.Thirds.{next_of, number_of}
use Rattle.geometry.specs.declared.third.Third.{Third}
use Rattle.journal.specs.Ties.{FirstNumbers, ForceTied, Forced, NothingForced, Tied}
use Rattle.journal.proofs.ChangedPages.{none-changed, pages-calm, pages-few, pages-rise, pages-some}
use Rattle.journal.proofs.FirstRecords.{first-back, first-here, first-other, firsts-back, firsts-moved, firsts-push, last-away, next-away, none-in-final}
use Rattle.journal.proofs.ForceWrites.{homes-carried, writes-none, writes-on, writes-round}
use Rattle.journal.proofs.Holders.{holder-back, same-third-other}
use Rattle.journal.proofs.SettledFrames.{alike-itself, alike-released, released-third}
use Rattle.journal.proofs.TiedAfter.{now-as-changed, tied-after}
use Rattle.thirds.specs.Words.{Disk, Images}
use Rattle.thirds.specs.Records.{Fits, Proper, Rec, layout, many, start}
use Rattle.thirds.specs.Search.{Laid, Placed, placed-here, placed-next}
use Rattle.thirds.specs.Homes.{carry, holder, in_third, same_third}
use Rattle.thirds.specs.Volumes.{Up}
use Rattle.thirds.specs.Recovery.{both_anchors}
use Rattle.thirds.specs.Forces.{final_place, final_third, force-on, force-round}
use Rattle.thirds.proofs.Newest.{same-third-self}
use Rattle.thirds.proofs.Rooms.{laid-split}
use Rattle.thirds.proofs.Thirds.{next-other, third-cases}

module _ (P T N : ℕ) (X : Images) (f : Third) (m : ℕ) (rs : List Rec) (σ : Disk) (log : LogPlace) (frames : List Frame)
    (up : Up P T N X f m rs σ) (tied : Tied P T X f m rs log frames) (small : log.next < 2 ^ 32) (some : any_changed frames ≡ true) where
  abbrev made : Rec
  made = record_of T log frames

  abbrev n : ℕ
  n = length (changed_pages frames)

  proper : Proper P made
  proper = record {
    numbered = record { few = up.good.0.1; small = small; rising = pages-rise P frames tied.long };
    calm = pages-calm P frames (λ i l. tied.calm i (omega (arith, tied.long)));
  }

  -- what a force leaves where a page changed
  left : (log' : LogPlace) (frames' : List Frame) → ForceLeaves T log frames (Ok tt) log' frames' → LogAfter T log n log' × (frames' ≡ frames_after T log frames)
  left log' frames' h = subst (λ (b : Bool). cond b (LogAfter T log n log' × (frames' ≡ frames_after T log frames)) ((log' ≡ log) × (frames' ≡ frames))) some h

  abbrev Later : Third → ℕ → List Rec → LogPlace → List Frame → Type 0
  Later f' m' kept log' frames' = Tied P T (now_of frames) f' m' (kept ++ made ∷ []) log' frames' × ((i : ℕ) → i < P → now_of frames' i ≡ now_of frames i)

  -- No third is given up.
  on : Placed T f (final_third f rs) (final_place (start T f) rs) (m + length rs) made → Fits T made → gives_up T log n ≡ false
      → ((log' : LogPlace) → LogAfter T log n log' → (first_in f log'.firsts ≡ m) × FirstNumbers (rs ++ made ∷ []) log'.firsts) → Forced P T X f m rs log frames
  on placed fits keeps firsts = record {
    made = made;
    forces = force-on placed fits proper (writes-on P T log frames some keeps);
    changes = now-as-changed P T X f m rs log frames tied;
    later = later;
  }
    where
      later : (log' : LogPlace) (frames' : List Frame) → ForceLeaves T log frames (Ok tt) log' frames' → length log'.firsts ≡ 3 → Later f m rs log' frames'
      later log' frames' h three =
          let (moved, table) = left log' frames' h in
          let first = firsts log' moved in
          let anchored : log'.anchored ≡ f = moved.anchored ∙ cond-false (gives_up T log n) (next_of log.anchored) log.anchored keeps ∙ tied.anchored in
          let same : frames' ≡ map (settled made.third) frames = table ∙ ap (map (settled made.third)) (cond-false (gives_up T log n) (map (released log.anchored) frames) frames keeps) in
          subst (Later f m rs log') (sym same) (tied-after P T X f m rs log frames tied f m rs frames log' refl (alike-itself frames) tied.thirds moved three anchored first.0 first.1)

  -- The record goes on in the third of the last one.
  on-here : goes_on T log n ≡ true → Forced P T X f m rs log frames
  on-here goes =
      on (placed-here third place tied.next) (pages-some frames some, omega (arith, place, begins, ltb-true (log.place + 5 + 2 * n) (start T log.third + T) goes)) (cond-true (goes_on T log n) false (same_third (next_of log.third) log.anchored) goes)
      (λ log' moved. (let same : log'.firsts ≡ log.firsts = moved.firsts ∙ cond-true (goes_on T log n) log.firsts (set log.firsts (number_of made.third) log.next) goes in
      (ap (first_in f) same ∙ tied.first, subst (FirstNumbers (rs ++ made ∷ [])) (sym same) (firsts-push rs made log.firsts tied.firsts fresh))))
    where
      here : made.third ≡ log.third
      here = cond-true (goes_on T log n) log.third (next_of log.third) goes

      third : made.third ≡ final_third f rs
      third = here ∙ tied.third

      place : made.place ≡ final_place (start T f) rs
      place = cond-true (goes_on T log n) log.place (start T (next_of log.third)) goes ∙ tied.place

      begins : start T made.third ≡ start T log.third
      begins = ap (start T) here

      fresh : AllByRecursion (λ q. q.third ≢ made.third) rs → first_in made.third log.firsts ≡ made.number
      fresh away =
          let none : rs ≡ [] = none-in-final f rs (subst (λ (k : Third). AllByRecursion (λ q. q.third ≢ k) rs) third away) in
          let first : made.third ≡ f = third ∙ ap (final_third f) none in
          ap (λ k. first_in k log.firsts) first ∙ tied.first ∙ omega (arith, tied.next, ap length none)

  -- It starts the next third.
  module _ (stops : goes_on T log n ≡ false) where
    next : made.third ≡ next_of log.third
    next = cond-false (goes_on T log n) log.third (next_of log.third) stops

    starts : made.place ≡ start T (next_of log.third)
    starts = cond-false (goes_on T log n) log.place (start T (next_of log.third)) stops

    far : start T (final_third f rs) + T ≤ final_place (start T f) rs + 5 + 2 * many made
    far = omega (arith, ltb-false (log.place + 5 + 2 * n) (start T log.third + T) stops, ap (start T) tied.third, tied.place)

    fits : Fits T made
    fits = (pages-some frames some, omega (arith, starts, ap (start T) next, pages-few P frames tied.long, up.good.0.2))

    gives : gives_up T log n ≡ same_third (next_of log.third) log.anchored
    gives = cond-false (goes_on T log n) false (same_third (next_of log.third) log.anchored) stops

    abbrev firsts-set : List ℕ
    firsts-set = set log.firsts (number_of made.third) log.next

    moved-firsts : (log' : LogPlace) → LogAfter T log n log' → log'.firsts ≡ firsts-set
    moved-firsts log' moved = moved.firsts ∙ cond-false (goes_on T log n) log.firsts firsts-set stops

    on-next : next_of log.third ≢ f → Forced P T X f m rs log frames
    on-next other =
        on (placed-next far away third (starts ∙ ap (λ k. start T (next_of k)) tied.third) tied.next) fits (gives ∙ same-third-other (next_of log.third) log.anchored (λ e. other (e ∙ tied.anchored)))
        (λ log' moved. (let same = moved-firsts log' moved in (
          ap (first_in f) same ∙ first-other f made.third log.firsts log.next (λ e. other (sym next ∙ sym e)) ∙ tied.first,
          subst (FirstNumbers (rs ++ made ∷ [])) (sym same) (firsts-push rs made firsts-set (firsts-moved rs log.firsts made.third log.next tied.firsts none) (λ a. first-here made.third log.firsts log.next tied.three)),
        )))
      where
        away : next_of (final_third f rs) ≢ f
        away e = other (ap next_of tied.third ∙ e)

        third : made.third ≡ next_of (final_third f rs)
        third = next ∙ ap next_of tied.third

        none : AllByRecursion (λ q. q.third ≢ made.third) rs
        none = subst (λ (k : Third). AllByRecursion (λ q. q.third ≢ k) rs) (sym third) (next-away T f (start T f) m rs up.core.laid away)

    -- That is the anchored one, which is given up.
    module _ (turn : next_of log.third ≡ f) (front back : List Rec) (parts : rs ≡ front ++ back) (in-front : AllByRecursion (λ q. q.third ≡ f) front) (in-back : AllByRecursion (λ q. q.third ≢ f) back) where
      third : made.third ≡ f
      third = next ∙ turn

      turned : next_of (final_third f rs) ≡ f
      turned = ap next_of (sym tied.third) ∙ turn

      given : gives_up T log n ≡ true
      given = gives ∙ ap₂ same_third turn tied.anchored ∙ same-third-self f

      -- the number of the first record that is left
      next-first : (back : List Rec) → rs ≡ front ++ back → AllByRecursion (λ q. q.third ≢ f) back → first_in (next_of f) log.firsts ≡ m + length front
      next-first [] e b = absurd (last-away f rs turned (subst (AllByRecursion (λ q. q.third ≡ f)) (sym (e ∙ append-nil front)) in-front))
      next-first (q ∷ back) e b =
          let (third, number) = first-back T f f (start T f) m front q back refl (subst (Laid T f f (start T f) m) e up.core.laid) in-front b.0 in
          ap (λ k. first_in k log.firsts) (sym third)
          ∙ tied.firsts front back q e (All-weaker (λ p. p.third ≡ f) (λ p. p.third ≢ q.third) (λ p is same. b.0 (sym same ∙ is)) front in-front)
          ∙ number

      first : first_in (next_of f) log.firsts ≡ m + length front
      first = next-first back parts in-back

      writes : force_writes P T log frames ≡ (carry f rs X (first_homes T) (second_homes P T) P ++ both_anchors (next_of f) (m + length front)) ++ layout made
      writes =
          writes-round P T log frames some given
          ∙ ap₂ (λ (us vs : List Write). (us ++ vs) ++ layout made) (homes-carried P T X f m rs log frames (first_homes T) (second_homes P T) tied)
          (ap₂ both_anchors (ap next_of tied.anchored) (ap (λ k. first_in (next_of k) log.firsts) tied.anchored ∙ first))

      thirds-left : (i : ℕ) → i < P → third_in (map (released log.anchored) frames) i ≡ holder back i
      thirds-left i l =
          released-third log.anchored frames i (omega (arith, tied.long))
          ∙ ap₂ (λ k o. cond (in_third k o) None o) tied.anchored (tied.thirds i l ∙ ap (λ qs. holder qs i) parts)
          ∙ holder-back f front back i in-front in-back

      round : Forced P T X f m rs log frames
      round = record {
        made = made;
        forces = force-round front back parts in-front in-back turned far third (starts ∙ ap (start T) turn) tied.next fits proper writes;
        changes = now-as-changed P T X f m rs log frames tied;
        later = later;
      }
        where
          count : m + length front + length back ≡ m + length rs
          count = omega (arith, ap length parts, length-append front back)

          kept : FirstNumbers back firsts-set
          kept =
              firsts-moved back log.firsts made.third log.next (firsts-back f front back log.firsts (subst (λ (qs : List Rec). FirstNumbers qs log.firsts) parts tied.firsts) in-front in-back)
              (All-weaker (λ q. q.third ≢ f) (λ q. q.third ≢ made.third) (λ q other same. other (same ∙ third)) back in-back)

          later : (log' : LogPlace) (frames' : List Frame) → ForceLeaves T log frames (Ok tt) log' frames' → length log'.firsts ≡ 3 → Later (next_of f) (m + length front) back log' frames'
          later log' frames' h three =
              let (moved, table) = left log' frames' h in
              let anchored : log'.anchored ≡ next_of f = moved.anchored ∙ cond-true (gives_up T log n) (next_of log.anchored) log.anchored given ∙ ap next_of tied.anchored in
              let same = moved-firsts log' moved in
              let table' : frames' ≡ map (settled made.third) (map (released log.anchored) frames) = table ∙ ap (map (settled made.third)) (cond-true (gives_up T log n) (map (released log.anchored) frames) frames given) in
              subst (Later (next_of f) (m + length front) back log') (sym table')
              (tied-after P T X f m rs log frames tied (next_of f) (m + length front) back (map (released log.anchored) frames) log' count (alike-released log.anchored frames) thirds-left moved three anchored
              (ap (first_in (next_of f)) same ∙ first-other (next_of f) made.third log.firsts log.next (λ e. next-other f (e ∙ third)) ∙ first)
              (subst (FirstNumbers (back ++ made ∷ [])) (sym same) (firsts-push back made firsts-set kept (λ a. first-here made.third log.firsts log.next tied.three))))

  forced : Forced P T X f m rs log frames
  forced = elim (cases_Bool (goes_on T log n)) [
    | inl goes ↦ on-here goes
    | inr stops ↦ elim (third-cases (next_of log.third) f) [
      | inr other ↦ on-next stops other
      | inl turn ↦ (let (front, back, parts, a, b) = laid-split T f f (start T f) m rs up.core.laid in round stops turn front back parts a b)
    ]
  ]

pub force-tied : ForceTied
force-tied P T N X f m rs σ log frames up tied small some = forced P T N X f m rs σ log frames up tied small some

pub nothing-forced : NothingForced
nothing-forced P T X f m rs log frames tied none = (writes-none P T log frames none, λ i l. tied.same i l (none-changed frames i none) ∙ tied.forced i l)
