-- What a force answers and leaves, once it is over.
--     force-nothing     where no page changed
--     force-done        where its writes are done
use Rattle.std.proofs.Common.{◌≡◌, ℕ, ◌≤◌, false, List, ◌++◌, length, take, drop, Ok, refl, ◌∙◌, inr, arith}
use Rattle.std.proofs.lemmas.List.{take-append-drop, take-append-le, take_all, length-append, length-take, length-drop}
use Rattle.disk.specs.Sectors.{DiskState}
use Rattle.disk.specs.WriteLists.{Done}
use Rattle.forcing.specs.Force.{force_writes, ForceLeaves}
use Rattle.forcing.specs.declared.place.LogPlace.{LogPlace}
use Rattle.forcing.proofs.ForceWrites.{nothing-written}
use Rattle.frames.specs.Frames.{any_changed}
use Rattle.frames.specs.declared.frame.Frame.{Frame}
use Rattle.journal.specs.Calls.{most_number, own, ForceAnswers}
use Rattle.journal.specs.declared.inner.Inner.{Inner}
use Rattle.journal.specs.declared.inner.Standing.{Standing}
use Rattle.journal.specs.declared.inner.State.TheVariants.{Up}

module _ (v : Standing) (i : Inner) (up : i.state ≡ Up v) where
  P : ℕ
  P = v.geometry.pages

  T : ℕ
  T = v.geometry.third

  pub force-nothing : (d : DiskState) → any_changed (own v.geometry.pages i) ≡ false
      → ForceAnswers v i d (Ok v.place.last) (record { state = i.state; frames = take v.geometry.pages i.frames ++ drop v.geometry.pages i.frames }) d
  force-nothing d none =
      rw (take-append-drop v.geometry.pages i.frames)
      (inr
      ((λ spent. cc), record { answer = Ok tt; wrote = nothing-written v.geometry.pages v.geometry.third v.place (own v.geometry.pages i) none d; left = (v, up, refl, refl, rw none (refl, refl), refl) }))

  pub force-done : (log : LogPlace) (fs : List Frame) (d e : DiskState) → v.geometry.pages ≤ length i.frames → v.place.next ≤ most_number
      → Done (force_writes v.geometry.pages v.geometry.third v.place (own v.geometry.pages i)) d e
      → ForceLeaves v.geometry.third v.place (own v.geometry.pages i) (Ok tt) log fs
      → length fs ≡ length (own v.geometry.pages i)
      → ForceAnswers v i d (Ok log.last) (record { state = Up (record { geometry = v.geometry; place = log }); frames = fs ++ drop v.geometry.pages i.frames }) e
  force-done log fs d e fits more done leaves same =
      let P = v.geometry.pages in
      let long : length fs ≡ P = omega (arith, same, length-take P i.frames) in
      let front : take P (fs ++ drop P i.frames) ≡ fs = take-append-le P fs (drop P i.frames) (omega arith) ∙ take_all P fs (omega arith) in
      inr (
        (λ spent. absurd (omega (arith, spent.1))),
        record {
          answer = Ok tt;
          wrote = done;
          left = (record { geometry = v.geometry; place = log }, refl, refl, refl, rw front leaves, omega (arith, length-append fs (drop P i.frames), length-drop P i.frames));
        },
      )
