-- The writes of a force, part by part.
--     nothing-written    no page changed
--     before             what comes before the record: the third given up, or nothing
--     stopped-giving-up  a force was stopped while it gave up the anchored third
--     done-before        that is done, where a third was given up
--     none-before        and where none was
--     record-written     the record is written after it
use Rattle.std.proofs.Common.{◌≡◌, ℕ, true, false, cond, List, [], ◌++◌, length, refl}
use Rattle.disk.specs.Sectors.{DiskState}
use Rattle.disk.specs.Faults.{Answer}
use Rattle.disk.specs.WriteLists.{Write, Done, Stopped, Wrote}
use Rattle.disk.specs.declared.faults.Fault.{Fault}
use Rattle.frames.specs.Frames.{any_changed, changed_pages}
use Rattle.frames.specs.declared.frame.Frame.{Frame}
use Rattle.geometry.specs.declared.third.Third.{Third}
use Rattle.thirds.specs.Records.{layout}
use Rattle.forcing.specs.Force.{giving_up, force_writes, record_at, record_of}
use Rattle.forcing.specs.Places.{gives_up, record_third, record_place}
use Rattle.forcing.specs.declared.place.LogPlace.{LogPlace}
use Rattle.forcing.proofs.Wrote.{done-nothing, stopped-early, wrote-append}

pub nothing-written : (P T : ℕ) (log : LogPlace) (frames : List Frame) → any_changed frames ≡ false → (d : DiskState) → Done (force_writes P T log frames) d d
nothing-written P T log frames is d = rw is (done-nothing d)

module _ (P T : ℕ) (log : LogPlace) (frames : List Frame) (count : ℕ) (counted : count ≡ length (changed_pages frames)) where
  pub before : List Write
  before = cond (gives_up T log count) (giving_up P T log frames) []

  record_writes : List Write
  record_writes = layout (record_of T log frames)

  -- The writes of a force, where a page changed.
  all : any_changed frames ≡ true → force_writes P T log frames ≡ before ++ record_writes
  unfolding before record_writes
  all is = rw (is, counted) refl

  pub stopped-giving-up : any_changed frames ≡ true → gives_up T log count ≡ true → (d : DiskState) (x : Fault) (e : DiskState) → Stopped (giving_up P T log frames) d x e
      → Stopped (force_writes P T log frames) d x e
  unfolding before
  stopped-giving-up is gives d x e h = rw (all is) (stopped-early before record_writes d x e (rw gives h))

  pub done-before : gives_up T log count ≡ true → (d e : DiskState) → Done (giving_up P T log frames) d e → Done before d e
  unfolding before
  done-before gives d e h = rw gives h

  pub none-before : gives_up T log count ≡ false → (d : DiskState) → Done before d d
  unfolding before
  none-before gives d = rw gives (done-nothing d)

  pub record-written : any_changed frames ≡ true → (place : ℕ) → place ≡ record_place T log count → (d m e : DiskState) (r : Answer) → Done before d m
      → ((third : Third) → Wrote (layout (record_at third place log.next frames)) m r e)
      → Wrote (force_writes P T log frames) d r e
  unfolding record_writes
  record-written is place at d m e r done wrote =
      rw (all is) (wrote-append before record_writes d m e r done (rw (at, counted) at (wrote (record_third T log (length (changed_pages frames))))))
