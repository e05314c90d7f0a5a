-- The writes of a force, and what it leaves in memory.
--     third_in          the third with a page's newest record, if there is one
--     carried           writes of the images as last forced to both homes of each page whose newest record is in a third, by rising number
--     record_at         the record of the changed pages, at a place
--     record_of         the same, where it goes
--     ending            the writes of a record from its first end on
--     giving_up         the writes that give up the anchored third: its homes, and anchors that name the next one
--     force_writes      the writes of a force: none if no page changed; homes and anchors first where a third is given up; then the record
--     frames_after      the frames after it
--     ForceLeaves       what a force leaves in memory: where it is done the frames and the place of the log after it, and the same as before where it is refused
use Rattle.std.specs.Prelude.{◌≡◌, ℕ, cond, List, [], ◌∷◌, ◌++◌, length, map, Option, Ok, Err, slice_index_or}
use Rattle.disk.specs.Faults.{Answer}
use Rattle.disk.specs.WriteLists.{Write}
use Rattle.forcing.specs.Places.{record_third, record_place, gives_up, first_in, LogAfter}
use Rattle.forcing.specs.declared.place.LogPlace.{LogPlace}
use Rattle.frames.specs.Frames.{settled, released, any_changed, changed_pages, none_held, forced_of}
use Rattle.frames.specs.declared.frame.Frame.{Frame}
use Rattle.geometry.specs.Places.{first_homes, second_homes}
use Rattle.geometry.specs.Thirds.{next_of}
use Rattle.geometry.specs.declared.third.Third.{Third}
use Rattle.thirds.specs.Records.{Rec, first_end, closing, layout}
use Rattle.thirds.specs.Homes.{both_homes, in_third}
use Rattle.thirds.specs.Recovery.{both_anchors}

abbrev pub third_in : List Frame → ℕ → Option Third
third_in frames i = (slice_index_or frames i none_held).third

abbrev pub carried : Third → List Frame → ℕ → ℕ → List Write
carried third frames a b = both_homes (λ i. in_third third (third_in frames i)) (forced_of frames) a b (length frames)

abbrev pub record_at : Third → ℕ → ℕ → List Frame → Rec
record_at third place group frames = record { third = third; place = place; number = group; pages = changed_pages frames }

abbrev pub record_of : ℕ → LogPlace → List Frame → Rec
record_of T log frames = record_at (record_third T log (length (changed_pages frames))) (record_place T log (length (changed_pages frames))) log.next frames

abbrev pub ending : Rec → List Write
ending r = first_end r ∷ closing r

abbrev pub giving_up : ℕ → ℕ → LogPlace → List Frame → List Write
giving_up P T log frames = carried log.anchored frames (first_homes T) (second_homes P T) ++ both_anchors (next_of log.anchored) (first_in (next_of log.anchored) log.firsts)

abbrev pub force_writes : ℕ → ℕ → LogPlace → List Frame → List Write
force_writes P T log frames = cond (any_changed frames) (cond (gives_up T log (length (changed_pages frames))) (giving_up P T log frames) [] ++ layout (record_of T log frames)) []

abbrev pub frames_after : ℕ → LogPlace → List Frame → List Frame
frames_after T log frames =
    map (settled (record_third T log (length (changed_pages frames))))
    (cond (gives_up T log (length (changed_pages frames))) (map (released log.anchored) frames) frames)

abbrev pub ForceLeaves : ℕ → LogPlace → List Frame → Answer → LogPlace → List Frame → Type 0
ForceLeaves T log frames (Ok _) later fs =
    cond (any_changed frames) (LogAfter T log (length (changed_pages frames)) later × (fs ≡ frames_after T log frames)) ((later ≡ log) × (fs ≡ frames))
ForceLeaves T log frames (Err x) later fs = (later ≡ log) × (fs ≡ frames)
