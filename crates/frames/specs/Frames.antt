-- The frames of a volume's pages.
--     written           a frame to which another image was written: the page changed
--     settled           a frame after a force whose record stands in a third: a changed page is forced, and has its newest record there
--     released          a frame after the records in a third were given up
--     unheld            a frame whose page has no record
--     any_changed       whether any did
--     changed_from      the changed pages of a table, the first of which has this number, by rising number, with their images now
--     changed_pages     the same of a whole table
--     none_held         a frame that holds nothing, in place of one that a table lacks
--     now_of            the images now
--     forced_of         the images as last forced
--     head_of           the head of a record of the changed pages
use Rattle.std.specs.Prelude.{ℕ, ◌+◌, ◌-◌, Bool, true, false, cond, List, [], ◌∷◌, ◌++◌, length, replicate, Some, None, slice_index_or}
use Rattle.std.specs.List.{list_any}
use Rattle.frames.specs.declared.frame.Frame.{Frame}
use Rattle.geometry.specs.declared.third.Third.{Third}
use Rattle.layout.specs.declared.head.RecordHead.{RecordHead}
use Rattle.thirds.specs.Words.{Images}
use Rattle.thirds.specs.Records.{Page, numbers}
use Rattle.thirds.specs.Homes.{in_third}

abbrev pub written : Frame → List ℕ → Frame
written f bytes = record { now = bytes; forced = f.forced; changed = true; third = f.third }

abbrev pub settled : Third → Frame → Frame
settled third f = cond f.changed (record { now = f.now; forced = f.now; changed = false; third = Some third }) f

abbrev pub released : Third → Frame → Frame
released third f = record { now = f.now; forced = f.forced; changed = f.changed; third = cond (in_third third f.third) None f.third }

abbrev pub unheld : Frame → Frame
unheld f = record { now = f.now; forced = f.forced; changed = f.changed; third = None }

abbrev pub any_changed : List Frame → Bool
any_changed frames = list_any (λ f. f.changed) frames

unfoldable pub changed_from : ℕ → List Frame → List Page
changed_from i [] = []
changed_from i (f ∷ fs) = cond f.changed ((i, f.now) ∷ changed_from (i + 1) fs) (changed_from (i + 1) fs)

abbrev pub changed_pages : List Frame → List Page
changed_pages frames = changed_from 0 frames

abbrev pub none_held : Frame
none_held = record { now = []; forced = []; changed = false; third = None }

abbrev pub now_of : List Frame → Images
now_of frames i = (slice_index_or frames i none_held).now

abbrev pub forced_of : List Frame → Images
forced_of frames i = (slice_index_or frames i none_held).forced

abbrev pub head_of : ℕ → List Frame → RecordHead
head_of group frames = record { group = group; count = length (numbers (changed_pages frames)); pages = numbers (changed_pages frames) ++ replicate (21 - length (numbers (changed_pages frames))) 0 }
