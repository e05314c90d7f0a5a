use Rattle.std.proofs.Common.{[], sym, ◌∙◌, arith}
use Rattle.std.proofs.lemmas.List.{length-map, get_or-map, get_or_default, same_lists}
use Rattle.frames.specs.Frames.{none_held}
use Rattle.frames.specs.declared.frame.Frame.{Frame}
use Rattle.replay.specs.Moves.{all_images}
use Rattle.replay.proofs.steps.images_of.Goals as goal

pub returns : goal.returns
returns c =
    let v = c.loop-page.invariant in
    let frames = c.args.frames.now in
    let done = c.loop-page-test.false in
    same_lists c.loop-page.images (all_images frames) (v.long ∙ sym (length-map frames (λ (f : Frame). f.now) ∙ v.frames))
    (λ k d l. get_or_default c.loop-page.images k d [] l ∙ v.same k (omega arith) ∙ sym (get_or-map (λ (f : Frame). f.now) frames k none_held d (omega arith)))
