-- The bytes of the heads and the ends of a record, from the head of its changed pages.
--     head-written       those of a head
--     count-written      how many pages it counts
--     end-written        those of an end
use Rattle.std.proofs.Common.{◌≡◌, ℕ, List, length, ap, ◌∙◌}
use Rattle.frames.specs.Frames.{changed_pages, head_of}
use Rattle.frames.specs.declared.frame.Frame.{Frame}
use Rattle.frames.proofs.Heads.{length-numbers}
use Rattle.layout.specs.Ends.{encode_end}
use Rattle.layout.specs.Heads.{encode_head}
use Rattle.layout.specs.declared.head.RecordHead.{RecordHead}
use Rattle.thirds.specs.Words.{head_bytes, end_bytes}
use Rattle.thirds.specs.Records.{numbers}

module _ (head : RecordHead) (frames : List Frame) (is : head ≡ head_of head.group frames) where
  pub head-written : encode_head head ≡ head_bytes head.group (numbers (changed_pages frames))
  unfolding head_bytes
  head-written = ap encode_head is

  pub count-written : head.count ≡ length (changed_pages frames)
  count-written = ap (λ (h : RecordHead). h.count) is ∙ length-numbers (changed_pages frames)

  pub end-written : encode_end (record { group = head.group; count = head.count }) ≡ end_bytes head.group (length (changed_pages frames))
  unfolding end_bytes
  end-written = ap (λ (n : ℕ). encode_end (record { group = head.group; count = n })) count-written
