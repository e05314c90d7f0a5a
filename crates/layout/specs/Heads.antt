-- The head of a record: "FSDH", the group number (4 bytes), the number n of pages (1), the n page numbers (1 each).
--     rises          numbers rise, from low on
--     good_pages     n numbers rise from low on and are below the number of pages, and then there are only zeros
--     HeadFits       a head that is right in a volume of so many pages: 1 to that many, good numbers
--     encode_head    the sector of a head
--     head_of        the head with these numbers and the bytes after them, if they are right
--     decode_head    the head in a sector: its letters, its zeros and its page numbers are tested
use Rattle.std.specs.Prelude.{◌≡◌, ℕ, zero, suc, ◌+◌, ◌^◌, ◌<◌, ◌≤◌, Bool, true, false, cond, ◌&&◌, List, [], ◌∷◌, ◌++◌, length, take, drop, Some, None, Option, nat_le, nat_lt, slice_index}
use Rattle.names.specs.Names.{zeros}
use Rattle.layout.specs.Padded.{padded, four_bytes, number4, tag_is}
use Rattle.layout.specs.declared.head.RecordHead.{RecordHead}

abbrev pub rises : ℕ → List ℕ → Bool
rises low [] = true
rises low (x ∷ xs) = nat_le low x && rises (x + 1) xs

unfoldable pub good_pages : ℕ → ℕ → ℕ → List ℕ → Bool
good_pages zero low limit pages = zeros pages
good_pages (suc n) low limit [] = false
good_pages (suc n) low limit (page ∷ pages) = nat_le low page && (nat_lt page limit && good_pages n (page + 1) limit pages)

abbrev pub HeadFits : ℕ → RecordHead → Type 0
HeadFits limit h = (h.group < 2 ^ 32) × (1 ≤ h.count) × (length h.pages ≡ 21) × (good_pages h.count 0 limit h.pages ≡ true)

abbrev pub encode_head : RecordHead → List ℕ
encode_head h = padded (70 ∷ 83 ∷ 68 ∷ 72 ∷ (four_bytes h.group ++ h.count ∷ h.pages))

abbrev pub head_of : ℕ → ℕ → ℕ → List ℕ → Option RecordHead
head_of limit group count rest =
    cond (zeros (drop 21 rest) && (nat_le 1 count && good_pages count 0 limit (take 21 rest)))
    (Some (record { group = group; count = count; pages = take 21 rest }))
    None

abbrev pub decode_head : ℕ → List ℕ → Option RecordHead
decode_head limit s = cond (tag_is 70 83 68 72 s) (head_of limit (number4 (slice_index s 4) (slice_index s 5) (slice_index s 6) (slice_index s 7)) (slice_index s 8) (drop 9 s)) None
