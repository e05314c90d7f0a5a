-- The header: "FSDV", edition 1 (1 byte), the number of pages P (1), the sectors T of a third (2), the sectors N of the disk (4).
--     HeaderFits       a header that is right on a disk of so many sectors: its numbers are good, and N is the disk's count
--     encode_header    the sector of a header
--     good_numbers     the test of a volume's numbers
--     header_of        the header with these numbers, if they are right on a disk of so many sectors
--     decode_header    the header in a sector: its letters, its edition, its zeros and its numbers are tested
use Rattle.std.specs.Prelude.{◌≡◌, ℕ, ◌+◌, ◌*◌, ◌^◌, ◌<◌, Bool, cond, ◌&&◌, List, ◌∷◌, ◌++◌, drop, Some, None, Option, ◌==◌, nat_le, slice_index}
use Rattle.geometry.specs.Places.{Good, data_start}
use Rattle.layout.specs.Padded.{padded, four_bytes, number4, tag_is}
use Rattle.names.specs.Names.{zeros, two_bytes}
use Rattle.layout.specs.declared.header.Header.{Header}

abbrev pub HeaderFits : ℕ → Header → Type 0
HeaderFits count h = Good h.pages h.third h.sectors × (h.sectors ≡ count) × (count < 2 ^ 32)

abbrev pub encode_header : Header → List ℕ
encode_header h = padded (70 ∷ 83 ∷ 68 ∷ 86 ∷ 1 ∷ h.pages ∷ (two_bytes h.third ++ four_bytes h.sectors))

abbrev pub good_numbers : ℕ → ℕ → ℕ → Bool
good_numbers p t n = nat_le 2 p && (nat_le p 21 && (nat_le (2 * p + 6) t && (nat_le t 1000 && nat_le (data_start p t + 2) n)))

abbrev pub header_of : ℕ → ℕ → ℕ → ℕ → Option Header
header_of count p t n = cond (n == count && good_numbers p t n) (Some (record { pages = p; third = t; sectors = n })) None

abbrev pub decode_header : ℕ → List ℕ → Option Header
decode_header count s =
    cond (tag_is 70 83 68 86 s && (slice_index s 4 == 1 && zeros (drop 12 s)))
    (header_of count (slice_index s 5) (slice_index s 6 * 256 + slice_index s 7) (number4 (slice_index s 8) (slice_index s 9) (slice_index s 10) (slice_index s 11)))
    None
