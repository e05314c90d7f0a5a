-- The end of a record: "FSDE", the group number (4 bytes), the number of pages (1).
--     EndFits       an end's numbers fit in their bytes
--     encode_end    the sector of an end
--     decode_end    the end in a sector: its letters and its zeros are tested
use Rattle.std.specs.Prelude.{ℕ, ◌^◌, ◌<◌, cond, ◌&&◌, List, [], ◌∷◌, ◌++◌, drop, Some, None, Option, slice_index}
use Rattle.names.specs.Names.{zeros}
use Rattle.layout.specs.Padded.{padded, four_bytes, number4, tag_is}
use Rattle.layout.specs.declared.end.RecordEnd.{RecordEnd}

abbrev pub EndFits : RecordEnd → Type 0
EndFits e = (e.group < 2 ^ 32) × (e.count < 256)

abbrev pub encode_end : RecordEnd → List ℕ
encode_end e = padded (70 ∷ 83 ∷ 68 ∷ 69 ∷ (four_bytes e.group ++ e.count ∷ []))

abbrev pub decode_end : List ℕ → Option RecordEnd
decode_end s =
    cond (tag_is 70 83 68 69 s && zeros (drop 9 s)) (Some (record { group = number4 (slice_index s 4) (slice_index s 5) (slice_index s 6) (slice_index s 7); count = slice_index s 8 })) None
