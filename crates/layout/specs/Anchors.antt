-- The anchor: "FSDA", the third (1 byte), the group number (4).
--     AnchorFits       an anchor's number fits in four bytes
--     encode_anchor    the sector of an anchor
--     decode_anchor    the anchor in a sector: its letters, its zeros and its third are tested
use Rattle.std.specs.Prelude.{ℕ, ◌^◌, ◌<◌, cond, ◌&&◌, List, ◌∷◌, drop, Some, None, Option, slice_index}
use Rattle.geometry.specs.Thirds.{number_of, third_of}
use Rattle.geometry.specs.declared.third.Third.{Third}
use Rattle.names.specs.Names.{zeros}
use Rattle.layout.specs.Padded.{padded, four_bytes, number4, tag_is}
use Rattle.layout.specs.declared.anchor.Anchor.{Anchor}

abbrev pub AnchorFits : Anchor → Type 0
AnchorFits a = a.group < 2 ^ 32

abbrev pub encode_anchor : Anchor → List ℕ
encode_anchor a = padded (70 ∷ 83 ∷ 68 ∷ 65 ∷ number_of a.third ∷ four_bytes a.group)

abbrev pub anchor_at : ℕ → Option Third → Option Anchor
anchor_at group None = None
anchor_at group (Some third) = Some (record { third = third; group = group })

abbrev pub decode_anchor : List ℕ → Option Anchor
decode_anchor s =
    cond (tag_is 70 83 68 65 s && zeros (drop 9 s)) (anchor_at (number4 (slice_index s 5) (slice_index s 6) (slice_index s 7) (slice_index s 8)) (third_of (slice_index s 4))) None
