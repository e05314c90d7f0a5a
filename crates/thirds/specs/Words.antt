-- What a sector says in a volume of so many pages, and a disk as a function.
--     Word             an anchor, the head or the end of a record, something else, or nothing, since it cannot be read
--     as_head, as_end, as_anchor     what a decoder's answer says; a word of another kind if there is none
--     word_of          what bytes say
--     says             what a sector says
--     Calm             it is neither a head nor an end
--     Rise             page numbers that rise from one on and are below another
--     head_bytes       the bytes of the head of a record of so many pages
--     end_bytes        those of its end
--     anchor_bytes     those of an anchor
--     header_bytes     those of the volume's header
--     Disk             the sector of each number
--     Images           the image of each page
--     on               the sectors of a list as such a disk; one that the list has not cannot be read
use Rattle.std.specs.Prelude.{ℕ, ◌+◌, ◌-◌, ◌<◌, ◌≤◌, List, [], ◌∷◌, ◌++◌, length, take, replicate, Some, None, Option, slice_index_or}
use Rattle.disk.specs.Sectors.{Sector, unreadable, holds}
use Rattle.geometry.specs.declared.third.Third.{Third}
use Rattle.layout.specs.Anchors.{encode_anchor, decode_anchor}
use Rattle.layout.specs.Ends.{encode_end, decode_end}
use Rattle.layout.specs.Heads.{encode_head, decode_head}
use Rattle.layout.specs.Headers.{encode_header}
use Rattle.layout.specs.declared.anchor.Anchor.{Anchor}
use Rattle.layout.specs.declared.end.RecordEnd.{RecordEnd}
use Rattle.layout.specs.declared.head.RecordHead.{RecordHead}

pub data Word : Type 0 where
  nothing : Word
  anchor : Third → ℕ → Word
  head : ℕ → List ℕ → Word
  end : ℕ → ℕ → Word
  other : Word

abbrev pub as_head : Option RecordHead → Word → Word
as_head None w = w
as_head (Some h) w = head h.group (take h.count h.pages)

abbrev pub as_end : Option RecordEnd → Word → Word
as_end None w = w
as_end (Some e) w = end e.group e.count

abbrev pub as_anchor : Option Anchor → Word → Word
as_anchor None w = w
as_anchor (Some a) w = anchor a.third a.group

-- No bytes are two of them.
unfoldable pub word_of : ℕ → List ℕ → Word
word_of P bytes = as_head (decode_head P bytes) (as_end (decode_end bytes) (as_anchor (decode_anchor bytes) other))

abbrev pub says : ℕ → Sector → Word
says P unreadable = nothing
says P (holds bytes) = word_of P bytes

abbrev pub Calm : Word → Type 0
Calm nothing = Unit {0}
Calm (anchor f m) = Unit {0}
Calm (head m ns) = ⊥
Calm (end m n) = ⊥
Calm other = Unit {0}

abbrev pub Rise : ℕ → ℕ → List ℕ → Type 0
Rise low P [] = Unit {0}
Rise low P (n ∷ ns) = (low ≤ n) × (n < P) × Rise (n + 1) P ns

unfoldable pub head_bytes : ℕ → List ℕ → List ℕ
head_bytes m ns = encode_head (record { group = m; count = length ns; pages = ns ++ replicate (21 - length ns) 0 })

unfoldable pub end_bytes : ℕ → ℕ → List ℕ
end_bytes m n = encode_end (record { group = m; count = n })

unfoldable pub anchor_bytes : Third → ℕ → List ℕ
anchor_bytes f m = encode_anchor (record { third = f; group = m })

unfoldable pub header_bytes : ℕ → ℕ → ℕ → List ℕ
header_bytes P T N = encode_header (record { pages = P; third = T; sectors = N })

abbrev pub Disk : Type 0
Disk = ℕ → Sector

abbrev pub Images : Type 0
Images = ℕ → List ℕ

abbrev pub on : List Sector → Disk
on l s = slice_index_or l s unreadable
