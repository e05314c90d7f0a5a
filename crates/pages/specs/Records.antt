-- The records of a register, as bytes.
--     item_bytes, item_of      an item of the root in 24 bytes: its separator (22), its page (2); and back
--     ItemFit                  an item's separator has 22 bytes, and its page fits in two
--     entry_bytes, entry_of    an entry of a leaf in 32 bytes: its key (22), its start (4), its length (4), two zeros; and back
--     EntryFit                 an entry's key has 22 bytes, and its numbers fit in four
use Rattle.std.specs.Prelude.{◌≡◌, ℕ, ◌+◌, ◌*◌, ◌^◌, ◌<◌, List, [], ◌∷◌, ◌++◌, length, take, slice_index}
use Rattle.layout.specs.Padded.{four_bytes, number4}
use Rattle.names.specs.Names.{two_bytes}
use Rattle.pages.specs.declared.records.Item.{Item}
use Rattle.pages.specs.declared.records.Entry.{Entry}

abbrev pub item_bytes : Item → List ℕ
item_bytes i = i.separator ++ two_bytes i.page

abbrev pub item_of : List ℕ → Item
item_of bs = record { separator = take 22 bs; page = slice_index bs 22 * 256 + slice_index bs 23 }

abbrev pub ItemFit : Item → Type 0
ItemFit i = (length i.separator ≡ 22) × (i.page < 2 ^ 16)

abbrev pub entry_bytes : Entry → List ℕ
entry_bytes e = e.key ++ four_bytes e.start ++ four_bytes e.length ++ 0 ∷ 0 ∷ []

abbrev pub entry_of : List ℕ → Entry
entry_of bs = record {
  key = take 22 bs;
  start = number4 (slice_index bs 22) (slice_index bs 23) (slice_index bs 24) (slice_index bs 25);
  length = number4 (slice_index bs 26) (slice_index bs 27) (slice_index bs 28) (slice_index bs 29);
}

abbrev pub EntryFit : Entry → Type 0
EntryFit e = (length e.key ≡ 22) × (e.start < 2 ^ 32) × (e.length < 2 ^ 32)
