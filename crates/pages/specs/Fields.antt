-- The laws of the two kinds of record.
--     item-long, entry-long            one that fits has 24 or 32 bytes
--     item-back, entry-back            it comes back from its bytes
--     item-fits, entry-fits            what is read from 24 or 32 bytes fits
--     item, entry                      a record by its parts
--     number_at                        the number in the four bytes from a place on
use Rattle.std.specs.Prelude.{◌≡◌, ℕ, zero, suc, ◌+◌, ◌*◌, ◌^◌, ◌<◌, List, [], ◌∷◌, ◌++◌, length, take, slice_index}
use Rattle.std.proofs.Common.{ap, ◌∙◌, arith}
use Rattle.std.proofs.lemmas.List.{take_at, append_assoc, length-append, length-take}
use Rattle.layout.specs.Padded.{four_bytes, number4}
use Rattle.layout.proofs.Numbers.{behind, four-number, two-number}
use Rattle.names.specs.Names.{two_bytes}
use Rattle.pages.specs.declared.records.Entry.{Entry}
use Rattle.pages.specs.declared.records.Item.{Item}
use Rattle.pages.specs.Bytes.{AreBytes}
use Rattle.pages.specs.Records.{item_bytes, item_of, ItemFit, entry_bytes, entry_of, EntryFit}

abbrev item : List ℕ → ℕ → Item
item s p = record { separator = s; page = p }

abbrev entry : List ℕ → ℕ → ℕ → Entry
entry k s l = record { key = k; start = s; length = l }

pub item-long : (i : Item) → ItemFit i → length (item_bytes i) ≡ 24
item-long i f = simp length-append (omega arith)

pub entry-long : (e : Entry) → EntryFit e → length (entry_bytes e) ≡ 32
entry-long e f = simp length-append (omega arith)

abbrev number_at : ℕ → List ℕ → ℕ
number_at a bs = number4 (slice_index bs (a + 0)) (slice_index bs (a + 1)) (slice_index bs (a + 2)) (slice_index bs (a + 3))

-- a number of four bytes comes back from its place
number-back : (a : ℕ) (front rest : List ℕ) (n : ℕ) → length front ≡ a → n < 2 ^ 32 → number_at a (front ++ (four_bytes n ++ rest)) ≡ n
number-back a front rest n l h =
    let xs = four_bytes n ++ rest in
    (λ i. number4 (behind a front xs 0 l i) (behind a front xs 1 l i) (behind a front xs 2 l i) (behind a front xs 3 l i)) ∙ four-number n h

pub item-back : (i : Item) → ItemFit i → item_of (item_bytes i) ≡ i
item-back i f =
    let page = two_bytes i.page in
    (λ j. item (take_at i.separator page 22 f.0 j) (behind 22 i.separator page 0 f.0 j * 256 + behind 22 i.separator page 1 f.0 j)) ∙ ap (item i.separator) (two-number i.page f.1)

pub entry-back : (e : Entry) → EntryFit e → entry_of (entry_bytes e) ≡ e
entry-back e f =
    let zeros = 0 ∷ 0 ∷ [] in
    let front = e.key ++ four_bytes e.start in
    let rest = four_bytes e.length ++ zeros in
    let by_length : entry_bytes e ≡ front ++ rest = append_assoc front (four_bytes e.length) zeros in
    let by_start = by_length ∙ append_assoc e.key (four_bytes e.start) rest in
    let key = ap (take 22) by_start ∙ take_at e.key (four_bytes e.start ++ rest) 22 f.0 in
    let start = ap (number_at 22) by_start ∙ number-back 22 e.key rest e.start f.0 f.1 in
    let size = ap (number_at 26) by_length ∙ number-back 26 front zeros e.length (simp length-append (omega arith)) f.2 in
    λ j. entry (key j) (start j) (size j)

byte_at : (bs : List ℕ) (i : ℕ) → AreBytes bs → slice_index bs i < 256
byte_at [] i a = omega arith
byte_at (b ∷ bs) zero a = a.0
byte_at (b ∷ bs) (suc i) a = byte_at bs i a.1

number-fits : (a : ℕ) (bs : List ℕ) → AreBytes bs → number_at a bs < 2 ^ 32
number-fits a bs h = omega (arith, byte_at bs (a + 0) h, byte_at bs (a + 1) h, byte_at bs (a + 2) h, byte_at bs (a + 3) h)

pub item-fits : (bs : List ℕ) → length bs ≡ 24 → AreBytes bs → ItemFit (item_of bs)
item-fits bs l a = (simp length-take (omega arith), omega (arith, byte_at bs 22 a, byte_at bs 23 a))

pub entry-fits : (bs : List ℕ) → length bs ≡ 32 → AreBytes bs → EntryFit (entry_of bs)
entry-fits bs l a = (simp length-take (omega arith), number-fits 22 bs a, number-fits 26 bs a)
