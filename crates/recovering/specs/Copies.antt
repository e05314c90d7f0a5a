-- Headers and anchors, each with a copy.
--     HeaderRead      the header that counts, and the copy to be written from it; none if neither is right
--     AnchorRead      the same of the anchor
--     written_of      the write of a copy, if one has to be written
use Rattle.std.specs.Prelude.{◌≡◌, ℕ, List, [], ◌∷◌, Some, None, Option, Ok, Err, Result}
use Rattle.disk.specs.Sectors.{DiskState, count}
use Rattle.disk.specs.WriteLists.{Write}
use Rattle.disk.specs.declared.faults.Fault.{Fault}
use Rattle.layout.specs.Anchors.{encode_anchor}
use Rattle.layout.specs.Headers.{encode_header}
use Rattle.layout.specs.declared.anchor.Anchor.{Anchor}
use Rattle.layout.specs.declared.header.Header.{Header}
use Rattle.recovering.specs.declared.twins.Twin.{Twin}
use Rattle.searching.specs.Looks.{ReadBetween}
use Rattle.thirds.specs.Words.{on}
use Rattle.thirds.specs.Cuts.{write}
use Rattle.thirds.specs.Volumes.{header_in}
use Rattle.thirds.specs.Recovery.{HeaderWrites, NoAnchor, AnchorWrites}

abbrev pub written_of : Option ℕ → List ℕ → List Write
written_of None bytes = []
written_of (Some s) bytes = write s bytes ∷ []

abbrev pub HeaderRead : DiskState → Result (Option (Twin Header)) Fault → DiskState → Type 0
HeaderRead d (Ok (Some t)) e = (e ≡ d) × (t.value.sectors ≡ count d) × HeaderWrites t.value.pages t.value.third t.value.sectors (on d.sectors) (written_of t.bad (encode_header t.value))
HeaderRead d (Ok None) e = (e ≡ d) × (header_in (count d) (on d.sectors 0) ≡ None) × (header_in (count d) (on d.sectors 2) ≡ None)
HeaderRead d (Err x) e = ReadBetween 0 2 d x e

abbrev pub AnchorRead : ℕ → DiskState → Result (Option (Twin Anchor)) Fault → DiskState → Type 0
AnchorRead P d (Ok (Some t)) e = (e ≡ d) × AnchorWrites P (on d.sectors) t.value.third t.value.group (written_of t.bad (encode_anchor t.value))
AnchorRead P d (Ok None) e = (e ≡ d) × NoAnchor P (on d.sectors 4) × NoAnchor P (on d.sectors 6)
AnchorRead P d (Err x) e = ReadBetween 4 6 d x e
