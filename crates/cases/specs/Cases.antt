-- The worked cases of the format.
--     Case         an example of one of the layers' rules, with what it must give
--     leaves       the keys of each leaf of a tree whose keys are numbers; none if there is no tree
--     InLog        records of so many pages each, laid one behind another from the start of the log on, with numbers from m on
--     StandAt      there are such records, and all of them begin at these sectors
--     BeginsWith   a formatted volume can be recovered, and is then up with an empty log in which the first record will have this number
--     NoneAt       no disk of which these sectors cannot be read has a record at this one
--     holds        an example gives what it must
--     table        all examples
--     all_hold     every example of a table holds
use Rattle.std.specs.Prelude.{◌≡◌, ℕ, ◌-◌, ◌<◌, true, false, List, [], ◌∷◌, ◌++◌, map, Some, None, Option, codes, nat_lt}
use Rattle.std.specs.List.{AllByRecursion}
use Rattle.disk.specs.Sectors.{unreadable}
use Rattle.disk.specs.WriteLists.{Write}
use Rattle.geometry.specs.Places.{first_homes, second_homes, data_start}
use Rattle.geometry.specs.Sizes.{data_sectors, record_of}
use Rattle.geometry.specs.declared.third.Third.{Third}
use Rattle.geometry.specs.declared.third.Third.TheVariants.{Zero}
use Rattle.names.specs.Names.{filled, two_bytes}
use Rattle.names.specs.Orders.{before}
use Rattle.layout.specs.Headers.{good_numbers}
use Rattle.thirds.specs.Words.{Disk, Images}
use Rattle.thirds.specs.Cuts.{Through}
use Rattle.thirds.specs.Records.{start, Rec, many, Fits, Absent}
use Rattle.thirds.specs.Search.{Laid}
use Rattle.thirds.specs.Volumes.{Up, Formatted}
use Rattle.thirds.specs.Recovery.{Plan}
use Rattle.tree.specs.Tree.{Node, node, put_in}

pub data Case : Type 0 where
  -- files of these lengths have so many data sectors each
  data-sectors : (lengths sectors : List ℕ) → Case
  -- P pages and T sectors a third give A, B and S
  places : (p t a b s : ℕ) → Case
  -- P pages make a record of so many sectors, which ends before the last sector of a third of T; a third of one sector less is refused
  record-fits : (p sectors t n : ℕ) → Case
  -- the key of one name comes before that of another, both of version 1
  in-order : (first second : List ℕ) → Case
  -- a register whose only leaf has these keys takes one more: its leaves have these keys
  splits : (held : List ℕ) (new : ℕ) (first second : List ℕ) → Case
  -- records of so many pages each, laid in an empty log with thirds of t sectors, begin at these sectors
  stand-at : (t : ℕ) (pages sectors : List ℕ) → Case
  -- the first record after a format and a recovery has this number
  begins-with : (number : ℕ) → Case
  -- if these sectors cannot be read there is no record at this one
  none-at : (lost : List ℕ) (sector : ℕ) → Case

abbrev pub leaves : Option (List (Node ℕ ℕ)) → List (List ℕ)
leaves None = []
leaves (Some t) = map (λ n. n.entries) t

abbrev pub InLog : ℕ → ℕ → List ℕ → List Rec → Type 0
InLog t m pages rs = Laid t Zero Zero (start t Zero) m rs × AllByRecursion (Fits t) rs × (map many rs ≡ pages)

abbrev pub StandAt : ℕ → List ℕ → List ℕ → Type 0
StandAt t pages sectors = (m : ℕ) → ((rs : List Rec) × InLog t m pages rs) × ((rs : List Rec) → InLog t m pages rs → map (λ r. r.place) rs ≡ sectors)

abbrev pub BeginsWith : ℕ → Type 0
BeginsWith n = (P T N : ℕ) (X : Images) (σ : Disk) → Formatted P T N X σ
    → ((s : ℕ) × (ws : List Write) × Plan P T N σ X s ws)
    × ((Y : Images) (s : ℕ) (ws : List Write) (τ : Disk) → Plan P T N σ Y s ws → Through ws σ τ → Up P T N Y Zero n [] τ)

abbrev pub NoneAt : List ℕ → ℕ → Type 0
NoneAt lost s = (P T m : ℕ) (k : Third) (σ : Disk) → AllByRecursion (λ u. σ u ≡ unreadable) lost → Absent P T σ k s m

abbrev pub holds : Case → Type 0
holds (data-sectors lengths sectors) = map data_sectors lengths ≡ sectors
holds (places p t a b s) = (first_homes t ≡ a) × (second_homes p t ≡ b) × (data_start p t ≡ s)
holds (record-fits p sectors t n) = (record_of p ≡ sectors) × (record_of p < t) × (good_numbers p t n ≡ true) × (good_numbers p (t - 1) n ≡ false)
holds (in-order first second) = before (filled first ++ two_bytes 1) (filled second ++ two_bytes 1) ≡ true
holds (splits held new first second) = leaves (put_in (λ k. k) nat_lt 4 new (node 0 1 held ∷ [])) ≡ first ∷ second ∷ []
holds (stand-at t pages sectors) = StandAt t pages sectors
holds (begins-with number) = BeginsWith number
holds (none-at lost sector) = NoneAt lost sector

abbrev pub table : List Case
table =
    data-sectors (0 ∷ 1 ∷ 512 ∷ 513 ∷ []) (0 ∷ 1 ∷ 1 ∷ 2 ∷ [])
    ∷ places 4 14 50 55 60
    ∷ record-fits 4 13 14 120
    ∷ in-order (codes "R10") (codes "R5")
    ∷ splits (1 ∷ 2 ∷ 3 ∷ 4 ∷ 5 ∷ 6 ∷ 7 ∷ 9 ∷ 10 ∷ 11 ∷ 12 ∷ 13 ∷ 14 ∷ 15 ∷ 16 ∷ []) 8 (1 ∷ 2 ∷ 3 ∷ 4 ∷ 5 ∷ 6 ∷ 7 ∷ 8 ∷ []) (9 ∷ 10 ∷ 11 ∷ 12 ∷ 13 ∷ 14 ∷ 15 ∷ 16 ∷ [])
    ∷ stand-at 14 (1 ∷ 1 ∷ []) (8 ∷ 22 ∷ [])
    ∷ begins-with 2
    ∷ none-at (8 ∷ 10 ∷ []) 8
    ∷ []

abbrev pub all_hold : List Case → Type 0
all_hold cases = AllByRecursion holds cases
