-- The homes of the pages, beside the log.
--     or_else         an image, or else another
--     image_in        the image of a page in a record's pages
--     newest          its image in the newest record that has it
--     Fair            a home that can be read has the page's image
--     Pictured        the page's newest record has its image; a page with no record has it in each home that can be read
--     Side            all homes of one side can be read
--     lost            a write to a sector that cannot be read
--     mend            writes to the homes of one side that cannot be read, by rising sector
--     both_homes      writes to both homes of each page that passes a test, by rising number
--     has             whether there is an image
--     redo            writes to both homes of each page that has a record
--     ReadImage       the image that recovery reads of a page: its newest record's, else its first home's, else its second's
--     held_by         the third of a later record that has a page, or else of this one
--     holder          the third of the newest record that has a page
--     same_third      whether two thirds are one
--     in_third        whether that is this third
--     carry           writes to both homes of each page whose newest record is in a third
use Rattle.std.specs.Prelude.{◌≡◌, ℕ, zero, suc, ◌+◌, ◌<◌, Bool, true, false, cond, ◌⊎◌, List, [], ◌∷◌, ◌++◌, Some, None, Option, ◌==◌}
use Rattle.disk.specs.Sectors.{Sector, unreadable, holds}
use Rattle.disk.specs.WriteLists.{Write}
use Rattle.geometry.specs.declared.third.Third.{Third}
use Rattle.geometry.specs.declared.third.Third.TheVariants.{Zero, One, Two}
use Rattle.thirds.specs.Words.{Disk, Images}
use Rattle.thirds.specs.Cuts.{write}
use Rattle.thirds.specs.Records.{Page, Rec}

abbrev pub or_else : Option (List ℕ) → Option (List ℕ) → Option (List ℕ)
or_else (Some x) o = Some x
or_else None o = o

abbrev pub image_in : List Page → ℕ → Option (List ℕ)
image_in [] i = None
image_in (p ∷ ps) i = cond (i == p.0) (Some p.1) (image_in ps i)

abbrev pub newest : List Rec → ℕ → Option (List ℕ)
newest [] i = None
newest (r ∷ rs) i = or_else (newest rs i) (image_in r.pages i)

abbrev pub Fair : List ℕ → Sector → Type 0
Fair x y = (y ≡ unreadable) ⊎ (y ≡ holds x)

abbrev pub Pictured : Option (List ℕ) → Sector → Sector → List ℕ → Type 0
Pictured (Some y) a b x = y ≡ x
Pictured None a b x = Fair x a × Fair x b

abbrev pub Side : ℕ → ℕ → Disk → Type 0
Side P base σ = (i : ℕ) → i < P → σ (base + i) ≡ unreadable → ⊥

abbrev pub lost : Sector → ℕ → List ℕ → List Write
lost unreadable s bytes = write s bytes ∷ []
lost (holds x) s bytes = []

abbrev pub mend : Disk → Images → ℕ → ℕ → List Write
mend σ X base zero = []
mend σ X base (suc n) = mend σ X base n ++ lost (σ (base + n)) (base + n) (X n)

abbrev pub both_homes : (ℕ → Bool) → Images → ℕ → ℕ → ℕ → List Write
both_homes test X a b zero = []
both_homes test X a b (suc n) = both_homes test X a b n ++ cond (test n) (write (a + n) (X n) ∷ write (b + n) (X n) ∷ []) []

abbrev pub has : Option (List ℕ) → Bool
has (Some y) = true
has None = false

abbrev pub redo : List Rec → Images → ℕ → ℕ → ℕ → List Write
redo rs = both_homes (λ i. has (newest rs i))

abbrev pub ReadImage : Option (List ℕ) → Sector → Sector → List ℕ → Type 0
ReadImage (Some y) a b x = x ≡ y
ReadImage None a b x = (a ≡ holds x) ⊎ ((a ≡ unreadable) × (b ≡ holds x))

abbrev pub held_by : Option Third → Option (List ℕ) → Third → Option Third
held_by (Some k) o third = Some k
held_by None (Some x) third = Some third
held_by None None third = None

abbrev pub holder : List Rec → ℕ → Option Third
holder [] i = None
holder (r ∷ rs) i = held_by (holder rs i) (image_in r.pages i) r.third

abbrev pub same_third : Third → Third → Bool
same_third Zero Zero = true
same_third Zero One = false
same_third Zero Two = false
same_third One Zero = false
same_third One One = true
same_third One Two = false
same_third Two Zero = false
same_third Two One = false
same_third Two Two = true

abbrev pub in_third : Third → Option Third → Bool
in_third f None = false
in_third f (Some k) = same_third k f

abbrev pub carry : Third → List Rec → Images → ℕ → ℕ → ℕ → List Write
carry f rs = both_homes (λ i. in_third f (holder rs i))
