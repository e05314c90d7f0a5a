-- Pages that have a record, and sectors that are lost.
--     some_third       whether there is a third
--     newest-held      a page has a newest record just where it has a third
--     lost-written, kept-unwritten      what is written of a sector that is lost, and of one that is not
use Rattle.std.proofs.Common.{◌≡◌, ℕ, Bool, true, false, List, [], ◌∷◌, Some, None, Option, refl}
use Rattle.disk.specs.Sectors.{Sector, unreadable, holds}
use Rattle.geometry.specs.declared.third.Third.{Third}
use Rattle.thirds.specs.Cuts.{write}
use Rattle.thirds.specs.Homes.{or_else, image_in, newest, held_by, holder, has, lost}
use Rattle.thirds.specs.Records.{Rec}
use Rattle.recovering.specs.HomeReads.{is_lost}

abbrev pub some_third : Option Third → Bool
some_third (Some k) = true
some_third None = false

held-step : (n o : Option (List ℕ)) (h : Option Third) (k : Third) → has n ≡ some_third h → has (or_else n o) ≡ some_third (held_by h o k)
held-step (Some x) o (Some j) k e = refl
held-step (Some x) o None k e = cc
held-step None o (Some j) k e = cc
held-step None (Some y) None k e = refl
held-step None None None k e = refl

pub newest-held : (rs : List Rec) (i : ℕ) → has (newest rs i) ≡ some_third (holder rs i)
newest-held [] i = refl
newest-held (r ∷ rs) i = held-step (newest rs i) (image_in r.pages i) (holder rs i) r.third (newest-held rs i)

pub lost-written : (x : Sector) (s : ℕ) (bytes : List ℕ) → is_lost x ≡ true → lost x s bytes ≡ write s bytes ∷ []
lost-written unreadable s bytes e = refl
lost-written (holds y) s bytes e = cc

pub kept-unwritten : (x : Sector) (s : ℕ) (bytes : List ℕ) → is_lost x ≡ false → lost x s bytes ≡ []
kept-unwritten unreadable s bytes e = cc
kept-unwritten (holds y) s bytes e = refl
