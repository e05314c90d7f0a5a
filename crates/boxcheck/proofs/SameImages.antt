-- What the test of two lists of images has told.
use Rattle.std.proofs.Common.{◌≡◌, ◌≢◌, ℕ, Bool, true, false, eqb, List, refl}
use Rattle.std.specs.Bool.{Decides}
use Rattle.std.specs.Cmp.Lexicographic.{pointwise}
use Rattle.std.proofs.lemmas.Bool.Decides.{Decides-eqb}
use Rattle.std.proofs.lemmas.Slice.Eq.{slice_eq-Decides}

told : (xs ys : List (List ℕ)) (r : Bool) → r ≡ pointwise (pointwise eqb) xs ys → Decides r (xs ≡ ys)
told = slice_eq-Decides (λ a b. slice_eq-Decides Decides-eqb a b (pointwise eqb a b) refl)

pub images-same : (xs ys : List (List ℕ)) → true ≡ pointwise (pointwise eqb) xs ys → xs ≡ ys
images-same xs ys is = (told xs ys true is).0 refl

pub images-differ : (xs ys : List (List ℕ)) → false ≡ pointwise (pointwise eqb) xs ys → xs ≢ ys
images-differ xs ys is same = let absurd : false ≡ true = (told xs ys false is).1 same in cc

pub ruleset images_told = (images-same, images-differ)
