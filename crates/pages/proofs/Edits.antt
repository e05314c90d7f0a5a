-- A list with one element changed, and writes to a table against the same writes to its images.
--     edit-set         by the element that stands there
--     map-edit         seen through a function that gives the new image
--     map-wrote        the images after writes to a table
use Rattle.std.proofs.Common.{◌≡◌, ℕ, zero, suc, ◌<◌, List, [], ◌∷◌, map, length, get_or, set, refl, ap, ◌∙◌, arith}
use Rattle.pages.specs.Writes.{edit, PageWrite, wrote, imaged}

pub edit-set : {X : Type 0} (f : X → X) (k : ℕ) (xs : List X) (x : X) → k < length xs → x ≡ get_or xs k x → set xs k (f x) ≡ edit f k xs
unfolding edit
edit-set f k [] x l e = refl
edit-set f zero (y ∷ ys) x l e = ap (λ z. f z ∷ ys) e
edit-set f (suc k) (y ∷ ys) x l e = ap (λ zs. y ∷ zs) (edit-set f k ys x (omega arith) e)

pub map-edit : {X : Type 0} (image : X → List ℕ) (f : X → X) (b : List ℕ) → ((x : X) → image (f x) ≡ b) → (k : ℕ) (xs : List X) → map image (edit f k xs) ≡ set (map image xs) k b
unfolding edit
map-edit image f b h k [] = refl
map-edit image f b h zero (x ∷ xs) = ap (λ y. y ∷ map image xs) (h x)
map-edit image f b h (suc k) (x ∷ xs) = ap (λ ys. image x ∷ ys) (map-edit image f b h k xs)

pub map-wrote : {X : Type 0} (image : X → List ℕ) (written : X → List ℕ → X) → ((x : X) (b : List ℕ) → image (written x b) ≡ b) → (ws : List PageWrite) (pages : List X) → map image (wrote written ws pages) ≡ imaged ws (map image pages)
unfolding wrote imaged
map-wrote image written h [] pages = refl
map-wrote image written h (w ∷ ws) pages =
    map-wrote image written h ws (edit (λ p. written p w.image) w.page pages)
    ∙ ap (imaged ws) (map-edit image (λ p. written p w.image) w.image (λ x. h x w.image) w.page pages)
