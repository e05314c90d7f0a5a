-- Writes to the pages of a table.
--     edit         a list with one element changed
--     PageWrite    a page's number and the image for it
--     wrote        a table of pages after writes to it, in order; `written` is what a page is once an image was written to it
--     imaged       the same for images alone
use Rattle.std.specs.Prelude.{ℕ, zero, suc, List, [], ◌∷◌, slice_set}

unfoldable pub edit : {X : Type 0} → (X → X) → ℕ → List X → List X
edit f k [] = []
edit f zero (x ∷ xs) = f x ∷ xs
edit f (suc k) (x ∷ xs) = x ∷ edit f k xs

pub record PageWrite : Type 0 where
  pub page : ℕ
  pub image : List ℕ

unfoldable pub wrote : {X : Type 0} → (X → List ℕ → X) → List PageWrite → List X → List X
wrote written [] pages = pages
wrote written (w ∷ ws) pages = wrote written ws (edit (λ p. written p w.image) w.page pages)

unfoldable pub imaged : List PageWrite → List (List ℕ) → List (List ℕ)
imaged [] images = images
imaged (w ∷ ws) images = imaged ws (slice_set images w.page w.image)
