-- The pages of a volume that was just formatted.
--     fresh_page       page 0 is the root with one item, page 1 an empty leaf, every other page zeros
--     fresh_from, fresh_pages      n of them from the page p on, and the first P
--     fresh_writes     writing the n pages from p on
use Rattle.std.specs.Prelude.{ℕ, zero, suc, ◌+◌, List, [], ◌∷◌, replicate}
use Rattle.pages.specs.Writes.{PageWrite}
use Rattle.register.specs.Images.{zero_key, item, leaf_page, root_page, write}

unfoldable pub fresh_page : ℕ → List ℕ
fresh_page zero = root_page (item zero_key 1 ∷ [])
fresh_page (suc zero) = leaf_page []
fresh_page (suc (suc page)) = replicate 512 0

unfoldable pub fresh_from : ℕ → ℕ → List (List ℕ)
fresh_from p zero = []
fresh_from p (suc n) = fresh_page p ∷ fresh_from (p + 1) n

abbrev pub fresh_pages : ℕ → List (List ℕ)
fresh_pages P = fresh_from 0 P

unfoldable pub fresh_writes : ℕ → ℕ → List PageWrite
fresh_writes p zero = []
fresh_writes p (suc n) = write p (fresh_page p) ∷ fresh_writes (p + 1) n
