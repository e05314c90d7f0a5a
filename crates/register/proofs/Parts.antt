-- A list in two parts with an element between them, seen through a function, by the place of that element.
--     at-part          the element stands there
--     put-part         one more put in after it
--     without-part     the list without it
use Rattle.std.proofs.Common.{◌≡◌, suc, List, [], ◌∷◌, ◌++◌, map, length, get_or, refl, ap}
use Rattle.rows.specs.Lists.{put_at, without}

module _ {X Y : Type 0} (f : X → Y) (x : X) (right : List X) where
  pub at-part : (left : List X) (d : Y) → get_or (map f (left ++ x ∷ right)) (length left) d ≡ f x
  at-part [] d = refl
  at-part (l ∷ left) d = at-part left d

  pub put-part : (left : List X) (y : X) → put_at (map f (left ++ x ∷ right)) (suc (length left)) (f y) ≡ map f (left ++ x ∷ y ∷ right)
  put-part [] y = refl
  put-part (l ∷ left) y = ap (λ t. f l ∷ t) (put-part left y)

  pub without-part : (left : List X) → without (map f (left ++ x ∷ right)) (length left) ≡ map f (left ++ right)
  without-part [] = refl
  without-part (l ∷ left) = ap (λ t. f l ∷ t) (without-part left)
