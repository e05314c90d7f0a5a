-- A page of records gives its records back.
--     values-back      the bytes of records give the records
--     page-back        and so does the page that they make
use Rattle.std.proofs.Common.{◌≡◌, ℕ, ◌-◌, ◌<◌, ◌≤◌, min, List, [], ◌∷◌, ◌++◌, length, take, drop, replicate, refl, ap, ◌∙◌, arith}
use Rattle.std.specs.List.{flat_map, AllByRecursion}
use Rattle.std.proofs.lemmas.List.{take_at, drop_at, append_assoc}
use Rattle.layout.specs.Padded.{padded}
use Rattle.pages.specs.Bytes.{Room, page_of, records_of, values}

module _ {X : Type 0} (bytes : X → List ℕ) (value : List ℕ → X) (w : ℕ) (fit : X → Type 0) (long : (x : X) → fit x → length (bytes x) ≡ w) (back : (x : X) → fit x → value (bytes x) ≡ x) where
  pub values-back : (xs : List X) (rest : List ℕ) → AllByRecursion fit xs → values value w (length xs) (flat_map bytes xs ++ rest) ≡ xs
  unfolding values
  values-back [] rest f = refl
  values-back (x ∷ xs) rest f =
      let a = append_assoc (bytes x) (flat_map bytes xs) rest in
      let t = ap value (ap (take w) a ∙ take_at (bytes x) (flat_map bytes xs ++ rest) w (long x f.0)) ∙ back x f.0 in
      let d = ap (drop w) a ∙ drop_at (bytes x) (flat_map bytes xs ++ rest) w (long x f.0) in
      ap (λ y. y ∷ values value w (length xs) (drop w ((bytes x ++ flat_map bytes xs) ++ rest))) t
      ∙ ap (λ ys. x ∷ ys) (ap (values value w (length xs)) d ∙ values-back xs rest f.1)

  pub page-back : (letter most : ℕ) (xs : List X) → AllByRecursion fit xs → length xs ≤ most → most < 256 → Room w most → records_of value w most (page_of bytes letter xs) ≡ xs
  unfolding records_of page_of padded
  page-back letter most xs f l m n =
      let rest = flat_map bytes xs ++ replicate (512 - length ((78 ∷ letter ∷ length xs ∷ replicate 29 0) ++ flat_map bytes xs)) 0 in
      let c : min (length xs) most ≡ length xs = omega arith in
      ap (λ k. values value w k rest) c ∙ values-back xs (replicate (512 - length ((78 ∷ letter ∷ length xs ∷ replicate 29 0) ++ flat_map bytes xs)) 0) f
