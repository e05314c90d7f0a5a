-- The records that are read from bytes fit their types.
--     are-bytes        a list of numbers below 256, by its places
--     values-each      what holds of each value of so many bytes holds of all
--     records-few      the records of a page are no more than the most
--     few-read         and they fit
use Rattle.std.proofs.Common.{◌≡◌, ℕ, zero, suc, ◌*◌, ◌<◌, ◌≤◌, min, List, [], ◌∷◌, length, get_or, take, drop, refl, ap, mul-suc, mul-le-mul_left, arith}
use Rattle.std.specs.List.{AllByRecursion}
use Rattle.std.proofs.lemmas.List.{length-take, length-drop}
use Rattle.std.proofs.ByRecursion.{All-take, All-drop}
use Rattle.pages.specs.Bytes.{Room, values, records_of, AreBytes}
use Rattle.pages.specs.Decoding.{Few}

pub are-bytes : (bs : List ℕ) → ((i : ℕ) → get_or bs i 0 < 256) → AreBytes bs
are-bytes [] h = tt
are-bytes (b ∷ bs) h = (h 0, are-bytes bs (λ i. h (suc i)))

pub values-each : {X : Type 0} (f : List ℕ → X) (w : ℕ) (P : X → Type 0) → ((bs : List ℕ) → length bs ≡ w → AreBytes bs → P (f bs)) → (n : ℕ) (bs : List ℕ) → w * n ≤ length bs → AreBytes bs → AllByRecursion P (values f w n bs)
unfolding values
values-each f w P h zero bs l a = tt
values-each f w P h (suc n) bs l a =
    let m = mul-suc w n in
    (h (take w bs) (simp length-take (omega arith)) (All-take (λ b. b < 256) w bs a), values-each f w P h n (drop w bs) (simp length-drop (omega arith)) (All-drop (λ b. b < 256) w bs a))

length-values : {X : Type 0} (f : List ℕ → X) (w n : ℕ) (bs : List ℕ) → length (values f w n bs) ≡ n
unfolding values
length-values f w zero bs = refl
length-values f w (suc n) bs = ap suc (length-values f w n (drop w bs))

pub records-few : {X : Type 0} (value : List ℕ → X) (w most : ℕ) (page : List ℕ) → length (records_of value w most page) ≤ most
unfolding records_of
records-few value w most page = omega (arith, length-values value w (min (get_or page 2 0) most) (drop 32 page))

pub few-read : {X : Type 0} (value : List ℕ → X) (w : ℕ) (fit : X → Type 0) → ((bs : List ℕ) → length bs ≡ w → AreBytes bs → fit (value bs))
    → (most : ℕ) (page : List ℕ) → Room w most → length page ≡ 512 → AreBytes page → Few fit most (records_of value w most page)
unfolding records_of
few-read value w fit fits most page room l a =
    let n = min (get_or page 2 0) most in
    (values-each value w fit fits n (drop 32 page) (simp length-drop (omega (arith, mul-le-mul_left {m = n} {n = most} w (omega arith)))) (All-drop (λ b. b < 256) 32 page a), records-few value w most page)
