-- Fields and then zeros: how a sector of that shape is written, tested and told apart.
--     padded-front                         a sector whose end is zeros is its front, padded
--     padded-more                          more fields behind those of a padded sector
--     gets, padded-gets                    a padded sector by its first bytes, each by itself
--     zeros-folded, rest-tested            a look at each byte, and at the bytes from a place on, is the test of zeros
--     rest-zeros                           the test of the bytes from a place on, as many as there are
use Rattle.std.proofs.Common.{◌≡◌, ℕ, zero, suc, ◌+◌, ◌-◌, ◌<◌, ◌≤◌, Bool, true, ◌&&◌, ◌==◌, List, [], ◌∷◌, ◌++◌, length, get_or, take, drop, replicate, sym, refl, ap, ◌∙◌, ap₂, add-one, arith}
use Rattle.std.specs.List.{fold}
use Rattle.std.proofs.Math.Bool.{and_assoc, and-true}
use Rattle.std.proofs.lemmas.List.{drop_more, take_all, take-append-drop, take_at, length-drop, length-take, length-append, append_assoc, drop_at, drop-replicate}
use borrow.Rule.Slice.PartMut.{put_mid}
use Rattle.names.specs.Names.{zeros}
use Rattle.names.proofs.Texts.{all-zeros}
use Rattle.layout.specs.Padded.{padded}

pub padded-front : (k : ℕ) (xs : List ℕ) → length xs ≡ 512 → k ≤ 512 → zeros (drop k xs) ≡ true → xs ≡ padded (take k xs)
unfolding padded
padded-front k xs long within clear =
    let rest = all-zeros (drop k xs) clear in
    let many : length (drop k xs) ≡ 512 - length (take k xs) = simp (length-drop, length-take) (omega arith) in
    sym (take-append-drop k xs) ∙ ap (λ l. take k xs ++ l) (rest ∙ ap (λ n. replicate n 0) many)

-- k bytes of s from place i on, each by itself.
abbrev pub gets : ℕ → ℕ → List ℕ → List ℕ
gets zero i s = []
gets (suc k) i s = get_or s i 0 ∷ gets k (suc i) s

pub gets-take : (k i : ℕ) (s : List ℕ) → i + k ≤ length s → take k (drop i s) ≡ gets k i s
gets-take zero i s h = refl
gets-take (suc k) i s h =
    let lt : i < length s = omega arith in
    ap (take (suc k)) (drop_more s i 0 lt) ∙ ap (λ l. get_or s i 0 ∷ l) (ap (λ n. take k (drop n s)) (add-one i) ∙ gets-take k (suc i) s (omega arith))

-- A sector that ends in zeros is its first k bytes, padded.
pub padded-gets : (k : ℕ) (s : List ℕ) → length s ≡ 512 → k ≤ 512 → zeros (drop k s) ≡ true → s ≡ padded (gets k 0 s)
padded-gets k s long within clear = padded-front k s long within clear ∙ ap padded (gets-take k 0 s (omega arith))

-- Fields put right behind those that a padded sector has.
pub padded-more : (fields more : List ℕ) (a k : ℕ) → length fields ≡ a → length more ≡ k → a + k ≤ 512 → put_mid a k (padded fields) more ≡ padded (fields ++ more)
unfolding padded
padded-more fields more a k la lk within =
    let rest : drop k (drop a (fields ++ replicate (512 - length fields) 0)) ≡ replicate (512 - length (fields ++ more)) 0 =
    ap (drop k) (drop_at fields (replicate (512 - length fields) 0) a la) ∙ drop-replicate k (512 - length fields) 0
    ∙ ap (λ n. replicate n 0) (simp length-append (omega arith)) in
    ap₂ (λ x y. x ++ (more ++ y)) (take_at fields (replicate (512 - length fields) 0) a la) rest ∙ sym (append_assoc fields more (replicate (512 - length (fields ++ more)) 0))

zeros-from : (b : Bool) (xs : List ℕ) → fold (λ all x. all && (x == 0)) b xs ≡ (b && zeros xs)
zeros-from b [] = sym (and-true b)
zeros-from b (x ∷ xs) = zeros-from (b && (x == 0)) xs ∙ and_assoc b (x == 0) (zeros xs)

pub zeros-folded : (xs : List ℕ) (b : Bool) → b ≡ fold (λ all x. all && (x == 0)) true xs → b ≡ zeros xs
zeros-folded xs b e = e ∙ zeros-from true xs

pub rest-zeros : (s : List ℕ) (k : ℕ) {b : Bool} → b ≡ zeros (take (length s - k) (drop k s)) → zeros (drop k s) ≡ b
rest-zeros s k e = sym (e ∙ ap zeros (take_all (length s - k) (drop k s) (omega (arith, length-drop k s))))

pub rest-tested : (s : List ℕ) (k : ℕ) (b : Bool) → b ≡ zeros (take (length s - k) (drop k s)) → b ≡ zeros (drop k s)
rest-tested s k b e = sym (rest-zeros s k e)

pub ruleset tested = (zeros-folded, rest-tested)
