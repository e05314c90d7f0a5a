-- The places of a page's records: i places of w bytes each, from byte 32 on.
--     times_more       one place more
--     place-fits       the place of a record lies within the page
--     written-more     one more record written
--     values-more      one more record read
use Rattle.std.proofs.Common.{◌≡◌, ℕ, zero, suc, ◌+◌, ◌*◌, ◌<◌, ◌≤◌, List, [], ◌∷◌, ◌++◌, length, get_or, take, drop, sym, refl, ap, ◌∙◌, mul-add, mul-suc, mul-one, mul-le-mul_left, arith}
use borrow.Rule.Slice.PartMut.{put_mid}
use lib.Seq.{paste}
use Rattle.std.specs.List.{flat_map}
use Rattle.std.proofs.lemmas.List.{take_more, flat_map_more, length-append, drop-drop}
use Rattle.std.proofs.lemmas.Slice.{put_mid-paste}
use Rattle.std.proofs.lemmas.List.Edits.{paste-paste}
use Rattle.pages.specs.Bytes.{Room, values}

-- bytes put over a page from byte 32 on
abbrev pub put : List ℕ → List ℕ → List ℕ
put page bytes = paste page 32 bytes (length bytes)

pub times_more : (w i : ℕ) → w * (i + 1) ≡ w * i + w
times_more w i = mul-add w i 1 ∙ ap (λ x. w * i + x) (mul-one w)

pub place-fits : (w v i n : ℕ) → w ≡ v → i < n → Room v n → 32 + w * i + w ≤ 512
place-fits w v i n e l h = omega (arith, times_more w i, mul-le-mul_left {m = i + 1} {n = n} w (omega arith), ap (λ x. x * n) e)

pub written-more : {R : Type 0} (bytes : R → List ℕ) (rs : List R) (d page b : List ℕ) (i w k : ℕ) (x : R) → i < length rs → w ≡ k → length b ≡ w → 32 ≤ length d
    → page ≡ put d (flat_map bytes (take i rs)) → length (flat_map bytes (take i rs)) ≡ w * i → b ≡ bytes (get_or rs i x)
    → (put_mid (32 + w * i) k page b ≡ put d (flat_map bytes (take (i + 1) rs))) × (length (flat_map bytes (take (i + 1) rs)) ≡ w * (i + 1))
written-more bytes rs d page b i w k x l e n m p q f =
    let js = flat_map bytes (take i rs) in
    let s : flat_map bytes (take (i + 1) rs) ≡ js ++ b = ap (flat_map bytes) (take_more rs i x l) ∙ sym (flat_map_more bytes [] (take i rs) (get_or rs i x)) ∙ ap (λ y. js ++ y) (sym f) in (
      put_mid-paste (32 + w * i) k page b b (length b) refl (omega arith) refl
          ∙ ap (λ y. paste y (32 + w * i) b (length b)) p ∙ ap (λ y. paste (put d js) (32 + y) b (length b)) (sym q)
          ∙ paste-paste d 32 js b (length js) (length b) refl refl m ∙ ap (paste d 32 (js ++ b)) (sym (length-append js b)) ∙ ap (put d) (sym s),
      ap length s ∙ length-append js b ∙ omega (arith, q, times_more w i),
    )

pub values-more : {X : Type 0} (f : List ℕ → X) (w n : ℕ) (bs : List ℕ) → values f w (n + 1) bs ≡ values f w n bs ++ f (take w (drop (w * n) bs)) ∷ []
unfolding values
values-more f w zero bs = ap (λ k. f (take w (drop k bs)) ∷ []) {x = 0} {y = w * 0} (omega arith)
values-more f w (suc n) bs =
    let e : suc n + 1 ≡ suc (n + 1) = omega arith in
    let m : w + w * n ≡ w * suc n = omega (arith, mul-suc w n) in
    ap (λ k. values f w k bs) e ∙ ap (λ xs. f (take w bs) ∷ xs) (values-more f w n (drop w bs) ∙ ap (λ d. values f w n (drop w bs) ++ f (take w d) ∷ []) (drop-drop (w * n) w bs ∙ ap (λ k. drop k bs) m))
