-- The pages of a fresh volume, written one after another.
--     other-fresh      a page that is neither the root nor the first leaf
--     fresh-more       one page more, whatever is written to it
--     fresh-imaged     the images after all of them
use Rattle.std.proofs.Common.{◌≡◌, ℕ, zero, suc, ◌+◌, ◌-◌, ◌<◌, ◌≤◌, List, [], ◌∷◌, ◌++◌, length, take, set, get_or, replicate, sym, refl, ap, ◌∙◌, append_assoc, append-nil, arith}
use Rattle.std.proofs.lemmas.List.{take_all, take_more_set, length-set}
use Rattle.pages.specs.Writes.{edit, wrote, imaged}
use Rattle.pages.proofs.Edits.{edit-set}
use Rattle.register.specs.Fresh.{fresh_page, fresh_from, fresh_pages, fresh_writes}

pub other-fresh : (p : ℕ) → 2 ≤ p → replicate 512 0 ≡ fresh_page p
unfolding fresh_page
other-fresh zero l = absurd (omega arith)
other-fresh (suc zero) l = absurd (omega arith)
other-fresh (suc (suc p)) l = refl

fresh-step : {X : Type 0} (written : X → List ℕ → X) (p n : ℕ) (pages : List X) → p < n
    → wrote written (fresh_writes p (n - p)) pages ≡ wrote written (fresh_writes (p + 1) (n - (p + 1))) (edit (λ x. written x (fresh_page p)) p pages)
unfolding wrote fresh_writes
fresh-step written p n pages l = let e : n - p ≡ suc (n - (p + 1)) = omega arith in ap (λ m. wrote written (fresh_writes p m) pages) e

pub fresh-more : {X : Type 0} (written : X → List ℕ → X) (p n : ℕ) (pages : List X) (x y : X) (image : List ℕ) (v : List X) → p < n → p < length pages → x ≡ get_or pages p x → image ≡ fresh_page p → y ≡ written x image
    → wrote written (fresh_writes p (n - p)) pages ≡ v → wrote written (fresh_writes (p + 1) (n - (p + 1))) (set pages p y) ≡ v
fresh-more written p n pages x y image v l m at is new e =
    ap (λ y. wrote written (fresh_writes (p + 1) (n - (p + 1))) (set pages p y)) (new ∙ ap (written x) is)
    ∙ ap (wrote written (fresh_writes (p + 1) (n - (p + 1)))) (edit-set (λ y. written y (fresh_page p)) p pages x m at) ∙ sym (fresh-step written p n pages l) ∙ e

pub fresh-end : {X : Type 0} (written : X → List ℕ → X) (p n : ℕ) (pages : List X) → n ≤ p → wrote written (fresh_writes p (n - p)) pages ≡ pages
unfolding wrote fresh_writes
fresh-end written p n pages l = let e : n - p ≡ 0 = omega arith in ap (λ m. wrote written (fresh_writes p m) pages) e

imaged-from : (n p : ℕ) (images : List (List ℕ)) → length images ≡ p + n → imaged (fresh_writes p n) images ≡ take p images ++ fresh_from p n
unfolding imaged fresh_writes fresh_from
imaged-from zero p images l = sym (append-nil (take p images) ∙ take_all p images (omega arith))
imaged-from (suc n) p images l =
    let x = fresh_page p in
    imaged-from n (p + 1) (set images p x) (length-set images p x ∙ omega arith)
    ∙ ap (λ l. l ++ fresh_from (p + 1) n) (take_more_set images p x (omega arith)) ∙ append_assoc (take p images) (x ∷ []) (fresh_from (p + 1) n)

pub fresh-imaged : (P : ℕ) (images : List (List ℕ)) → length images ≡ P → imaged (fresh_writes 0 P) images ≡ fresh_pages P
fresh-imaged P images l = imaged-from P 0 images (omega arith)
