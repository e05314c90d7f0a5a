-- What writes leave of the images.
--     length-imaged     no image is lost
--     page-kept         a page that is not written
--     page-written      a page that is written, and no more after that
use Rattle.std.proofs.Common.{◌≡◌, ℕ, ◌<◌, ◌≢◌, List, [], ◌∷◌, ◌++◌, length, set, refl, ◌∙◌, arith}
use Rattle.std.specs.List.{AllByRecursion}
use Rattle.std.proofs.lemmas.List.{length-set, get_or-set_same, get_or-set_other}
use Rattle.pages.specs.Writes.{PageWrite, imaged}
use Rattle.register.specs.Images.{page_at}

pub length-imaged : (ws : List PageWrite) (images : List (List ℕ)) → length (imaged ws images) ≡ length images
unfolding imaged
length-imaged [] images = refl
length-imaged (w ∷ ws) images = length-imaged ws (set images w.page w.image) ∙ length-set images w.page w.image

pub page-kept : (ws : List PageWrite) (images : List (List ℕ)) (p : ℕ) → AllByRecursion (λ w. p ≢ w.page) ws → page_at (imaged ws images) p ≡ page_at images p
unfolding imaged
page-kept [] images p a = refl
page-kept (w ∷ ws) images p a = page-kept ws (set images w.page w.image) p a.1 ∙ get_or-set_other images w.page p w.image [] a.0

pub page-written : (vs : List PageWrite) (w : PageWrite) (ws : List PageWrite) (images : List (List ℕ)) → w.page < length images → AllByRecursion (λ v. w.page ≢ v.page) ws → page_at (imaged (vs ++ w ∷ ws) images) w.page ≡ w.image
unfolding imaged
page-written [] w ws images l a = page-kept ws (set images w.page w.image) w.page a ∙ get_or-set_same images w.page w.image [] l
page-written (v ∷ vs) w ws images l a = page-written vs w ws (set images v.page v.image) (omega (arith, length-set images v.page v.image)) a
