-- The changed pages of a table of frames: which numbers and images they have.
--     pages-rise          their numbers rise from the first frame's on, and are below the number behind the last frame's
--     pages-few           there are no more of them than frames
--     own_image           the image now of a frame that changed, or none
--     pages-image         the image that they have of a page is its frame's own
--     pages-calm          none of their images is a head or an end if none of the table's is
--     pages-some          there is one if a frame changed
--     none-changed        if no frame changed, then each did not
use Rattle.std.proofs.Common.{◌≡◌, ℕ, zero, suc, ◌+◌, ◌<◌, ◌≤◌, true, false, cond, ◌||◌, eqb, List, [], ◌∷◌, length, get_or, Some, None, Option, sym, refl, ap, ◌∙◌, true≢false, arith}
use Rattle.std.specs.List.{AllByRecursion}
use Rattle.std.proofs.lemmas.Bool.{cond_both, cond-true, cond-false, eq-eqb, ne_eqb, or_parts}
use Rattle.frames.specs.Frames.{any_changed, changed_from, changed_pages, none_held, now_of}
use Rattle.frames.specs.declared.frame.Frame.{Frame}
use Rattle.thirds.specs.Words.{Calm, Rise, word_of}
use Rattle.thirds.specs.Records.{numbers}
use Rattle.thirds.specs.Homes.{image_in}
use Rattle.thirds.proofs.Words.{few}
use Rattle.thirds.proofs.RecordWords.{length-numbers}

rise-from : (P low i : ℕ) (fs : List Frame) → low ≤ i → i + length fs ≤ P → Rise low P (numbers (changed_from i fs))
unfolding changed_from
rise-from P low i [] l h = tt
rise-from P low i (f ∷ fs) l h =
    cond_both f.changed ((i, f.now) ∷ changed_from (i + 1) fs) (changed_from (i + 1) fs) (λ ps. Rise low P (numbers ps))
    (λ e. (l, omega arith, rise-from P (i + 1) (i + 1) fs (omega arith) (omega arith)))
    (λ e. rise-from P low (i + 1) fs (omega arith) (omega arith))

pub pages-rise : (P : ℕ) (fs : List Frame) → length fs ≡ P → Rise 0 P (numbers (changed_pages fs))
pages-rise P fs e = rise-from P 0 0 fs (omega arith) (omega arith)

pub pages-few : (P : ℕ) (fs : List Frame) → length fs ≡ P → length (changed_pages fs) ≤ P
pages-few P fs e = omega (arith, few 0 P (numbers (changed_pages fs)) (omega arith) (pages-rise P fs e), length-numbers (changed_pages fs))

abbrev pub own_image : Frame → Option (List ℕ)
own_image f = cond f.changed (Some f.now) None

-- a page before the table has no image in it
image-before : (i j : ℕ) (fs : List Frame) → j < i → image_in (changed_from i fs) j ≡ None
unfolding changed_from
image-before i j [] l = refl
image-before i j (f ∷ fs) l =
    let rest = image-before (i + 1) j fs (omega arith) in
    cond_both f.changed ((i, f.now) ∷ changed_from (i + 1) fs) (changed_from (i + 1) fs) (λ ps. image_in ps j ≡ None)
    (λ e. cond-false (eqb j i) (Some f.now) (image_in (changed_from (i + 1) fs) j) (ne_eqb j i (λ q. omega arith)) ∙ rest)
    (λ e. rest)

image-from : (i k j : ℕ) (fs : List Frame) → j ≡ i + k → image_in (changed_from i fs) j ≡ own_image (get_or fs k none_held)
unfolding changed_from
image-from i k j [] q = refl
image-from i zero j (f ∷ fs) q =
    cond_both f.changed ((i, f.now) ∷ changed_from (i + 1) fs) (changed_from (i + 1) fs) (λ ps. image_in ps j ≡ own_image f)
    (λ e. cond-true (eqb j i) (Some f.now) (image_in (changed_from (i + 1) fs) j) (eq-eqb j i (omega arith)) ∙ sym (cond-true f.changed (Some f.now) None e))
    (λ e. image-before (i + 1) j fs (omega arith) ∙ sym (cond-false f.changed (Some f.now) None e))
image-from i (suc k) j (f ∷ fs) q =
    let rest = image-from (i + 1) k j fs (omega arith) in
    cond_both f.changed ((i, f.now) ∷ changed_from (i + 1) fs) (changed_from (i + 1) fs) (λ ps. image_in ps j ≡ own_image (get_or fs k none_held))
    (λ e. cond-false (eqb j i) (Some f.now) (image_in (changed_from (i + 1) fs) j) (ne_eqb j i (λ p. omega arith)) ∙ rest)
    (λ e. rest)

pub pages-image : (fs : List Frame) (i : ℕ) → image_in (changed_pages fs) i ≡ own_image (get_or fs i none_held)
pages-image fs i = image-from 0 i i fs (omega arith)

calm-from : (P i : ℕ) (fs : List Frame) → ((k : ℕ) → k < length fs → Calm (word_of P (now_of fs k))) → AllByRecursion (λ p. Calm (word_of P p.1)) (changed_from i fs)
unfolding changed_from
calm-from P i [] c = tt
calm-from P i (f ∷ fs) c =
    let rest = calm-from P (i + 1) fs (λ k l. c (suc k) (omega arith)) in
    cond_both f.changed ((i, f.now) ∷ changed_from (i + 1) fs) (changed_from (i + 1) fs) (λ ps. AllByRecursion (λ p. Calm (word_of P p.1)) ps) (λ e. (c 0 (omega arith), rest)) (λ e. rest)

pub pages-calm : (P : ℕ) (fs : List Frame) → ((k : ℕ) → k < length fs → Calm (word_of P (now_of fs k))) → AllByRecursion (λ p. Calm (word_of P p.1)) (changed_pages fs)
pages-calm P fs c = calm-from P 0 fs c

some-from : (i : ℕ) (fs : List Frame) → any_changed fs ≡ true → 0 < length (changed_from i fs)
unfolding changed_from
some-from i [] e = absurd (true≢false (sym e))
some-from i (f ∷ fs) e =
    cond_both f.changed ((i, f.now) ∷ changed_from (i + 1) fs) (changed_from (i + 1) fs) (λ ps. 0 < length ps)
    (λ y. omega arith)
    (λ n. some-from (i + 1) fs (sym (ap (λ b. b || any_changed fs) n) ∙ e))

pub pages-some : (fs : List Frame) → any_changed fs ≡ true → 0 < length (changed_pages fs)
pages-some fs e = some-from 0 fs e

pub none-changed : (fs : List Frame) (i : ℕ) → any_changed fs ≡ false → (get_or fs i none_held).changed ≡ false
none-changed [] i e = refl
none-changed (f ∷ fs) zero e = (or_parts f.changed (any_changed fs) e).0
none-changed (f ∷ fs) (suc i) e = none-changed fs i (or_parts f.changed (any_changed fs) e).1
