-- The changed pages of a table, and the head of their record, one frame at a time.
--     changed-append     the changed pages of frames one after the other
--     changed-more       those of the first frames of a table, with one frame more
--     changed-counted    how many there are
--     numbers-append     the numbers of pages one after the other
--     length-numbers     there are as many numbers as pages
--     changed-few        there are at most as many changed pages as frames
--     numbers-few        the first frames have at most as many as there are of them
--     head-start         the head of no frames
--     head-more          the head with one more frame, which changed
--     head-rest          the head with one more frame, which did not
use Rattle.std.proofs.Common.{◌≡◌, ℕ, suc, ◌+◌, ◌-◌, ◌<◌, ◌≤◌, Bool, true, false, cond, List, [], ◌∷◌, ◌++◌, length, get_or, take, set, replicate, sym, refl, ap, ◌∙◌, add-zero, arith}
use Rattle.std.specs.List.{count_by, filter}
use Rattle.std.proofs.lemmas.List.{take_more, length-take, append-nil, append_assoc, set_at, length_push}
use Rattle.std.proofs.lemmas.List.Sums.{length-filter}
use Rattle.frames.specs.Frames.{changed_from, changed_pages, head_of, none_held}
use Rattle.frames.specs.declared.frame.Frame.{Frame}
use Rattle.layout.specs.declared.head.RecordHead.{RecordHead}
use Rattle.thirds.specs.Records.{Page, numbers}

-- A page before the same pages, if it changed.
before-both : (b : Bool) (p : Page) (xs ys zs : List Page) → xs ≡ ys ++ zs → cond b (p ∷ xs) xs ≡ cond b (p ∷ ys) ys ++ zs
before-both true p xs ys zs h = ap (λ l. p ∷ l) h
before-both false p xs ys zs h = h

pub changed-append : (i : ℕ) (fs gs : List Frame) → changed_from i (fs ++ gs) ≡ changed_from i fs ++ changed_from (i + length fs) gs
unfolding changed_from
changed-append i [] gs = rw add-zero refl
changed-append i (f ∷ fs) gs =
    let place : i + 1 + length fs ≡ i + suc (length fs) = omega arith in
    let rest = changed-append (i + 1) fs gs in
    before-both f.changed (i, f.now) _ _ _ (rw place at rest)

-- The changed pages among one frame.
changed-one : (i : ℕ) (f : Frame) → changed_from i (f ∷ []) ≡ cond f.changed ((i, f.now) ∷ []) []
unfolding changed_from
changed-one i f = refl

pub changed-more : (fs : List Frame) (i : ℕ) → i < length fs
    → changed_pages (take (i + 1) fs) ≡ changed_pages (take i fs) ++ cond (get_or fs i none_held).changed ((i, (get_or fs i none_held).now) ∷ []) []
changed-more fs i h =
    let f = get_or fs i none_held in
    let place : 0 + length (take i fs) ≡ i = omega (arith, length-take i fs) in
    let more = ap changed_pages (take_more fs i none_held h) ∙ changed-append 0 (take i fs) (f ∷ []) in
    (rw place at more) ∙ ap (λ ps. changed_pages (take i fs) ++ ps) (changed-one i f)

kept-more : (b : Bool) (f : Frame) (fs : List Frame) (p : Page) (ps : List Page) → length fs ≡ length ps → length (cond b (f ∷ fs) fs) ≡ length (cond b (p ∷ ps) ps)
kept-more true f fs p ps h = ap suc h
kept-more false f fs p ps h = h

-- As many frames are kept by a filter.
kept : (i : ℕ) (fs : List Frame) → length (filter (λ f. f.changed) fs) ≡ length (changed_from i fs)
unfolding changed_from
kept i [] = refl
kept i (f ∷ fs) = kept-more f.changed f (filter (λ f. f.changed) fs) (i, f.now) (changed_from (i + 1) fs) (kept (i + 1) fs)

pub changed-counted : (fs : List Frame) → count_by (λ f. f.changed) fs ≡ length (changed_pages fs)
changed-counted fs = sym (length-filter (λ (f : Frame). f.changed) fs) ∙ kept 0 fs

pub numbers-append : (ps qs : List Page) → numbers (ps ++ qs) ≡ numbers ps ++ numbers qs
numbers-append [] qs = refl
numbers-append (p ∷ ps) qs = ap (λ l. p.0 ∷ l) (numbers-append ps qs)

pub length-numbers : (ps : List Page) → length (numbers ps) ≡ length ps
length-numbers [] = refl
length-numbers (p ∷ ps) = ap suc (length-numbers ps)

at-most-more : (b : Bool) (p : Page) (ps : List Page) (n : ℕ) → length ps ≤ n → length (cond b (p ∷ ps) ps) ≤ suc n
at-most-more true p ps n h = omega arith
at-most-more false p ps n h = omega arith

pub changed-few : (i : ℕ) (fs : List Frame) → length (changed_from i fs) ≤ length fs
unfolding changed_from
changed-few i [] = omega arith
changed-few i (g ∷ fs) = at-most-more g.changed (i, g.now) (changed_from (i + 1) fs) (length fs) (changed-few (i + 1) fs)

-- The first frames have at most as many changed pages as there are of them.
pub numbers-few : (fs : List Frame) (i : ℕ) → i < length fs → length (numbers (changed_pages (take i fs))) ≤ i
numbers-few fs i h = omega (arith, length-numbers (changed_pages (take i fs)), changed-few 0 (take i fs), length-take i fs)

-- The head of a record of pages with these numbers.
abbrev head_with : ℕ → List ℕ → RecordHead
head_with group ns = record { group = group; count = length ns; pages = ns ++ replicate (21 - length ns) 0 }

pub head-start : (group : ℕ) → record { group = group; count = 0; pages = replicate 21 0 } ≡ head_of group []
unfolding changed_from
head-start group = refl

-- A number put behind others, into zeros that fill a list of 21.
put-behind : (ns : List ℕ) (x : ℕ) → length ns < 21 → set (ns ++ replicate (21 - length ns) 0) (length ns) x ≡ (ns ++ x ∷ []) ++ replicate (21 - length (ns ++ x ∷ [])) 0
put-behind ns x h =
    let left : 21 - length ns ≡ suc (20 - length ns) = omega arith in
    let then : 21 - length (ns ++ x ∷ []) ≡ 20 - length ns = omega (arith, length_push ns x) in
    rw (left, then, append_assoc) (set_at ns 0 (replicate (20 - length ns) 0) x (length ns) refl)

head-push : (group : ℕ) (ns : List ℕ) (x : ℕ) → length ns < 21
    → record { group = group; count = length ns + 1; pages = set (ns ++ replicate (21 - length ns) 0) (length ns) x } ≡ head_with group (ns ++ x ∷ [])
head-push group ns x h = rw (put-behind ns x h, ← length_push ns x) refl

pub head-more : (group : ℕ) (fs : List Frame) (i : ℕ) → i < length fs → length fs ≤ 21 → (get_or fs i none_held).changed ≡ true
    → record { group = group; count = (head_of group (take i fs)).count + 1; pages = set (head_of group (take i fs)).pages (head_of group (take i fs)).count i } ≡ head_of group (take (i + 1) fs)
head-more group fs i h few is =
    let more = ap numbers (changed-more fs i h) ∙ numbers-append (changed_pages (take i fs)) _ in
    let ns = numbers (changed_pages (take i fs)) in
    let short : length ns < 21 = omega (arith, numbers-few fs i h) in
    head-push group ns i short ∙ ap (head_with group) (sym (rw is at more))

pub head-rest : (group : ℕ) (fs : List Frame) (i : ℕ) → i < length fs → (get_or fs i none_held).changed ≡ false → head_of group (take i fs) ≡ head_of group (take (i + 1) fs)
head-rest group fs i h is =
    let more = changed-more fs i h in
    ap (λ ps. head_with group (numbers ps)) (sym (rw (is, append-nil) at more))
