-- The images of changed pages, written one frame at a time.
--     pages-append       the writes of pages one after the other
--     changed-wrote      a changed frame more
--     count-more         how many changed pages there are then
--     changed-rest       a frame more that did not change
--     changed-stopped    a list that was stopped among its first frames was stopped
use Rattle.std.proofs.Common.{◌≡◌, ℕ, suc, ◌+◌, ◌<◌, true, false, List, [], ◌∷◌, ◌++◌, length, get_or, take, drop, sym, refl, ap, ◌∙◌, add-zero, arith}
use Rattle.std.proofs.lemmas.List.{append-nil, length_push, take-append-drop}
use Rattle.disk.specs.Sectors.{DiskState}
use Rattle.disk.specs.Faults.{Answer}
use Rattle.disk.specs.Rules.{Writes}
use Rattle.disk.specs.WriteLists.{Done, Stopped, Wrote}
use Rattle.disk.specs.declared.faults.Fault.{Fault}
use Rattle.frames.specs.Frames.{changed_from, changed_pages, none_held}
use Rattle.frames.specs.declared.frame.Frame.{Frame}
use Rattle.frames.proofs.Heads.{changed-append, changed-more}
use Rattle.thirds.specs.Cuts.{write}
use Rattle.thirds.specs.Records.{Page, pages_at}
use Rattle.forcing.proofs.Wrote.{wrote-one, stopped-early, wrote-append}

pub pages-append : (u : ℕ) (ps qs : List Page) → pages_at u (ps ++ qs) ≡ pages_at u ps ++ pages_at (u + length ps) qs
pages-append u [] qs = rw add-zero refl
pages-append u (p ∷ ps) qs =
    let place : u + 1 + length ps ≡ u + suc (length ps) = omega arith in
    let rest = pages-append (u + 1) ps qs in
    ap (λ ws. write u p.1 ∷ ws) (rw place at rest)

module _ (fs : List Frame) (i : ℕ) (within : i < length fs) where
  one-more : (get_or fs i none_held).changed ≡ true → changed_pages (take (i + 1) fs) ≡ changed_pages (take i fs) ++ (i, (get_or fs i none_held).now) ∷ []
  one-more is = let more = changed-more fs i within in rw is at more

  pub changed-rest : (get_or fs i none_held).changed ≡ false → changed_pages (take (i + 1) fs) ≡ changed_pages (take i fs)
  changed-rest is = let more = changed-more fs i within in rw (is, append-nil) at more

  pub count-more : (get_or fs i none_held).changed ≡ true → length (changed_pages (take (i + 1) fs)) ≡ length (changed_pages (take i fs)) + 1
  count-more is = ap length (one-more is) ∙ length_push (changed_pages (take i fs)) _

  pub changed-wrote : (u : ℕ) (d m e : DiskState) (r : Answer) → (get_or fs i none_held).changed ≡ true
      → Done (pages_at u (changed_pages (take i fs))) d m
      → Writes (u + length (changed_pages (take i fs))) (get_or fs i none_held).now m r e
      → Wrote (pages_at u (changed_pages (take (i + 1) fs))) d r e
  changed-wrote u d m e r is done wrote =
      let here = changed_pages (take i fs) in
      rw (one-more is, pages-append u here _) (wrote-append (pages_at u here) _ d m e r done (wrote-one _ _ m e r wrote))

pub changed-stopped : (fs : List Frame) (i u : ℕ) (d : DiskState) (x : Fault) (e : DiskState) → Stopped (pages_at u (changed_pages (take i fs))) d x e
    → Stopped (pages_at u (changed_pages fs)) d x e
changed-stopped fs i u d x e h =
    let front = changed_pages (take i fs) in
    let rest = changed_from (0 + length (take i fs)) (drop i fs) in
    let whole = sym (ap changed_pages (take-append-drop i fs)) ∙ changed-append 0 (take i fs) (drop i fs) in
    rw (whole, pages-append u front rest) (stopped-early (pages_at u front) (pages_at (u + length front) rest) d x e h)
