-- What a format leaves is a formatted volume.
--     last-leaves      what the last four writes leave in a sector is what all leave there
--     home-leaves      and so is what the homes and these leave
--     format-leaves    headers, anchors and homes are written, and no head and no end is anywhere
use Rattle.std.proofs.Common.{◌≡◌, ℕ, ◌+◌, ◌*◌, ◌<◌, ◌≤◌, List, [], ◌∷◌, ◌++◌, length, get_or, sym, refl, ap, ◌∙◌, subst, inl, inr, arith}
use Rattle.std.specs.List.{AllByRecursion}
use Rattle.disk.specs.Sectors.{Sector, holds}
use Rattle.disk.specs.WriteLists.{run_of}
use Rattle.geometry.specs.Places.{first_homes, second_homes}
use Rattle.geometry.specs.declared.third.Third.TheVariants.{Zero}
use Rattle.journal.proofs.FormatWrites.{among-format, each-home, format-quiet, home_writes, image-calm, last_ones}
use Rattle.journal.proofs.SameReads.{inside-first, inside-low, inside-second}
use Rattle.journal.proofs.StandsLast.{Gives, Leaves, among-back, among-front, among-run, calm-written, leaves-behind, leaves-given}
use Rattle.journal.proofs.Unseen.{inside-or, unseen}
use Rattle.journal.specs.Formats.{format_writes, zero_run, zeros}
use Rattle.journal.specs.Recoveries.{FormatLeaves}
use Rattle.thirds.proofs.Disks.{system-is}
use Rattle.thirds.specs.Cuts.{write}
use Rattle.thirds.specs.Disks.{Inside, system}
use Rattle.thirds.specs.Words.{Calm, anchor_bytes, header_bytes, on, says}

module _ (T N : ℕ) (images : List (List ℕ)) where
  abbrev P : ℕ
  P = length images

  last-leaves : (u : ℕ) (x : List ℕ) → Leaves u x (last_ones T N images) → Leaves u x (format_writes P T N images)
  last-leaves u x k =
      leaves-behind u x (write 0 zeros ∷ write 2 zeros ∷ []) (zero_run 4 (4 + 3 * T) ++ home_writes T N images)
      (leaves-behind u x (zero_run 4 (4 + 3 * T)) (home_writes T N images)
      (leaves-behind u x (run_of (first_homes T) images) (run_of (second_homes P T) images ++ last_ones T N images)
      (leaves-behind u x (run_of (second_homes P T) images) (last_ones T N images) k)))

  header-zero : Leaves 0 (header_bytes P T N) (format_writes P T N images)
  header-zero = last-leaves 0 (header_bytes P T N)
      (leaves-given 0 (header_bytes P T N) (last_ones T N images) ((λ e. absurd (omega arith)), ((λ e. absurd (omega arith)), ((λ e. refl), ((λ e. refl), tt)))) (inr (inr (inl refl))))

  header-two : Leaves 2 (header_bytes P T N) (format_writes P T N images)
  header-two = last-leaves 2 (header_bytes P T N)
      (leaves-given 2 (header_bytes P T N) (last_ones T N images) ((λ e. absurd (omega arith)), ((λ e. absurd (omega arith)), ((λ e. refl), ((λ e. refl), tt)))) (inr (inr (inr (inl refl)))))

  anchor-four : Leaves 4 (anchor_bytes Zero 1) (format_writes P T N images)
  anchor-four = last-leaves 4 (anchor_bytes Zero 1)
      (leaves-given 4 (anchor_bytes Zero 1) (last_ones T N images) ((λ e. refl), ((λ e. refl), ((λ e. absurd (omega arith)), ((λ e. absurd (omega arith)), tt)))) (inl refl))

  anchor-six : Leaves 6 (anchor_bytes Zero 1) (format_writes P T N images)
  anchor-six = last-leaves 6 (anchor_bytes Zero 1)
      (leaves-given 6 (anchor_bytes Zero 1) (last_ones T N images) ((λ e. refl), ((λ e. refl), ((λ e. absurd (omega arith)), ((λ e. absurd (omega arith)), tt)))) (inr (inl refl)))

  same-image : (base i j : ℕ) → base + i ≡ base + j → get_or images j [] ≡ get_or images i []
  same-image base i j e = let q : j ≡ i = omega arith in ap (λ (n : ℕ). get_or images n []) q

  home-leaves : (u : ℕ) (x : List ℕ) → Leaves u x (home_writes T N images) → Leaves u x (format_writes P T N images)
  home-leaves u x k =
      leaves-behind u x (write 0 zeros ∷ write 2 zeros ∷ []) (zero_run 4 (4 + 3 * T) ++ home_writes T N images)
      (leaves-behind u x (zero_run 4 (4 + 3 * T)) (home_writes T N images) k)

  none-low : (u : ℕ) (x : List ℕ) → 8 ≤ u → AllByRecursion (Gives u x) (last_ones T N images)
  none-low u x l = ((λ e. absurd (omega arith)), ((λ e. absurd (omega arith)), ((λ e. absurd (omega arith)), ((λ e. absurd (omega arith)), tt))))

  first-home : (i : ℕ) → i < P → Leaves (first_homes T + i) (get_or images i []) (format_writes P T N images)
  first-home i l =
      let u = first_homes T + i in
      home-leaves u (get_or images i [])
      (leaves-given u (get_or images i []) (home_writes T N images)
      (each-home T N images (Gives u (get_or images i [])) (λ j k e. same-image (first_homes T) i j e) (λ j k e. absurd (omega arith))
      (none-low u (get_or images i []) (omega arith)))
      (among-front u (run_of (first_homes T) images) (run_of (second_homes P T) images ++ last_ones T N images) (among-run (first_homes T) images i l)))

  second-home : (i : ℕ) → i < P → Leaves (second_homes P T + i) (get_or images i []) (format_writes P T N images)
  second-home i l =
      let u = second_homes P T + i in
      home-leaves u (get_or images i [])
      (leaves-given u (get_or images i []) (home_writes T N images)
      (each-home T N images (Gives u (get_or images i [])) (λ j k e. absurd (omega arith)) (λ j k e. same-image (second_homes P T) i j e)
      (none-low u (get_or images i []) (omega arith)))
      (among-back u (run_of (first_homes T) images) (run_of (second_homes P T) images ++ last_ones T N images)
      (among-front u (run_of (second_homes P T) images) (last_ones T N images) (among-run (second_homes P T) images i l))))

pub format-leaves : FormatLeaves
format-leaves T images d e good few done =
    let P = length images in
    let N = length d.sectors in
    let ws = format_writes P T N images in
    let stands : (u : ℕ) (x : List ℕ) → Inside P T u → Leaves u x ws → system P T e.sectors u ≡ holds x =
    (λ u x i k. system-is P T u e.sectors i ∙ ap (λ (l : List Sector). on l u) done.sectors ∙ k d.sectors (omega (arith, i.0, good.0))) in
    record {
      good = (good.0, few);
      headers = (stands 0 _ (inside-low P T 0 (inl refl)) (header-zero T N images), stands 2 _ (inside-low P T 2 (inr (inl refl))) (header-two T N images));
      anchors = (stands 4 _ (inside-low P T 4 (inr (inr (inl refl)))) (anchor-four T N images), stands 6 _ (inside-low P T 6 (inr (inr (inr refl)))) (anchor-six T N images));
      homes = λ i l. (stands (first_homes T + i) _ (inside-first P T i l) (first-home T N images i l), stands (second_homes P T + i) _ (inside-second P T i l) (second-home T N images i l));
      calm = image-calm T N images good.1;
      no-record = λ u. elim (inside-or P T u) [
        | inl i ↦ subst (λ (x : Sector). Calm (says P x)) (sym (system-is P T u e.sectors i ∙ ap (λ (l : List Sector). on l u) done.sectors))
            (calm-written P ws (format-quiet T N images good.1) d.sectors u (omega (arith, i.0, good.0)) (among-format T N images u i))
        | inr k ↦ subst (λ (x : Sector). Calm (says P x)) (sym (unseen P T u e.sectors k)) tt
      ];
    }
