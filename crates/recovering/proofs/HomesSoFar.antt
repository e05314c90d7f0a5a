-- The homes of the first pages, read.
--     SoFar              those of the first k pages are read into the frames, and the other frames are as before
--     so-far-more        one page more is read
--     read-off           why a read of a page's homes answered 9
use Rattle.std.proofs.Common.{◌≡◌, ℕ, ◌+◌, ◌<◌, ◌≤◌, ◌≢◌, Bool, false, List, length, get_or, set, Err, ◌∙◌, below_more, arith}
use Rattle.std.proofs.lemmas.List.{length-set, get_or-set_same, get_or-set_other}
use Rattle.disk.specs.Faults.{refusal_of}
use Rattle.disk.specs.Sectors.{DiskState}
use Rattle.disk.specs.declared.faults.Fault.{Fault}
use Rattle.disk.specs.declared.faults.Fault.TheVariants.{PowerOff, Unreadable, NoSuchSector}
use Rattle.frames.specs.Frames.{none_held}
use Rattle.frames.specs.declared.frame.Frame.{Frame}
use Rattle.geometry.specs.Places.{first_homes, second_homes}
use Rattle.recovering.specs.HomeReads.{is_lost, HomeRead, HomesRead}
use Rattle.recovering.specs.declared.homes.LostHomes.{LostHomes}
use Rattle.searching.specs.Looks.{ReadBetween}
use Rattle.thirds.specs.Words.{on}

pub record SoFar (P T : ℕ) (d : DiskState) (k : ℕ) (frames later : List Frame) (lost : LostHomes) : Type 0 where
  pub long : length later ≡ length frames
  pub each : (i : ℕ) → i < k → HomeRead (get_or frames i none_held) (on d.sectors (first_homes T + i)) (on d.sectors (second_homes P T + i)) (get_or later i none_held)
  pub rest : (i : ℕ) → k ≤ i → get_or later i none_held ≡ get_or frames i none_held
  pub first-marks : length lost.first ≡ 21
  pub second-marks : length lost.second ≡ 21
  pub first : (i : ℕ) → i < k → get_or lost.first i false ≡ is_lost (on d.sectors (first_homes T + i))
  pub second : (i : ℕ) → i < k → get_or lost.second i false ≡ is_lost (on d.sectors (second_homes P T + i))

module _ (P T : ℕ) (d : DiskState) (k : ℕ) (frames later : List Frame) (lost : LostHomes) (far : SoFar P T d k frames later lost) where
  pub so-far-more : (g : Frame) (a b : Bool) → k < length frames → k < 21
      → HomeRead (get_or later k none_held) (on d.sectors (first_homes T + k)) (on d.sectors (second_homes P T + k)) g
      → a ≡ is_lost (on d.sectors (first_homes T + k)) → b ≡ is_lost (on d.sectors (second_homes P T + k))
      → SoFar P T d (k + 1) frames (set later k g) (record { first = set lost.first k a; second = set lost.second k b })
  so-far-more g a b l m read p q =
      let here : get_or (set later k g) k none_held ≡ g = get_or-set_same later k g none_held (omega (arith, far.long)) in
      record {
        long = length-set later k g ∙ far.long;
        each = below_more _ k
            (λ i j. let ne : i ≢ k = omega arith in rw (get_or-set_other later k i g none_held ne) (far.each i j))
            (rw (here, ← far.rest k (omega arith)) read);
        rest = λ i j. (let ne : i ≢ k = omega arith in get_or-set_other later k i g none_held ne ∙ far.rest i (omega arith));
        first-marks = length-set lost.first k a ∙ far.first-marks;
        second-marks = length-set lost.second k b ∙ far.second-marks;
        first = below_more _ k
            (λ i j. let ne : i ≢ k = omega arith in get_or-set_other lost.first k i a false ne ∙ far.first i j)
            (get_or-set_same lost.first k a false (omega (arith, far.first-marks)) ∙ p);
        second = below_more _ k
            (λ i j. let ne : i ≢ k = omega arith in get_or-set_other lost.second k i b false ne ∙ far.second i j)
            (get_or-set_same lost.second k b false (omega (arith, far.second-marks)) ∙ q);
      }

pub read-off : (P T : ℕ) (d : DiskState) (k : ℕ) (frames later : List Frame) (x : Fault) (e : DiskState) → k < P → length later ≡ length frames
    → ReadBetween (first_homes T + k) (second_homes P T + k) d x e
    → HomesRead P T d frames (Err (refusal_of x)) e later
read-off P T d k frames later (PowerOff p) e l long r = ((r.0, omega (arith, r.1), omega (arith, r.2), r.3), long)
read-off P T d k frames later (Unreadable p) e l long r = absurd r.3
read-off P T d k frames later NoSuchSector e l long r = absurd r.3
