-- The frames after a force, one by one.
--     changed_in          whether a page of a table changed
--     settled-third       the third of a settled frame: the record's if the page changed, else the one before
--     settled-now         its image now is as before
--     settled-forced      that image is forced if the page changed
--     settled-changed     the page did not change since
--     Alike               two tables of as many frames that differ in nothing but thirds
--     alike-itself        a table and itself are so
--     alike-released      a table and its frames released are so
--     released-third      a released frame has its third, unless that was given up
use Rattle.std.proofs.Common.{◌≡◌, ℕ, ◌<◌, Bool, true, false, cond, List, length, map, get_or, Some, None, refl, ap, ◌∙◌}
use Rattle.std.proofs.lemmas.List.{get_or-map, length-map}
use Rattle.forcing.specs.Force.{third_in}
use Rattle.frames.specs.Frames.{forced_of, none_held, now_of, released, settled}
use Rattle.frames.specs.declared.frame.Frame.{Frame}
use Rattle.geometry.specs.declared.third.Third.{Third}
use Rattle.thirds.specs.Homes.{in_third}

abbrev pub changed_in : List Frame → ℕ → Bool
changed_in fs i = (get_or fs i none_held).changed

part-of : {A : Type 0} (part : Frame → A) (b : Bool) (x y : Frame) → part (cond b x y) ≡ cond b (part x) (part y)
part-of part true x y = refl
part-of part false x y = refl

cond-same : {A : Type 0} (b : Bool) (x : A) → cond b x x ≡ x
cond-same true x = refl
cond-same false x = refl

cond-not : (b : Bool) → cond b false b ≡ false
cond-not true = refl
cond-not false = refl

module _ (k : Third) (fs : List Frame) (i : ℕ) (within : i < length fs) where
  abbrev f : Frame
  f = get_or fs i none_held

  abbrev forced-now : Frame
  forced-now = record { now = f.now; forced = f.now; changed = false; third = Some k }

  part-settled : {A : Type 0} (part : Frame → A) → part (get_or (map (settled k) fs) i none_held) ≡ cond f.changed (part forced-now) (part f)
  part-settled part = ap part (get_or-map (settled k) fs i none_held none_held within) ∙ part-of part f.changed forced-now f

  pub settled-third : third_in (map (settled k) fs) i ≡ cond (changed_in fs i) (Some k) (third_in fs i)
  settled-third = part-settled (λ g. g.third)

  pub settled-now : now_of (map (settled k) fs) i ≡ now_of fs i
  settled-now = part-settled (λ g. g.now) ∙ cond-same f.changed f.now

  pub settled-forced : forced_of (map (settled k) fs) i ≡ cond (changed_in fs i) (now_of fs i) (forced_of fs i)
  settled-forced = part-settled (λ g. g.forced)

  pub settled-changed : changed_in (map (settled k) fs) i ≡ false
  settled-changed = part-settled (λ g. g.changed) ∙ cond-not f.changed

pub record Alike (fs gs : List Frame) : Type 0 where
  pub long : length gs ≡ length fs
  pub now : (i : ℕ) → i < length fs → now_of gs i ≡ now_of fs i
  pub forced : (i : ℕ) → i < length fs → forced_of gs i ≡ forced_of fs i
  pub changed : (i : ℕ) → i < length fs → changed_in gs i ≡ changed_in fs i

pub alike-itself : (fs : List Frame) → Alike fs fs
alike-itself fs = record { long = refl; now = λ i l. refl; forced = λ i l. refl; changed = λ i l. refl }

frame-released : (k : Third) (fs : List Frame) (i : ℕ) → i < length fs → get_or (map (released k) fs) i none_held ≡ released k (get_or fs i none_held)
frame-released k fs i l = get_or-map (released k) fs i none_held none_held l

pub alike-released : (k : Third) (fs : List Frame) → Alike fs (map (released k) fs)
alike-released k fs = record {
  long = length-map fs (released k);
  now = λ i l. ap (λ (f : Frame). f.now) (frame-released k fs i l);
  forced = λ i l. ap (λ (f : Frame). f.forced) (frame-released k fs i l);
  changed = λ i l. ap (λ (f : Frame). f.changed) (frame-released k fs i l);
}

pub released-third : (k : Third) (fs : List Frame) (i : ℕ) → i < length fs → third_in (map (released k) fs) i ≡ cond (in_third k (third_in fs i)) None (third_in fs i)
released-third k fs i l = ap (λ (f : Frame). f.third) (frame-released k fs i l)
