-- The bytes that a read, a write and a spoil of one sector leave, and the sector that they mean.
--     byte-same                     bytes below 256 are their own bytes
--     unreadable-at, stored-at      the sector that begins at a byte, by its mark
--     put_mid-written               the bytes that the code of a write leaves are those that its contract names
--     written-beside, written-is    a written sector
--     spoiled-beside, spoiled-is    a spoiled one
use Rattle.std.proofs.Common.{◌≡◌, ℕ, zero, suc, ◌+◌, ◌-◌, ◌*◌, ◌%◌, ◌<◌, ◌≢◌, Bool, List, [], ◌∷◌, ◌++◌, map, length, get_or, take, drop, set, sym, refl, ap, ◌∙◌, ap₂, arith}
use borrow.Rule.Slice.PartMut.{put_mid}
use Rattle.std.proofs.lemmas.List.{append_assoc, length-append, length-set, length-take, length-drop, get_or-set_same, get_or-set_other, get_or_append_left, get_or-append_right, get_or_at, get_or-take, get_or-drop, take_more_set, take_at, drop_at, drop-drop, drop_more, drop-set-lt}
use Rattle.disk.specs.Sectors.{unreadable, holds, At, Bytes}
use Rattle.image.specs.Images.{byte, marked, sector_in, count_in, image_state}
use Rattle.image.specs.ImageSound.{length-sectors, at-sector}
use Rattle.image.proofs.OneSector.{Beside}

pub byte-same : (xs : List ℕ) → ((k : ℕ) → get_or xs k 0 < 256) → map byte xs ≡ xs
byte-same [] small = refl
byte-same (x ∷ xs) small =
    let first : x < 256 = small 0 in
    let here : x % 256 ≡ x = omega arith in
    ap₂ (λ y ys. y ∷ ys) here (byte-same xs (λ k. small (suc k)))

marked-zero : (m : ℕ) (bytes : List ℕ) → m ≡ 0 → marked m bytes ≡ holds bytes
marked-zero m bytes e = rw e

marked-other : (m : ℕ) (bytes : List ℕ) → (m ≡ 0 → ⊥) → marked m bytes ≡ unreadable
marked-other zero bytes h = absurd (h refl)
marked-other (suc m) bytes h = refl

-- Sector s of b begins at a byte.
module _ (b : List ℕ) (power : Bool) (s at : ℕ) (within : s < count_in b) (begins : at ≡ s * 513) where
  pub unreadable-at : (get_or b at 0 ≡ 0 → ⊥) → At (image_state b power) s unreadable
  unreadable-at mark = record {
    exists = omega (arith, length-sectors b);
    is = at-sector b s unreadable within ∙ marked-other _ _ (λ e. mark (rw begins e));
  }

  pub stored-at : (got : List ℕ) → get_or b at 0 ≡ 0 → got ≡ take 512 (drop (at + 1) b) → Bytes got → At (image_state b power) s (holds got) × (take 513 (drop (s * 513) b) ≡ 0 ∷ got)
  stored-at got mark same whole =
      let w : s * 513 < length b = omega arith in
      let zero : get_or b (s * 513) 0 ≡ 0 = rw (← begins) mark in
      let is : got ≡ take 512 (drop (s * 513 + 1) b) = rw (← begins) same in (
        record {
          exists = omega (arith, length-sectors b);
          is = at-sector b s unreadable within ∙ marked-zero _ _ zero ∙ ap holds (ap (map byte) (sym is) ∙ byte-same got whole.small);
        },
        ap (take 513) (drop_more b (s * 513) 0 w) ∙ ap₂ (λ x xs. x ∷ xs) zero (sym is),
      )

-- Sector s of b is written with ys.
module _ (b ys : List ℕ) (s : ℕ) (whole : Bytes ys) (within : s < count_in b) where
  abbrev after : List ℕ
  after = drop (s * 513 + 513) b

  abbrev written : List ℕ
  written = take (s * 513) b ++ 0 ∷ (ys ++ after)

  marked-front : length (take (s * 513) b ++ 0 ∷ []) ≡ s * 513 + 1
  marked-front = simp (length-append, length-take) (omega arith)

  pub put_mid-written : (at k : ℕ) → at ≡ s * 513 → k ≡ 512 → put_mid (at + 1) k (set b at 0) ys ≡ written
  put_mid-written at k begins size =
      let w : s * 513 < length b = omega arith in
      let rest : drop k (drop (s * 513 + 1) (set b (s * 513) 0)) ≡ after =
      drop-drop k (s * 513 + 1) (set b (s * 513) 0)
      ∙ ap (λ n. drop n (set b (s * 513) 0)) (omega arith)
      ∙ drop-set-lt (s * 513 + 513) b (s * 513) 0 (omega arith) in
      rw begins
      (ap₂ (λ front back. front ++ (ys ++ back)) (take_more_set b (s * 513) 0 w) rest
      ∙ append_assoc (take (s * 513) b) (0 ∷ []) (ys ++ after))

  pub written-beside : Beside b written s
  written-beside =
      let size = whole.long in
      record {
        long = simp (length-append, length-take, length-drop) (omega arith);
        front = λ j h. get_or_append_left (take (s * 513) b) _ 0 j (simp length-take (omega arith)) ∙ get_or-take (s * 513) b j 0 h;
        back = λ j h.
            let front : length (take (s * 513) b ++ 0 ∷ ys) ≡ s * 513 + 513 = simp (length-append, length-take) (omega arith) in
            ap (λ l. get_or l j 0) (sym (append_assoc (take (s * 513) b) (0 ∷ ys) after)) ∙ get_or-append_right (take (s * 513) b ++ 0 ∷ ys) after (s * 513 + 513) j 0 front h
            ∙ get_or-drop (s * 513 + 513) b (j - (s * 513 + 513)) 0
            ∙ ap (λ i. get_or b i 0) (omega arith);
      }

  pub written-is : sector_in written s ≡ holds ys
  written-is =
      let mark = get_or_at (take (s * 513) b) 0 (ys ++ after) 0 (s * 513) (simp length-take (omega arith)) in
      let part : take 512 (drop (s * 513 + 1) written) ≡ ys =
      ap (λ l. take 512 (drop (s * 513 + 1) l)) (sym (append_assoc (take (s * 513) b) (0 ∷ []) (ys ++ after)))
      ∙ ap (take 512) (drop_at (take (s * 513) b ++ 0 ∷ []) (ys ++ after) (s * 513 + 1) marked-front)
      ∙ take_at ys after 512 whole.long in
      marked-zero _ _ mark ∙ ap holds (ap (map byte) part ∙ byte-same ys whole.small)

-- Sector s of b is spoiled.
module _ (b : List ℕ) (s at : ℕ) (begins : at ≡ s * 513) where
  pub spoiled-beside : Beside b (set b at 1) s
  spoiled-beside = record {
    long = length-set b at 1;
    front = λ j h. let ne : j ≢ at = omega arith in get_or-set_other b at j 1 0 ne;
    back = λ j h. let ne : j ≢ at = omega arith in get_or-set_other b at j 1 0 ne;
  }

  pub spoiled-is : s < count_in b → sector_in (set b at 1) s ≡ unreadable
  spoiled-is within =
      let w : at < length b = omega arith in
      let mark : get_or (set b at 1) (s * 513) 0 ≡ 1 = rw (← begins) (get_or-set_same b at 1 0 w) in
      marked-other _ _ (λ e. omega arith)
