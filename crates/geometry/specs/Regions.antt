-- What each sector of a volume is used for, and that no sector has two uses.
--     Use          the uses of sectors
--     Used         sector s has a use, by the table of the format
--     Unused       the sectors that have none
--     InOrder      the regions in their order
--     Apart        no sector has two uses; the unused ones have none; every used one is on the disk; twins lie two apart; the places fit in 32 bits
use Rattle.std.specs.Prelude.{◌≡◌, ℕ, ◌+◌, ◌*◌, ◌^◌, ◌<◌, ◌≤◌}
use Rattle.geometry.specs.Places.{third_start, last_of, first_homes, second_homes, data_start}

-- header and anchor with the number of the copy, 0 or 1; the log with its third; a page's copies with its number
pub data Use : Type 0 where
  header : ℕ → Use
  anchor : ℕ → Use
  log : ℕ → Use
  first-copy : ℕ → Use
  second-copy : ℕ → Use
  file-data : Use

abbrev pub Used : ℕ → ℕ → ℕ → Use → ℕ → Type 0
Used p t n (header c) s = (c < 2) × (s ≡ 2 * c)
Used p t n (anchor c) s = (c < 2) × (s ≡ 4 + 2 * c)
Used p t n (log k) s = (k < 3) × (third_start t k ≤ s) × (s < last_of t k)
Used p t n (first-copy i) s = (i < p) × (s ≡ first_homes t + i)
Used p t n (second-copy i) s = (i < p) × (s ≡ second_homes p t + i)
Used p t n file-data s = (data_start p t ≤ s) × (s < n)

-- 1, 3, 5 and 7, the last of each third, and the one behind each row of copies
pub data Unused (p t : ℕ) (s : ℕ) : Type 0 where
  between : (c : ℕ) → c < 4 → s ≡ 2 * c + 1 → Unused p t s
  third-end : (k : ℕ) → k < 3 → s ≡ last_of t k → Unused p t s
  first-end : s ≡ first_homes t + p → Unused p t s
  second-end : s ≡ second_homes p t + p → Unused p t s

-- one region right behind the other, or behind a sector that is never used
pub record InOrder (p t n : ℕ) : Type 0 where
  pub thirds-first : third_start t 0 ≡ 8
  pub thirds-second : third_start t 1 ≡ third_start t 0 + t
  pub thirds-third : third_start t 2 ≡ third_start t 1 + t
  pub copies-first : first_homes t ≡ third_start t 2 + t
  pub copies-second : second_homes p t ≡ first_homes t + p + 1
  pub data-start : data_start p t ≡ second_homes p t + p + 1
  pub data-room : data_start p t + 2 ≤ n

pub record Apart (p t n : ℕ) : Type 0 where
  pub one-use : (s : ℕ) (u v : Use) → Used p t n u s → Used p t n v s → u ≡ v
  pub no-use : (s : ℕ) (u : Use) → Unused p t s → Used p t n u s → ⊥
  pub on-disk : (s : ℕ) (u : Use) → Used p t n u s → s < n
  pub twins : (i : ℕ) → first_homes t + i + 2 ≤ second_homes p t + i
  pub ordered : InOrder p t n
  pub small : data_start p t < 2 ^ 32
