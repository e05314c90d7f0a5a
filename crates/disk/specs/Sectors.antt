-- What a disk is: a power mark and a list of sectors.
--     Sector       a sector is unreadable, or holds bytes
--     DiskState    the power mark and the sectors, from sector 0 on
--     count        how many sectors there are
--     At           a sector exists, and what it is
--     Bytes        512 numbers, each below 256
--     Sound        at most 65,536 sectors, and bytes in each that is readable
use Rattle.std.specs.Prelude.{◌≡◌, ℕ, ◌<◌, ◌≤◌, Bool, List, length, slice_index, slice_index_or}

pub data Sector : Type 0 where
  unreadable : Sector
  holds : List ℕ → Sector

pub record DiskState : Type 0 where
  pub power : Bool
  pub sectors : List Sector

abbrev pub count : DiskState → ℕ
count d = length d.sectors

pub record At (d : DiskState) (s : ℕ) (x : Sector) : Type 0 where
  pub exists : s < count d
  pub is : slice_index_or d.sectors s unreadable ≡ x

pub record Bytes (bytes : List ℕ) : Type 0 where
  pub long : length bytes ≡ 512
  pub small : (k : ℕ) → slice_index bytes k < 256

pub record Sound (d : DiskState) : Type 0 where
  pub few : count d ≤ 65536
  pub whole : (s : ℕ) (bytes : List ℕ) → At d s (holds bytes) → Bytes bytes
