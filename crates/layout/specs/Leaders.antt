-- The leader of a file: "FSDL", the key (22 bytes), the length (4).
--     LeaderFits       a leader that is right: a key, and a length of at most 8,192
--     encode_leader    the sector of a leader
--     leader_of        the leader in the bytes after the letters, if they are right
--     decode_leader    the leader in a sector: its letters, its zeros, its key and its length are tested
use Rattle.std.specs.Prelude.{◌≡◌, ℕ, ◌≤◌, true, cond, ◌&&◌, List, ◌∷◌, ◌++◌, take, drop, Some, None, Option, nat_le, slice_index}
use Rattle.geometry.specs.Sizes.{longest}
use Rattle.names.specs.Names.{zeros, is_key}
use Rattle.layout.specs.Padded.{padded, four_bytes, number4, tag_is}
use Rattle.layout.specs.declared.leader.Leader.{Leader}

abbrev pub LeaderFits : Leader → Type 0
LeaderFits l = (is_key l.key ≡ true) × (l.length ≤ longest)

abbrev pub encode_leader : Leader → List ℕ
encode_leader l = padded (70 ∷ 83 ∷ 68 ∷ 76 ∷ (l.key ++ four_bytes l.length))

abbrev pub length_of : List ℕ → ℕ
length_of rest = number4 (slice_index rest 22) (slice_index rest 23) (slice_index rest 24) (slice_index rest 25)

abbrev pub leader_of : List ℕ → Option Leader
leader_of rest =
    cond (zeros (drop 26 rest) && (nat_le (length_of rest) longest && is_key (take 22 rest))) (Some (record { key = take 22 rest; length = length_of rest })) None

abbrev pub decode_leader : List ℕ → Option Leader
decode_leader s = cond (tag_is 70 83 68 76 s) (leader_of (drop 4 s)) None
