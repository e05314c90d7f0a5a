-- A leader comes back from its sector, and from no other.
use Rattle.std.proofs.Common.{◌≡◌, ℕ, ◌+◌, ◌-◌, ◌/◌, ◌%◌, ◌^◌, ◌<◌, ◌≤◌, true, ◌&&◌, leb, List, [], ◌∷◌, ◌++◌, length, get_or, take, drop, replicate, Some, Option, sym, ap, ◌∙◌, ap₂, arith, take-add}
use Rattle.std.proofs.lemmas.List.{take_at, drop_at, drop-drop, append_assoc, get_or-drop, length-drop}
use Rattle.std.proofs.lemmas.Bool.Decides.{nat_tests}
use Rattle.geometry.specs.Sizes.{longest}
use Rattle.names.specs.Names.{zeros, is_key}
use Rattle.names.proofs.Stored.{zeros-only, key-long}
use Rattle.layout.specs.Padded.{Decodes, padded, four_bytes, tag_is}
use Rattle.layout.proofs.Decoded.{decodes}
use Rattle.layout.specs.Leaders.{LeaderFits, encode_leader, length_of, leader_of, decode_leader}
use Rattle.layout.specs.declared.leader.Leader.{Leader}
use Rattle.std.proofs.lemmas.Bool.{and_parts, and_from}
use Rattle.layout.proofs.Numbers.{behind, four-number, four-back, opened, was-open, tag-letters}
use Rattle.layout.proofs.Zeros.{gets, gets-take, padded-front}

abbrev made : List ℕ → ℕ → Leader
made key n = record { key = key; length = n }

leader-is : (rest : List ℕ) → zeros (drop 26 rest) ≡ true → length_of rest ≤ longest → is_key (take 22 rest) ≡ true → leader_of rest ≡ Some (made (take 22 rest) (length_of rest))
leader-is rest z short key =
    let test : leb (length_of rest) longest ≡ true = grind (arith, nat_tests) in
    opened (zeros (drop 26 rest)) _ _ _ z (and_from (leb (length_of rest) longest) (is_key (take 22 rest)) test key)

pub leader-round : (l : Leader) → LeaderFits l → decode_leader (encode_leader l) ≡ Some l
unfolding padded
leader-round l fits =
    let key = l.key in
    let four = four_bytes l.length in
    let long = key-long key fits.0 in
    let n = 512 - length (70 ∷ 83 ∷ 68 ∷ 76 ∷ (key ++ four)) in
    let z : List ℕ = replicate n 0 in
    let rest = key ++ (four ++ z) in
    let front = take_at key (four ++ z) 22 long in
    let clear : zeros (drop 26 rest) ≡ true = ap zeros (sym (drop-drop 4 22 rest) ∙ ap (drop 4) (drop_at key (four ++ z) 22 long)) ∙ zeros-only n in
    let a : get_or rest 22 0 ≡ l.length / 16777216 % 256 = behind 22 key (four ++ z) 0 long in
    let b : get_or rest 23 0 ≡ l.length / 65536 % 256 = behind 22 key (four ++ z) 1 long in
    let c : get_or rest 24 0 ≡ l.length / 256 % 256 = behind 22 key (four ++ z) 2 long in
    let d : get_or rest 25 0 ≡ l.length % 256 = behind 22 key (four ++ z) 3 long in
    let low : l.length < 2 ^ 32 = omega (arith, fits.1) in
    let back = four-number l.length low in
    let number : length_of rest ≡ l.length = cc in
    ap leader_of (append_assoc key four z)
    ∙ leader-is rest clear (omega (arith, number, fits.1)) (ap is_key front ∙ fits.0)
    ∙ ap₂ (λ k m. Some (made k m)) front number

pub leader-exact : (s : List ℕ) (l : Leader) → length s ≡ 512 → ((k : ℕ) → get_or s k 0 < 256) → decode_leader s ≡ Some l → LeaderFits l × (s ≡ encode_leader l)
leader-exact s l long small is =
    let open-at = was-open (tag_is 70 83 68 76 s) _ l is in
    let letters = tag-letters 70 83 68 76 s open-at.0 in
    let rest = drop 4 s in
    let inner = was-open (zeros (drop 26 rest) && (leb (length_of rest) longest && is_key (take 22 rest))) _ l open-at.1 in
    let tests = and_parts (zeros (drop 26 rest)) _ inner.0 in
    let more = and_parts (leb (length_of rest) longest) (is_key (take 22 rest)) tests.1 in
    let short : length_of rest ≤ longest = grind (arith, nat_tests, more.0) in
    let value : made (take 22 rest) (length_of rest) ≡ l = let e = inner.1 in cc in
    let key = sym (ap (λ (x : Leader). x.key) value) in
    let size = sym (ap (λ (x : Leader). x.length) value) in
    let byte : (i : ℕ) → get_or rest i 0 < 256 = λ i. rw (get_or-drop 4 s i 0) (small (4 + i)) in
    let four = ap four_bytes size ∙ four-back (get_or rest 22 0) (get_or rest 23 0) (get_or rest 24 0) (get_or rest 25 0) (byte 22) (byte 23) (byte 24) (byte 25) in
    let tag : gets 4 0 s ≡ 70 ∷ 83 ∷ 68 ∷ 76 ∷ [] = cc in
    let clear = ap zeros (sym (drop-drop 26 4 s)) ∙ tests.0 in
    let after : take 26 rest ≡ l.key ++ four_bytes l.length =
    take-add 22 4 rest ∙ ap₂ (λ a b. a ++ b) (sym key) (gets-take 4 22 rest (simp length-drop (omega arith)) ∙ sym four) in
    let front : take 30 s ≡ 70 ∷ 83 ∷ 68 ∷ 76 ∷ (l.key ++ four_bytes l.length) =
    take-add 4 26 s ∙ ap₂ (λ a b. a ++ b) (gets-take 4 0 s (omega arith) ∙ tag) after in
    ((ap is_key key ∙ more.1, omega (arith, size)), padded-front 30 s long (omega arith) clear ∙ ap padded front)

pub leader-decodes : {s : List ℕ} {r : Option Leader} → length s ≡ 512 → ((k : ℕ) → get_or s k 0 < 256) → r ≡ decode_leader s → Decodes LeaderFits encode_leader s r
leader-decodes = decodes LeaderFits encode_leader decode_leader leader-round leader-exact

-- What the check takes up by itself where this decoder answers.
pub ruleset leaders = (leader-decodes, nat_tests)
