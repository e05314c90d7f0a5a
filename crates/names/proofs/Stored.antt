-- The bytes of names and keys as they are made.
--     zeros-only       zeros pass the test of zeros
--     letters-step     the test of a stored name's bytes, at its first byte
--     stored-name      a good text filled up with zeros is a name
--     stored-key       a name and a version are a key
--     stored-byte-key  its last byte is below 256
--     key-long         a key has 22 bytes
--     byte-key-long    so has one whose last byte is below 256
--     letter-ascii     a letter is below 128
--     key-bytes        if the last byte of a key is below 256, all its bytes are
use Rattle.std.proofs.Common.{◌≡◌, ℕ, zero, suc, ◌-◌, ◌/◌, ◌%◌, ◌<◌, ◌≤◌, true, false, cond, ◌&&◌, ◌==◌, List, [], ◌∷◌, ◌++◌, length, get_or, take, drop, replicate, sym, refl, ap, ◌∙◌, subst, arith}
use Rattle.std.specs.List.{AllByRecursion}
use Rattle.std.proofs.ByRecursion.{All-append}
use Rattle.std.proofs.lemmas.Bool.Decides.{nat_tests}
use Rattle.std.proofs.lemmas.Grind.{common_steps}
use Rattle.std.proofs.lemmas.List.{drop_more, drop_all, take-append-drop, length-append, length-replicate, take_at, get_or-append_right}
use Rattle.std.proofs.lemmas.Bool.{and_from, and_parts, eq-eqb, eqb-true, le-leb, lt-ltb, leb-true, ltb-true}
use Rattle.names.specs.Names.{letter, letters, zeros, letters_then_zeros, GoodName, filled, is_name, two_bytes, version_of, is_key, is_byte_key}
use Rattle.names.specs.Versions.{highest, InRange}

pub zeros-only : (n : ℕ) → zeros (replicate n 0) ≡ true
zeros-only zero = refl
zeros-only (suc n) = zeros-only n

pub letters-step : (b : ℕ) (bytes : List ℕ) → letters_then_zeros (b ∷ bytes) ≡ cond (letter b) (letters_then_zeros bytes) (b == 0 && zeros bytes)
unfolding letters_then_zeros
letters-step b bytes = grind (arith, common_steps)

zeros-follow : (n : ℕ) → letters_then_zeros (replicate n 0) ≡ true
unfolding letters_then_zeros
zeros-follow zero = refl
zeros-follow (suc n) = zeros-only n

letters-follow : (text : List ℕ) (n : ℕ) → letters text ≡ true → letters_then_zeros (text ++ replicate n 0) ≡ true
letters-follow [] n h = zeros-follow n
letters-follow (b ∷ text) n h =
    let both = and_parts (letter b) (letters text) h in
    letters-step b (text ++ replicate n 0) ∙ rw both.0 (letters-follow text n both.1)

first-letter : (text : List ℕ) → 1 ≤ length text → letters text ≡ true → (rest : List ℕ) → letter (get_or (text ++ rest) 0 0) ≡ true
first-letter [] long h rest = absurd (omega arith)
first-letter (b ∷ text) long h rest = (and_parts (letter b) (letters text) h).0

pub stored-name : (bytes text : List ℕ) → bytes ≡ filled text → GoodName text → is_name bytes ≡ true
stored-name bytes text is good =
    let whole : length (filled text) ≡ 20 = simp (length-append, length-replicate) (omega arith) in
    ap is_name is
    ∙ and_from _ _ (and_from _ _ (eq-eqb (length (filled text)) 20 whole) (first-letter text good.0 good.2 (replicate (20 - length text) 0))) (letters-follow text (20 - length text) good.2)

module _ (key name : List ℕ) (n : ℕ) (is : key ≡ name ++ two_bytes n) (good : is_name name ≡ true) (range : InRange n) where
  long : length name ≡ 20
  long = eqb-true (length name) 20 (and_parts _ _ (and_parts _ _ good).0).0

  low : get_or key 21 0 ≡ n % 256
  low = ap (λ l. get_or l 21 0) is ∙ get_or-append_right name (two_bytes n) 20 21 0 long (omega arith)

  pub stored-key : is_key key ≡ true
  stored-key =
      let whole : length key ≡ 22 = ap length is ∙ length-append name (two_bytes n) ∙ omega (arith, long) in
      let front : take 20 key ≡ name = ap (take 20) is ∙ take_at name (two_bytes n) 20 long in
      let high : get_or key 20 0 ≡ n / 256 % 256 = ap (λ l. get_or l 20 0) is ∙ get_or-append_right name (two_bytes n) 20 20 0 long (omega arith) in
      let version : version_of key ≡ n = omega (arith, low) in
      and_from _ _
      (and_from _ _ (and_from _ _ (eq-eqb (length key) 22 whole) (ap is_name front ∙ good)) (le-leb 1 (version_of key) (omega arith)))
      (le-leb (version_of key) highest (omega arith))

  pub stored-byte-key : is_byte_key key ≡ true
  stored-byte-key = and_from _ _ stored-key (lt-ltb (get_or key 21 0) 256 (omega (arith, low)))

pub key-long : (key : List ℕ) → is_key key ≡ true → length key ≡ 22
key-long key h = grind (arith, nat_tests)

pub byte-key-long : (key : List ℕ) → is_byte_key key ≡ true → length key ≡ 22
byte-key-long key h = key-long key (and_parts _ _ h).0

pub letter-ascii : (b : ℕ) → letter b ≡ true → b < 128
letter-ascii b h = grind (arith, nat_tests)

-- The bytes of a stored name are below 256.
zeros-small : (bytes : List ℕ) → zeros bytes ≡ true → AllByRecursion (λ b. b < 256) bytes
zeros-small [] h = tt
zeros-small (b ∷ bytes) h =
    let both = and_parts (b == 0) (zeros bytes) h in
    let z = eqb-true b 0 both.0 in
    (omega arith, zeros-small bytes both.1)

follow-small : (bytes : List ℕ) → letters_then_zeros bytes ≡ true → AllByRecursion (λ b. b < 256) bytes
follow-small [] h = tt
follow-small (b ∷ bytes) h =
    elim (letter b) as (λ v. letter b ≡ v → cond v (letters_then_zeros bytes) (b == 0 && zeros bytes) ≡ true → AllByRecursion (λ b. b < 256) (b ∷ bytes)) [
      | true ↦ λ l r. (omega (arith, letter-ascii b l), follow-small bytes r)
      | false ↦ λ l r. let both = and_parts (b == 0) (zeros bytes) r in let z = eqb-true b 0 both.0 in (omega arith, zeros-small bytes both.1)
    ] refl (sym (letters-step b bytes) ∙ h)

-- Those of a stored key are 22, each below 256.
pub key-bytes : (key : List ℕ) → is_byte_key key ≡ true → AllByRecursion (λ b. b < 256) key
key-bytes key h =
    let a = and_parts _ _ h in
    let b = and_parts _ _ a.0 in
    let c = and_parts _ _ b.0 in
    let d = and_parts _ _ c.0 in
    let long : length key ≡ 22 = key-long key a.0 in
    let low : get_or key 21 0 < 256 = ltb-true (get_or key 21 0) 256 a.1 in
    let high : get_or key 20 0 < 256 = (let v = leb-true (version_of key) highest b.1 in omega arith) in
    let rest : drop 20 key ≡ get_or key 20 0 ∷ get_or key 21 0 ∷ [] =
    drop_more key 20 0 (omega arith) ∙ ap (λ l. get_or key 20 0 ∷ l) (drop_more key 21 0 (omega arith) ∙ ap (λ l. get_or key 21 0 ∷ l) (drop_all 22 key (omega arith))) in
    let front : AllByRecursion (λ b. b < 256) (take 20 key) = follow-small (take 20 key) (and_parts _ _ d.1).1 in
    let back : AllByRecursion (λ b. b < 256) (drop 20 key) = rw rest (high, (low, tt)) in
    subst (AllByRecursion (λ b. b < 256)) (take-append-drop 20 key) (All-append (λ b. b < 256) (take 20 key) (drop 20 key) front back)
