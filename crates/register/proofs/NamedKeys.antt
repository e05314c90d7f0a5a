-- The keys of one name, in the order of keys.
--     key-version              the version of a key is at most 9,999
--     named-is                 the entries of a name are those whose key begins with it
--     last-not-below           no key of a name is above the name with the version 9,999
--     named-between            a key between one of the name and that one is of the name
--     version-rises            of two keys of a name the higher one has the higher version
--     made-named, made-version     the name and the version of a key that is made of a name and a number
use Rattle.std.proofs.Common.{◌≡◌, ℕ, ◌+◌, ◌*◌, ◌<◌, ◌≤◌, true, false, List, [], ◌∷◌, ◌++◌, length, get_or, take, sym, ap, ap₂, ◌∙◌, subst, drop-cons, arith}
use Rattle.std.proofs.ByRecursion.{All-get_or}
use Rattle.std.specs.Cmp.Lexicographic.{bytes_decides}
use Rattle.std.proofs.lemmas.List.{take-append-drop, length-take, drop_all, get_or-append_right, take_at}
use Rattle.std.proofs.lemmas.Bool.Decides.{nat_tests}
use Rattle.names.specs.Names.{is_byte_key, two_bytes, version_of}
use Rattle.names.specs.Versions.{highest}
use Rattle.names.specs.Orders.{before}
use Rattle.names.proofs.Stored.{byte-key-long}
use Rattle.pages.specs.Bytes.{AreBytes}
use Rattle.pages.specs.declared.records.Entry.{Entry}
use Rattle.register.specs.Names.{has_name}
use Rattle.register.proofs.FrontOrder.{same-front, between}

-- the last key of a name
abbrev pub last_key : List ℕ → List ℕ
last_key name = name ++ two_bytes 9999

pub key-version : (k : List ℕ) → is_byte_key k ≡ true → version_of k ≤ highest
key-version k good = grind (arith, nat_tests)

last-rest : (a b : ℕ) → a * 256 + b ≤ 9999 → before (two_bytes 9999) (a ∷ b ∷ []) ≡ false
unfolding before
last-rest a b l = grind (arith, nat_tests)

rest-rises : (a b c d : ℕ) → b < 256 → d < 256 → before (a ∷ b ∷ []) (c ∷ d ∷ []) ≡ true → a * 256 + b < c * 256 + d
unfolding before
rest-rises a b c d l m p = grind (arith, nat_tests)

-- the two bytes of a version
abbrev rest : Entry → List ℕ
rest e = get_or e.key 20 0 ∷ get_or e.key 21 0 ∷ []

module _ (name : List ℕ) where
  front-is : (e : Entry) → has_name name e ≡ true → take 20 e.key ≡ name
  front-is e named = (bytes_decides (take 20 e.key) name).0 named

  front-named : (e : Entry) → take 20 e.key ≡ name → has_name name e ≡ true
  front-named e same = (bytes_decides (take 20 e.key) name).1 same

  name-long : (e : Entry) → length e.key ≡ 22 → has_name name e ≡ true → length name ≡ 20
  name-long e l named = ap length (sym (front-is e named)) ∙ simp length-take (omega arith)

  pub named-is : (e : Entry) → length e.key ≡ 22 → has_name name e ≡ true → e.key ≡ name ++ rest e
  named-is e l named =
      sym (take-append-drop 20 e.key) ∙ ap₂ (λ front rest. front ++ rest) (front-is e named)
      (drop-cons e.key 20 0 (omega arith) ∙ ap (λ rest. get_or e.key 20 0 ∷ rest) (drop-cons e.key 21 0 (omega arith) ∙ ap (λ rest. get_or e.key 21 0 ∷ rest) (drop_all 22 e.key (omega arith))))

  pub last-not-below : (e : Entry) → is_byte_key e.key ≡ true → has_name name e ≡ true → before (last_key name) e.key ≡ false
  last-not-below e good named =
      ap (before (last_key name)) (named-is e (byte-key-long e.key good) named) ∙ same-front name (two_bytes 9999) (rest e) ∙ last-rest (get_or e.key 20 0) (get_or e.key 21 0) (key-version e.key good)

  pub named-between : (e f : Entry) → length e.key ≡ 22 → length f.key ≡ 22 → has_name name e ≡ true → before f.key e.key ≡ false → before (last_key name) f.key ≡ false → has_name name f ≡ true
  named-between e f l m named from to =
      let long = name-long e l named in
      front-named f (subst (λ n. take n f.key ≡ name) long (between name (rest e) (two_bytes 9999) f.key (omega arith) (subst (λ k. before f.key k ≡ false) (named-is e l named) from) to))

  pub version-rises : (e f : Entry) → length e.key ≡ 22 → length f.key ≡ 22 → AreBytes e.key → AreBytes f.key → has_name name e ≡ true → has_name name f ≡ true → before e.key f.key ≡ true → version_of e.key < version_of f.key
  version-rises e f l m p q named named' rises =
      rest-rises (get_or e.key 20 0) (get_or e.key 21 0) (get_or f.key 20 0) (get_or f.key 21 0) (All-get_or (λ b. b < 256) e.key 21 0 (omega arith) p) (All-get_or (λ b. b < 256) f.key 21 0 (omega arith) q)
      (sym (same-front name (rest e) (rest f)) ∙ ap₂ before (sym (named-is e l named)) (sym (named-is f m named')) ∙ rises)

  pub made-named : (e : Entry) (n : ℕ) → length name ≡ 20 → e.key ≡ name ++ two_bytes n → has_name name e ≡ true
  made-named e n long is = front-named e (ap (take 20) is ∙ take_at name (two_bytes n) 20 long)

  pub made-version : (n : ℕ) → length name ≡ 20 → n ≤ highest → version_of (name ++ two_bytes n) ≡ n
  made-version n long l =
      let high = get_or-append_right name (two_bytes n) 20 20 0 long (omega arith) in
      let low = get_or-append_right name (two_bytes n) 20 21 0 long (omega arith) in
      omega arith
