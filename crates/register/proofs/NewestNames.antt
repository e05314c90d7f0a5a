-- The newest entry of a name, and its versions.
--     of_name              an entry, if it is of the name
--     version_or           an entry's version, or 0
--     newest-in, newest-stands     the newest entry of a name is the highest one not above the name's last key, if that is of the name
--     highest-in, highest-stands   the highest version of a name is that of its newest entry, or 0
--     highest-most         it is at most 9,999
--     fresh-version        the version after the highest is not there
--     number_or, version-is, at-number     the number of a version, or 0: that of the newest entry, and what holds at it
use Rattle.std.proofs.Common.{◌≡◌, ℕ, ◌+◌, ◌<◌, ◌≤◌, max, inl, inr, true, false, cond, List, [], ◌∷◌, ◌++◌, length, Some, None, Option, sym, refl, ap, ◌∙◌, subst, arith}
use Rattle.std.specs.List.{AllByRecursion}
use Rattle.std.specs.Option.{MatchOption}
use Rattle.std.proofs.ByRecursion.{All-weaker}
use Rattle.std.proofs.lemmas.Bool.{cond_both, cases_Bool, cases_eq}
use Rattle.names.specs.Names.{is_byte_key, two_bytes, version_of}
use Rattle.names.specs.Versions.{highest, InRange}
use Rattle.names.specs.declared.version.Version.{Version}
use Rattle.names.specs.Orders.{before}
use Rattle.names.proofs.ByteOrder.{keys-ordered}
use Rattle.names.proofs.Stored.{byte-key-long, key-bytes}
use Rattle.rows.specs.Lists.{Sorted, look_up, last_up_to, or_else}
use Rattle.rows.proofs.Sorting.{not_back}
use Rattle.pages.specs.Bytes.{AreBytes}
use Rattle.pages.specs.declared.records.Entry.{Entry}
use Rattle.register.specs.Images.{key_of, entries_of}
use Rattle.register.specs.Registers.{IsRegister}
use Rattle.register.specs.Names.{has_name, newest_of, highest_version_of}
use Rattle.register.proofs.FoundEntries.{kept, Found, either, both, last-there}
use Rattle.register.proofs.NamedKeys.{last_key, key-version, last-not-below, named-between, version-rises, made-named, made-version}
use Rattle.register.proofs.SortedEntries.{register-sorted}

abbrev pub of_name : List ℕ → Option Entry → Option Entry
of_name name o = kept (has_name name) o

abbrev pub version_or : Option Entry → ℕ
version_or None = 0
version_or (Some e) = version_of e.key

abbrev Good : List Entry → Type 0
Good es = AllByRecursion (λ e. is_byte_key e.key ≡ true) es

module _ (name : List ℕ) where
  newest-more : (e : Entry) (es : List Entry) → newest_of name (e ∷ es) ≡ cond (has_name name e) (or_else (newest_of name es) (Some e)) (newest_of name es)
  newest-more e es = grind (arith, cases_Bool (has_name name e))

  newest-none : (es : List Entry) → AllByRecursion (λ e. has_name name e ≡ false) es → newest_of name es ≡ None
  newest-none [] a = refl
  newest-none (e ∷ es) a = let h = newest-none es a.1 in newest-more e es ∙ grind arith

  newest-there : (P : Entry → Type 0) (es : List Entry) → AllByRecursion P es → Found (λ e. P e × (has_name name e ≡ true)) (newest_of name es)
  newest-there P [] a = tt
  newest-there P (e ∷ es) a =
      let Q : Entry → Type 0 = λ e. P e × (has_name name e ≡ true) in
      let h = newest-there P es a.1 in
      subst (Found Q) (sym (newest-more e es)) (cond_both (has_name name e) (or_else (newest_of name es) (Some e)) (newest_of name es) (Found Q) (λ named. either Q (newest_of name es) e h (a.0, named)) (λ _. h))

  above-last : (e : Entry) → is_byte_key e.key ≡ true → before (last_key name) e.key ≡ true → has_name name e ≡ false
  above-last e good p = let h = last-not-below name e good in grind (arith, cases_Bool (has_name name e))

  pub newest-in : (es : List Entry) → Sorted key_of before es → Good es → newest_of name es ≡ of_name name (last_up_to key_of before (last_key name) es)
  newest-in [] s g = refl
  newest-in (e ∷ es) s g =
      let top = last_key name in
      let up = both (λ f. before e.key f.key ≡ true) (λ f. is_byte_key f.key ≡ true) es s.0 g.1 in
      cond_both (before top e.key) None (or_else (last_up_to key_of before top es) (Some e)) (λ v. newest_of name (e ∷ es) ≡ of_name name v)
      (λ p. newest-none (e ∷ es) (
        above-last e g.0 p,
        All-weaker (λ f. (before e.key f.key ≡ true) × (is_byte_key f.key ≡ true)) (λ f. has_name name f ≡ false) (λ f h. above-last f h.1 (keys-ordered.transitive top e.key f.key p h.0)) es up,
      ))
      (λ _. step (last_up_to key_of before top es) (newest-in es s.1 g.1) (last-there (λ f. (before e.key f.key ≡ true) × (is_byte_key f.key ≡ true)) top es up))
    where
      step : (v : Option Entry) → newest_of name es ≡ of_name name v → Found (λ f. ((before e.key f.key ≡ true) × (is_byte_key f.key ≡ true)) × (before (last_key name) f.key ≡ false)) v
          → newest_of name (e ∷ es) ≡ of_name name (or_else v (Some e))
      step None h f = newest-more e es ∙ ap (λ v. cond (has_name name e) (or_else v (Some e)) v) h
      step (Some y) h f =
          let back = not_back before keys-ordered e.key y.key f.0.0 in
          let also = named-between name e y (byte-key-long e.key g.0) (byte-key-long y.key f.0.1) in
          newest-more e es ∙ ap (λ v. cond (has_name name e) (or_else v (Some e)) v) h ∙ grind (arith, cases_Bool (has_name name e), cases_Bool (has_name name y))

  pub highest-in : (es : List Entry) → Sorted key_of before es → Good es → AllByRecursion (λ e. AreBytes e.key) es → highest_version_of name es ≡ version_or (newest_of name es)
  unfolding highest_version_of
  highest-in [] s g b = refl
  highest-in (e ∷ es) s g b =
      step (newest_of name es) (highest-in es s.1 g.1 b.1)
      (newest-there (λ f. (before e.key f.key ≡ true) × ((is_byte_key f.key ≡ true) × AreBytes f.key)) es (both _ _ es s.0 (both _ _ es g.1 b.1)))
      ∙ sym (ap version_or (newest-more e es))
    where
      step : (v : Option Entry) → highest_version_of name es ≡ version_or v → Found (λ f. ((before e.key f.key ≡ true) × ((is_byte_key f.key ≡ true) × AreBytes f.key)) × (has_name name f ≡ true)) v
          → cond (has_name name e) (max (version_of e.key) (highest_version_of name es)) (highest_version_of name es) ≡ version_or (cond (has_name name e) (or_else v (Some e)) v)
      step None h f = grind (arith, cases_Bool (has_name name e))
      step (Some y) h f =
          let above = λ (named : has_name name e ≡ true). version-rises name e y (byte-key-long e.key g.0) (byte-key-long y.key f.0.1.0) b.0 f.0.1.1 named f.1 f.0.0 in
          grind (arith, cases_Bool (has_name name e))

  pub highest-most : (es : List Entry) → Good es → highest_version_of name es ≤ highest
  unfolding highest_version_of
  highest-most [] g = omega arith
  highest-most (e ∷ es) g = let h = highest-most es g.1 in let v = key-version e.key g.0 in grind (arith, cases_Bool (has_name name e))

  highest-each : (e : Entry) (es : List Entry) → (highest_version_of name es ≤ highest_version_of name (e ∷ es)) × (has_name name e ≡ true → version_of e.key ≤ highest_version_of name (e ∷ es))
  unfolding highest_version_of
  highest-each e es = (grind (arith, cases_Bool (has_name name e)), λ named. grind arith)

  pub not-taken : (n : ℕ) (es : List Entry) → length name ≡ 20 → n ≤ highest → highest_version_of name es < n → look_up key_of before (name ++ two_bytes n) es ≡ None
  not-taken n [] long l p = refl
  not-taken n (e ∷ es) long l p =
      let k = name ++ two_bytes n in
      let each = highest-each e es in
      cond_both (before e.key k) (look_up key_of before k es) (cond (before k e.key) None (Some e)) (λ v. v ≡ None) (λ _. not-taken n es long l (omega arith))
      (λ q. cond_both (before k e.key) None (Some e) (λ v. v ≡ None) (λ _. refl)
      (λ r. let is = keys-ordered.decided e.key k q r in absurd (omega (arith, each.1 (made-named name e n long is), ap version_of is, made-version name n long l))))

  pub fresh-version : (v : ℕ) (es : List Entry) → length name ≡ 20 → highest_version_of name es ≡ v → v < highest → look_up key_of before (name ++ two_bytes (v + 1)) es ≡ None
  fresh-version v es long is l = not-taken (v + 1) es long (omega arith) (omega arith)

module _ (P : ℕ) (name : List ℕ) (images : List (List ℕ)) (r : IsRegister P images) where
  pub newest-stands : newest_of name (entries_of images) ≡ of_name name (last_up_to key_of before (name ++ two_bytes 9999) (entries_of images))
  newest-stands = newest-in name (entries_of images) (register-sorted P images r) r.keys

  pub highest-stands : highest_version_of name (entries_of images) ≡ version_or (newest_of name (entries_of images))
  highest-stands = highest-in name (entries_of images) (register-sorted P images r) r.keys (All-weaker (λ e. is_byte_key e.key ≡ true) (λ e. AreBytes e.key) (λ e. key-bytes e.key) (entries_of images) r.keys)

abbrev pub number_or : Option Version → ℕ
number_or None = 0
number_or (Some v) = v.number

pub version-is : (h : ℕ) (o : Option Entry) (r : Option Version) (R : Entry → Type 0) → h ≡ version_or o → h ≤ highest → MatchOption o (r ≡ None) R
    → ((e : Entry) → R e → elim r as (λ _. Type 0) [ Some v ↦ InRange (version_of e.key) × (v.number ≡ version_of e.key) | None ↦ InRange (version_of e.key) → ⊥ ]) → h ≡ number_or r
version-is h None r R e l m f = e ∙ sym (ap number_or m)
version-is h (Some x) None R e l m f = elim (cases_eq h 0) [ inl z ↦ z | inr n ↦ absurd (f x m (omega arith, omega arith)) ]
version-is h (Some x) (Some v) R e l m f = e ∙ sym (f x m).1

pub at-number : (Q : ℕ → Type 0) (r : Option Version) → Q (number_or r) → elim r as (λ _. Type 0) [ Some v ↦ Q v.number | None ↦ Q 0 ]
at-number Q None q = q
at-number Q (Some v) q = q
