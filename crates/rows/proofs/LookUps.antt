-- What is looked up in a list after an entry is put in or taken out.
--     look_up-insert_same, look_up-insert_other    the new entry under its own key, and what was there under every other
--     look_up-remove_same, look_up-remove_other    nothing under the key that goes, and what was there under every other
use Rattle.std.proofs.Common.{◌≡◌, Bool, true, false, List, [], ◌∷◌, Some, None, refl, sym, ◌∙◌, subst, arith}
use Rattle.std.specs.List.{AllByRecursion}
use Rattle.std.proofs.lemmas.Bool.{cases_Bool}
use Rattle.names.specs.Orders.{Total}
use Rattle.rows.specs.Lists.{insert, remove, Sorted, look_up}
use Rattle.rows.proofs.Sorting.{not_back, all_above, entry-right}

module _ {K : Type 0} (lt : K → K → Bool) (o : Total lt) where
  -- of two keys that differ one comes first
  apart : (x y : K) → (x ≡ y → ⊥) → lt x y ≡ false → lt y x ≡ true
  apart x y d p =
      let same = o.decided x y p in
      let never = λ (q : lt y x ≡ false). absurd {A = lt y x ≡ true} (d (same q)) in
      grind (arith, never, cases_Bool (lt y x))

module _ {K E : Type 0} (key : E → K) (lt : K → K → Bool) (o : Total lt) where
  -- nothing is found in front of entries that are all above
  above-none : (k : K) (es : List E) → AllByRecursion (λ y. lt k (key y) ≡ true) es → look_up key lt k es ≡ None
  above-none k es a = entry-right key lt o k [] es a

  pub look_up-insert_same : (e : E) (es : List E) → look_up key lt (key e) es ≡ None → look_up key lt (key e) (insert key lt e es) ≡ Some e
  look_up-insert_same e [] n = grind (arith, o.irreflexive (key e))
  look_up-insert_same e (x ∷ xs) n = let h = look_up-insert_same e xs in grind (arith, o.irreflexive (key e), cases_Bool (lt (key e) (key x)), cases_Bool (lt (key x) (key e)))

  pub look_up-insert_other : (k : K) (e : E) (es : List E) → (key e ≡ k → ⊥) → look_up key lt k (insert key lt e es) ≡ look_up key lt k es
  look_up-insert_other k e [] d = let a = apart lt o (key e) k d in grind (arith, cases_Bool (lt (key e) k))
  look_up-insert_other k e (x ∷ xs) d =
      let h = look_up-insert_other k e xs d in
      let a = apart lt o (key e) k d in
      let t = o.transitive k (key e) (key x) in
      let b = not_back lt o k (key x) in
      grind (arith, cases_Bool (lt (key e) (key x)), cases_Bool (lt (key e) k))

  pub look_up-remove_same : (k : K) (es : List E) → Sorted key lt es → look_up key lt k (remove key lt k es) ≡ None
  look_up-remove_same k [] s = refl
  look_up-remove_same k (x ∷ xs) s =
      let h = look_up-remove_same k xs s.1 in
      let same = o.decided (key x) k in
      let gone = λ (p : key x ≡ k). above-none k xs (subst (λ j. AllByRecursion (λ y. lt j (key y) ≡ true) xs) p s.0) in
      grind (arith, same, gone, cases_Bool (lt (key x) k), cases_Bool (lt k (key x)))

  pub look_up-remove_other : (k j : K) (es : List E) → (j ≡ k → ⊥) → Sorted key lt es → look_up key lt k (remove key lt j es) ≡ look_up key lt k es
  look_up-remove_other k j [] d s = refl
  look_up-remove_other k j (x ∷ xs) d s =
      let h = look_up-remove_other k j xs d s.1 in
      let same = o.decided (key x) j in
      let a = λ (p : key x ≡ j). apart lt o (key x) k (λ q. d (sym p ∙ q)) in
      let gone = λ (p : lt k (key x) ≡ true). above-none k xs (all_above key lt o k (key x) xs p s.0) in
      grind (arith, cases_Bool (lt (key x) j), cases_Bool (lt j (key x)), cases_Bool (lt (key x) k), cases_Bool (lt k (key x)))
