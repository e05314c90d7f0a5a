-- The pages that a root names: none twice, and one that is free.
--     has-mid, has_parts       a page in a list with one more in its middle
--     apart-less, apart-add, apart-mid     no page twice, with one fewer or one more
--     Free, lowest_free        among more pages than are named the lowest free one is one of them
use Rattle.std.proofs.Common.{◌≡◌, ℕ, zero, suc, ◌+◌, ◌<◌, ◌≤◌, true, false, cond, ◌||◌, eqb, List, [], ◌∷◌, ◌++◌, length, sym, refl, ◌∙◌, subst, arith}
use Rattle.std.proofs.lemmas.Bool.{cond_both, cases_Bool}
use Rattle.std.proofs.lemmas.Bool.Decides.{nat_tests}
use Rattle.tree.specs.Tree.{has, Apart, lowest}

-- what stands in the middle of a list
pub has-mid : (r p : ℕ) (ls rs : List ℕ) → has r (ls ++ p ∷ rs) ≡ (eqb r p || has r (ls ++ rs))
has-mid r p [] rs = refl
has-mid r p (l ∷ ls) rs = let h = has-mid r p ls rs in grind (arith, cases_Bool (eqb r p), cases_Bool (eqb r l))

pub apart-less : (p : ℕ) (ls rs : List ℕ) → Apart (ls ++ p ∷ rs) → Apart (ls ++ rs)
apart-less p [] rs a = a.1
apart-less p (l ∷ ls) rs a = (let h = has-mid l p ls rs in grind (arith, cases_Bool (eqb l p)), apart-less p ls rs a.1)

pub apart-add : (q : ℕ) (ls rs : List ℕ) → Apart (ls ++ rs) → has q (ls ++ rs) ≡ false → Apart (ls ++ q ∷ rs)
apart-add q [] rs a h = (h, a)
apart-add q (l ∷ ls) rs a h = (let m = has-mid l q ls rs in grind (arith, nat_tests), apart-add q ls rs a.1 (grind (arith, nat_tests)))

pub has_parts : (r : ℕ) (ls rs : List ℕ) → has r (ls ++ rs) ≡ false → (has r ls ≡ false) × (has r rs ≡ false)
has_parts r [] rs h = (refl, h)
has_parts r (l ∷ ls) rs h = let g = has_parts r ls rs in grind (arith, cases_Bool (eqb r l))

pub apart-mid : (p : ℕ) (ls rs : List ℕ) → Apart (ls ++ p ∷ rs) → has p (ls ++ rs) ≡ false
apart-mid p [] rs a = a.0
apart-mid p (l ∷ ls) rs a = let h = apart-mid p ls rs a.1 in let g = has-mid l p ls rs in grind (arith, nat_tests)

-- the list without q
abbrev others : ℕ → List ℕ → List ℕ
others q [] = []
others q (p ∷ ps) = cond (eqb q p) (others q ps) (p ∷ others q ps)

has-others : (q r : ℕ) (ps : List ℕ) → (q ≡ r → ⊥) → has r (others q ps) ≡ has r ps
has-others q r [] n = refl
has-others q r (p ∷ ps) n = let h = has-others q r ps n in grind (arith, nat_tests)

fewer : (q : ℕ) (ps : List ℕ) → length (others q ps) ≤ length ps
fewer q [] = omega arith
fewer q (p ∷ ps) = let h = fewer q ps in grind (arith, nat_tests)

fewer-by : (q : ℕ) (ps : List ℕ) → has q ps ≡ true → length (others q ps) < length ps
fewer-by q [] h = grind arith
fewer-by q (p ∷ ps) h = let f = fewer q ps in let g = fewer-by q ps in grind (arith, nat_tests)

lowest-others : (n q s : ℕ) (ps : List ℕ) → q < s → lowest n s (others q ps) ≡ lowest n s ps
lowest-others zero q s ps l = refl
lowest-others (suc n) q s ps l = let h = has-others q s ps (λ e. omega arith) in let g = lowest-others n q (suc s) ps (omega arith) in grind (arith, cases_Bool (has s ps))

pub record Free (n q : ℕ) (ps : List ℕ) (r : ℕ) : Type 0 where
  pub from : q ≤ r
  pub below : r < q + n
  pub not_in : has r ps ≡ false

-- among more places than there are pages in use one is free
pub lowest_free : (n q : ℕ) (ps : List ℕ) → length ps < n → Free n q ps (lowest n q ps)
lowest_free zero q ps l = absurd (omega arith)
lowest_free (suc n) q ps l =
    cond_both (has q ps) (lowest n (suc q) ps) q (Free (suc n) q ps)
    (λ h. let f = lowest_free n (suc q) (others q ps) (omega (arith, fewer-by q ps h)) in
    let g : Free n (suc q) (others q ps) (lowest n (suc q) ps) = subst (Free n (suc q) (others q ps)) (lowest-others n q (suc q) ps (omega arith)) f in
    record { from = omega (arith, g.from); below = omega (arith, g.below); not_in = sym (has-others q (lowest n (suc q) ps) ps (λ e. omega (arith, g.from))) ∙ g.not_in })
    (λ h. record { from = omega arith; below = omega arith; not_in = h })
