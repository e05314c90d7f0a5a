-- The tree's operations are those of the plain list of its entries, and keep its rules.
--     or-none      one answer or else none
--     put-stands, take-stands, finds-stand     putting in, taking out and looking up
use Rattle.std.proofs.Common.{◌≡◌, ℕ, ◌-◌, ◌<◌, ◌≤◌, min, Bool, false, cond, ◌&&◌, eqb, ltb, List, [], ◌∷◌, ◌++◌, length, take, drop, Some, None, Option, sym, refl, ap, ◌∙◌, append-nil, arith}
use Rattle.std.specs.List.{AllByRecursion}
use Rattle.std.proofs.lemmas.Bool.{cond_both, ltb-true, ltb-false, eqb-true, and_parts}
use Rattle.std.proofs.lemmas.List.{nil_from_length, take-append-drop}
use Rattle.std.proofs.lemmas.Bool.Decides.{nat_tests}
use Rattle.rows.specs.Lists.{insert, remove, last_up_to, or_else}
use Rattle.tree.specs.Tree.{Node, pages, entries, lowest, change, leaf_at, with_more, second, split, with_less, dropped, with_first, Shape}
use Rattle.tree.specs.Laws.{Put, PutStands, TakeStands, FindsStand}
use Rattle.rows.proofs.Sorting.{length-remove-le}
use Rattle.tree.proofs.Nodes.{change-entries, insert-local, remove-local, entry_in, above_in, up_to-in}
use Rattle.tree.proofs.Shapes.{leaf-has, put-with_more, put-split, take-with_less, take-dropped}

pub or-none : {X : Type 0} (v : Option X) → or_else v None ≡ v
or-none (Some x) = refl
or-none None = refl

module _ {K E : Type 0} (key : E → K) (lt : K → K → Bool) where
  second-entries : (q : ℕ) (es : List E) → entries (second key lt q es) ≡ es
  second-entries q [] = refl
  second-entries q (y ∷ ys) = append-nil (y ∷ ys)

  with_first-entries : (z : K) (t : List (Node K E)) → entries (with_first key lt z t) ≡ entries t
  with_first-entries z [] = refl
  with_first-entries z (n ∷ ns) = refl

  pub put-stands : PutStands key lt
  put-stands o z P e n ns l s f =
      let m = leaf_at key lt (key e) n ns in
      let q = lowest (P - 1) 1 (pages (n ∷ ns)) in
      let small = leaf-has key lt (λ m. length m.entries ≤ 15) (key e) n ns s.sizes in
      cond_both (ltb (length m.entries) 15) (Some (change key lt (with_more key lt e) (key e) n ns))
      (cond (ltb (length (n ∷ ns)) (min 20 (P - 1))) (Some (change key lt (split key lt q e) (key e) n ns)) None) (Put key lt z P e n ns)
      (λ a. (
        put-with_more key lt o z P e n ns l s f (ltb-true _ _ a),
        change-entries key lt o (with_more key lt e) (key e) (insert key lt e) (insert-local key lt o e) n ns None (append-nil (insert key lt e m.entries)) s.fine,
      ))
      (λ a. cond_both (ltb (length (n ∷ ns)) (min 20 (P - 1))) (Some (change key lt (split key lt q e) (key e) n ns)) None (Put key lt z P e n ns)
      (λ b. (
        put-split key lt o z P e n ns l s f (omega (arith, ltb-false _ _ a)) (ltb-true _ _ b),
        change-entries key lt o (split key lt q e) (key e) (insert key lt e) (insert-local key lt o e) n ns None
            (ap (λ es. take 8 (insert key lt e m.entries) ++ es) (second-entries q (drop 8 (insert key lt e m.entries))) ∙ take-append-drop 8 (insert key lt e m.entries)) s.fine,
      ))
      (λ b. (omega (arith, s.few, ltb-false _ _ b), omega (arith, ltb-false _ _ a))))

  pub take-stands : TakeStands key lt
  take-stands o z P k [] l s = (s, refl)
  take-stands o z P k (n ∷ ns) l s =
      let m = leaf_at key lt k n ns in
      let small = leaf-has key lt (λ m. length m.entries ≤ 15) k n ns s.sizes in
      let t = ltb 1 (length (n ∷ ns)) && eqb (length (remove key lt k m.entries)) 0 in
      cond_both t (with_first key lt z (change key lt (dropped key lt) k n ns)) (change key lt (with_less key lt k) k n ns) (λ u. Shape key lt z P u × (entries u ≡ remove key lt k (entries (n ∷ ns))))
      (λ b. let p = and_parts (ltb 1 (length (n ∷ ns))) (eqb (length (remove key lt k m.entries)) 0) b in (
        take-dropped key lt o z P k n ns l s (ltb-true _ _ p.0),
        with_first-entries z (change key lt (dropped key lt) k n ns)
            ∙ change-entries key lt o (dropped key lt) k (remove key lt k) (remove-local key lt o k) n ns None (sym (nil_from_length (remove key lt k m.entries) (eqb-true _ _ p.1))) s.fine,
      ))
      (λ b. (
        take-with_less key lt o z P k n ns l s (λ c. kept c b) (omega (arith, length-remove-le key lt k m.entries)),
        change-entries key lt o (with_less key lt k) k (remove key lt k) (remove-local key lt o k) n ns None (append-nil (remove key lt k m.entries)) s.fine,
      ))
    where
      kept : 1 < length (n ∷ ns) → (ltb 1 (length (n ∷ ns)) && eqb (length (remove key lt k (leaf_at key lt k n ns).entries)) 0) ≡ false → 0 < length (remove key lt k (leaf_at key lt k n ns).entries)
      kept c b = grind (arith, nat_tests)

  pub finds-stand : FindsStand key lt
  finds-stand o z P k n ns s = (
    entry_in key lt o k n ns None s.fine,
    above_in key lt o k n ns None s.fine (rest ns s.filled),
    sym (or-none (last_up_to key lt k (entries (n ∷ ns)))) ∙ up_to-in key lt o k None n ns None s.fine (λ c. (s.filled (omega arith)).0) (rest ns s.filled),
  )
    where
      rest : (ns : List (Node K E)) → (1 < length (n ∷ ns) → AllByRecursion (λ n. 0 < length n.entries) (n ∷ ns)) → AllByRecursion (λ n. 0 < length n.entries) ns
      rest [] f = tt
      rest (m ∷ ms) f = (f (omega arith)).1
