-- The pages that items name, and what writes of the root leave.
--     lowest-found     the lowest page that is not named, by a search from the first on
--     free-below       with fewer items than leaves there may be, that page is one of the register's
--     zero_first-made  the first separator set to zeros
--     split-made       what a split writes, one page after another
use Rattle.std.proofs.Common.{◌≡◌, ℕ, zero, suc, ◌+◌, ◌-◌, ◌<◌, ◌≤◌, inl, inr, true, false, cond, List, [], ◌∷◌, length, get_or, take, drop, set, Some, None, Option, sym, refl, ap, ◌∙◌, subst, add-one, arith}
use Rattle.std.specs.Option.{MatchOption}
use Rattle.std.proofs.lemmas.Bool.{cases_eq}
use Rattle.std.proofs.lemmas.List.{length-map}
use Rattle.tree.specs.Tree.{has, lowest}
use Rattle.tree.proofs.Pages.{lowest_free}
use Rattle.pages.specs.declared.records.Item.{Item}
use Rattle.rows.specs.Lists.{put_at}
use Rattle.pages.specs.Writes.{edit, wrote}
use Rattle.pages.specs.declared.records.Entry.{Entry}
use Rattle.register.specs.Images.{no_item, no_entry, item, zero_key, zero_first, pages_of, leaf_page, root_page, split_writes}

lowest-at : (n q p : ℕ) (ps : List ℕ) → q ≤ p → p < q + n → has p ps ≡ false → ((k : ℕ) → q ≤ k → k < p → has k ps ≡ true) → p ≡ lowest n q ps
lowest-at zero q p ps a b h f = absurd (omega arith)
lowest-at (suc n) q p ps a b h f =
    elim (cases_eq p q) [
      | inl e ↦ e ∙ ap (λ b. cond b (lowest n (suc q) ps) q) (sym (subst (λ k. has k ps ≡ false) e h))
      | inr ne ↦ lowest-at n (suc q) p ps (omega arith) (omega arith) h (λ k l m. f k (omega arith) m) ∙ ap (λ b. cond b (lowest n (suc q) ps) q) (sym (f q (omega arith) (omega arith)))
    ]

lowest_none : (n q : ℕ) (ps : List ℕ) → ((k : ℕ) → q ≤ k → k < q + n → has k ps ≡ true) → q + n ≡ lowest n q ps
lowest_none zero q ps f = omega arith
lowest_none (suc n) q ps f =
    let next = lowest_none n (suc q) ps (λ k l m. f k (omega arith) (omega arith)) in
    let e : q + suc n ≡ suc q + n = omega arith in
    e ∙ next ∙ ap (λ b. cond b (lowest n (suc q) ps) q) (sym (f q (omega arith) (omega arith)))

pub lowest-found : (P : ℕ) (ps : List ℕ) (r : Option ℕ) → lowest (P - 1) 1 ps < P
    → MatchOption r ((k : ℕ) → 1 ≤ k → k < P → has k ps ≡ true) (λ i. (1 ≤ i) × (i < P) × (has i ps ≡ false) × ((k : ℕ) → 1 ≤ k → k < i → has k ps ≡ true)) → r ≡ Some (lowest (P - 1) 1 ps)
lowest-found P ps None l f = absurd (omega (arith, lowest_none (P - 1) 1 ps (λ k a b. f k a (omega arith))))
lowest-found P ps (Some i) l f = ap Some (lowest-at (P - 1) 1 i ps f.0 (omega (arith, f.1)) f.2 f.3)

pub free-below : (is : List Item) (P : ℕ) → length is < P - 1 → lowest (P - 1) 1 (pages_of is) < P
free-below is P l = let g = lowest_free (P - 1) 1 (pages_of is) (simp length-map (omega arith)) in omega (arith, g.below)

pub zero_first-made : (xs : List Item) → set xs 0 (item zero_key (get_or xs 0 no_item).page) ≡ zero_first xs
zero_first-made [] = refl
zero_first-made (x ∷ xs) = refl

pub split-made : {X : Type 0} (written : X → List ℕ → X) (pages one two three : List X) (is items : List Item) (es a b : List Entry) (i p q : ℕ)
    → one ≡ edit (λ x. written x (leaf_page a)) p pages → a ≡ take 8 es → two ≡ edit (λ x. written x (leaf_page b)) q one → b ≡ drop 8 es
    → three ≡ edit (λ x. written x (root_page items)) 0 two → items ≡ put_at is (i + 1) (item (get_or es 8 no_entry).key q)
    → three ≡ wrote written (split_writes i p q is es) pages
unfolding wrote
split-made written pages one two three is items es a b i p q w x y z u v =
    let s : suc i ≡ i + 1 = sym (add-one i) in
    let new = put_at is (suc i) (item (get_or es 8 no_entry).key q) in
    let lower = w ∙ ap (λ l. edit (λ x. written x (leaf_page l)) p pages) x in
    let upper = y ∙ ap (λ l. edit (λ x. written x (leaf_page l)) q one) z ∙ ap (edit (λ x. written x (leaf_page (drop 8 es))) q) lower in
    u ∙ ap (λ l. edit (λ x. written x (root_page l)) 0 two) (v ∙ ap (λ j. put_at is j (item (get_or es 8 no_entry).key q)) (sym s)) ∙ ap (edit (λ x. written x (root_page new)) 0) upper
