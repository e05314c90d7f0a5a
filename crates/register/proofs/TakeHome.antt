-- Taking the entry of a key out, by the leaf that the key belongs to.
--     leaf_goes            the leaf would be empty, and is not the only one
--     leaf_less            the tree without the entry in that leaf
--     without_leaf         the tree without the leaf
--     take_out-home        what it makes of the tree
--     take_writes-home     what it writes
use Rattle.std.proofs.Common.{◌≡◌, ℕ, Bool, cond, ◌&&◌, eqb, ltb, List, [], ◌∷◌, ◌++◌, length, Some, sym, refl, ap, ◌∙◌}
use Rattle.std.proofs.lemmas.List.{length-map}
use Rattle.names.specs.Orders.{before}
use Rattle.rows.specs.Lists.{remove, look_up, without}
use Rattle.tree.specs.Tree.{Node, node, change, with_less, dropped, with_first, take_out}
use Rattle.pages.specs.declared.records.Item.{Item}
use Rattle.pages.specs.declared.records.Entry.{Entry}
use Rattle.register.specs.Images.{zero_key, key_of, items_of, leaf_of, tree_of, entries_of, leaf_page, root_page, seat, less_entry, zero_first, write, take_writes}
use Rattle.register.proofs.Parts.{without-part}
use Rattle.register.proofs.Places.{remove-is}
use Rattle.register.proofs.Trees.{Tree, item_for, items_for}
use Rattle.register.proofs.Homes.{Home}

zero_first-items : (t : Tree) → zero_first (items_for t) ≡ items_for (with_first key_of before zero_key t)
zero_first-items [] = refl
zero_first-items (n ∷ t) = refl

module _ (P : ℕ) (k : List ℕ) (images : List (List ℕ)) (h : Home P images k) where
  abbrev leaf : Node (List ℕ) Entry
  leaf = h.leaf

  abbrev was : Tree
  was = h.left ++ leaf ∷ h.right

  abbrev es : List Entry
  es = remove key_of before k leaf.entries

  abbrev pub leaf_goes : Bool
  leaf_goes = ltb 1 (length was) && eqb (length es) 0

  abbrev pub leaf_less : Tree
  leaf_less = h.left ++ node leaf.sep leaf.page es ∷ h.right

  abbrev pub without_leaf : Tree
  without_leaf = with_first key_of before zero_key (h.left ++ h.right)

  pub take_out-home : take_out key_of before zero_key k (tree_of images) ≡ cond leaf_goes without_leaf leaf_less
  take_out-home =
      let by = λ (t : Tree) (es : List Entry) (a b : Tree). cond (ltb 1 (length t) && eqb (length es) 0) (with_first key_of before zero_key a) b in
      let t = h.first ∷ h.rest in
      ap (take_out key_of before zero_key k) h.whole
      ∙ ap (λ (m : Node (List ℕ) Entry). by t (remove key_of before k m.entries) (change key_of before (dropped key_of before) k h.first h.rest) (change key_of before (with_less key_of before k) k h.first h.rest)) h.found
      ∙ ap (λ a. by t es a (change key_of before (with_less key_of before k) k h.first h.rest)) (h.changed (dropped key_of before))
      ∙ ap (λ b. by t es (h.left ++ h.right) b) (h.changed (with_less key_of before k))
      ∙ ap (λ t. by t es (h.left ++ h.right) leaf_less) (sym h.whole ∙ h.parts)

  module _ (x : Entry) (there : look_up key_of before k (entries_of images) ≡ Some x) where
    pub take_writes-home : take_writes k images ≡ cond leaf_goes (write leaf.page (leaf_page es) ∷ write 0 (root_page (items_for without_leaf)) ∷ []) (write leaf.page (leaf_page es) ∷ [])
    unfolding take_writes
    take_writes-home =
        let by = λ (i p : ℕ) (is : List Item) (es : List Entry). cond (ltb 1 (length is) && eqb (length es) 0) (write p (leaf_page es) ∷ write 0 (root_page (zero_first (without is i))) ∷ []) (write p (leaf_page es) ∷ []) in
        let is = items_of images in
        let i = seat is k in
        ap (λ p. by i p is (less_entry (leaf_of images p) k)) h.page
        ∙ ap (λ fs. by i leaf.page is (less_entry fs k)) h.held
        ∙ ap (by i leaf.page is) (sym (remove-is k leaf.entries x h.rises (sym h.look ∙ there)))
        ∙ ap (λ i. by i leaf.page is es) h.place
        ∙ ap (λ is. by (length h.left) leaf.page is es) h.items
        ∙ ap (λ n. cond (ltb 1 n && eqb (length es) 0) (write leaf.page (leaf_page es) ∷ write 0 (root_page (zero_first (without (items_for was) (length h.left)))) ∷ []) (write leaf.page (leaf_page es) ∷ [])) (length-map was item_for)
        ∙ ap (λ is. cond leaf_goes (write leaf.page (leaf_page es) ∷ write 0 (root_page is) ∷ []) (write leaf.page (leaf_page es) ∷ []))
        (ap zero_first (without-part item_for leaf h.right h.left) ∙ zero_first-items (h.left ++ h.right))
