-- Putting an entry in, by the leaf that its key belongs to.
--     one_leaf           the tree with the entry in that leaf
--     two_leaves         the same with the leaf split
--     put_in-home        what it makes of the tree
--     put_writes-home    what it writes
use Rattle.std.proofs.Common.{◌≡◌, ℕ, suc, ◌-◌, min, cond, ltb, List, [], ◌∷◌, ◌++◌, length, get_or, take, drop, Some, None, sym, ap, ◌∙◌}
use Rattle.names.specs.Orders.{before}
use Rattle.rows.specs.Lists.{insert, put_at}
use Rattle.tree.specs.Tree.{Node, node, pages, lowest, change, with_more, split, put_in}
use Rattle.pages.specs.declared.records.Item.{Item}
use Rattle.pages.specs.declared.records.Entry.{Entry}
use Rattle.register.specs.Images.{key_of, item, no_entry, items_of, leaf_of, tree_of, leaf_page, root_page, pages_of, seat, with_entry, write, split_writes, put_writes}
use Rattle.register.proofs.Parts.{put-part}
use Rattle.register.proofs.Places.{insert-is}
use Rattle.register.proofs.Trees.{Tree, item_for, items_for, items-alike, pages-items}
use Rattle.register.proofs.Homes.{Home}

module _ (P : ℕ) (e : Entry) (images : List (List ℕ)) (h : Home P images e.key) where
  abbrev leaf : Node (List ℕ) Entry
  leaf = h.leaf

  abbrev was : Tree
  was = h.left ++ leaf ∷ h.right

  abbrev es : List Entry
  es = insert key_of before e leaf.entries

  -- the page for a second half
  abbrev q : ℕ
  q = lowest (P - 1) 1 (pages was)

  abbrev pub one_leaf : Tree
  one_leaf = h.left ++ node leaf.sep leaf.page es ∷ h.right

  abbrev pub two_leaves : Tree
  two_leaves = h.left ++ node leaf.sep leaf.page (take 8 es) ∷ node (get_or es 8 no_entry).key q (drop 8 es) ∷ h.right

  pub put_in-home : put_in key_of before P e (tree_of images) ≡ cond (ltb (length leaf.entries) 15) (Some one_leaf) (cond (ltb (length was) (min 20 (P - 1))) (Some (h.left ++ (split key_of before q e leaf ++ h.right))) None)
  put_in-home =
      let by = λ (n : ℕ) (a : Tree) (t : Tree) (b : Tree). cond (ltb n 15) (Some a) (cond (ltb (length t) (min 20 (P - 1))) (Some b) None) in
      let f = λ (t : Tree). split key_of before (lowest (P - 1) 1 (pages t)) e in
      let t = h.first ∷ h.rest in
      ap (put_in key_of before P e) h.whole
      ∙ ap (λ (m : Node (List ℕ) Entry). by (length m.entries) (change key_of before (with_more key_of before e) e.key h.first h.rest) t (change key_of before (f t) e.key h.first h.rest)) h.found
      ∙ ap (λ a. by (length leaf.entries) a t (change key_of before (f t) e.key h.first h.rest)) (h.changed (with_more key_of before e))
      ∙ ap (λ b. by (length leaf.entries) one_leaf t b) (h.changed (f t))
      ∙ ap (λ t. by (length leaf.entries) one_leaf t (h.left ++ (f t leaf ++ h.right))) (sym h.whole ∙ h.parts)

  pub put_writes-home : put_writes P e images ≡ cond (ltb (length leaf.entries) 15) (write leaf.page (leaf_page es) ∷ [])
      (write leaf.page (leaf_page (take 8 es)) ∷ write q (leaf_page (drop 8 es)) ∷ write 0 (root_page (items_for two_leaves)) ∷ [])
  unfolding put_writes
  put_writes-home =
      let by = λ (i p : ℕ) (is : List Item) (n : ℕ) (es : List Entry). cond (ltb n 15) (write p (leaf_page es) ∷ []) (split_writes i p (lowest (P - 1) 1 (pages_of is)) is es) in
      let is = items_of images in
      let i = seat is e.key in
      let n = length leaf.entries in
      let new = node (get_or es 8 no_entry).key q (drop 8 es) in
      let ws = λ (q : ℕ) (is : List Item). write leaf.page (leaf_page (take 8 es)) ∷ write q (leaf_page (drop 8 es)) ∷ write 0 (root_page is) ∷ [] in
      ap (λ p. by i p is (length (leaf_of images p)) (with_entry (leaf_of images p) e)) h.page
      ∙ ap (λ fs. by i leaf.page is (length fs) (with_entry fs e)) h.held
      ∙ ap (by i leaf.page is n) (sym (insert-is e leaf.entries))
      ∙ ap (λ i. by i leaf.page is n es) h.place
      ∙ ap (λ is. by (length h.left) leaf.page is n es) h.items
      ∙ ap (λ ps. let q = lowest (P - 1) 1 ps in cond (ltb n 15) (write leaf.page (leaf_page es) ∷ []) (ws q (put_at (items_for was) (suc (length h.left)) (item (get_or es 8 no_entry).key q)))) (pages-items was)
      ∙ ap (λ is. cond (ltb n 15) (write leaf.page (leaf_page es) ∷ []) (ws q is)) (put-part item_for leaf h.right h.left new ∙ items-alike h.left (new ∷ h.right) leaf (take 8 es))
