-- What the writes of a change leave: pages that hold the changed tree.
--     held-one       one leaf written
--     held-two       two leaves and the root
--     held-fewer     a leaf that the tree lacks from now on, and the root
use Rattle.std.proofs.Common.{◌≡◌, ℕ, ◌<◌, ◌≤◌, ◌≢◌, List, [], ◌∷◌, ◌++◌, length, sym, ap, ◌∙◌, arith}
use Rattle.std.specs.List.{AllByRecursion}
use Rattle.std.proofs.ByRecursion.{All-append}
use Rattle.names.specs.Orders.{before}
use Rattle.rows.proofs.Sorting.{all-parts}
use Rattle.tree.specs.Tree.{Node, node, with_first}
use Rattle.pages.specs.Writes.{PageWrite, imaged}
use Rattle.pages.specs.declared.records.Entry.{Entry}
use Rattle.register.specs.Images.{zero_key, key_of, leaf_page, root_page, write}
use Rattle.register.proofs.Written.{page-kept, page-written}
use Rattle.register.proofs.Trees.{Tree, items_for, items-alike, OnPage, Held}
use Rattle.register.proofs.Homes.{Absent, absent-parts}

-- writes to other pages
first-other : (n : Node (List ℕ) Entry) (t : Tree) (ws : List PageWrite) → AllByRecursion (λ w. Absent w.page (n ∷ t)) ws → AllByRecursion (λ w. n.page ≢ w.page) ws × AllByRecursion (λ w. Absent w.page t) ws
first-other n t [] a = (tt, tt)
first-other n t (w ∷ ws) a =
    let h = first-other n t ws a.1 in
    let x = absent-parts w.page [] t n a.0 in
    ((λ e. x.1 (sym e), h.0), (x.2, h.1))

leaves-kept : (ws : List PageWrite) (images : List (List ℕ)) (t : Tree) → AllByRecursion (λ w. Absent w.page t) ws → AllByRecursion (OnPage images) t → AllByRecursion (OnPage (imaged ws images)) t
leaves-kept ws images [] a h = tt
leaves-kept ws images (n ∷ t) a h = let o = first-other n t ws a in (page-kept ws images n.page o.0 ∙ h.0, leaves-kept ws images t o.1 h.1)

-- another first separator
first-kept : (images : List (List ℕ)) (t : Tree) → AllByRecursion (OnPage images) t → AllByRecursion (OnPage images) (with_first key_of before zero_key t)
first-kept images [] a = tt
first-kept images (n ∷ t) a = a

module _ (images : List (List ℕ)) (left right : Tree) (m : Node (List ℕ) Entry) (held : Held images (left ++ m ∷ right)) (on_left : Absent m.page left) (on_right : Absent m.page right) (root : Absent 0 (left ++ m ∷ right)) (within : m.page < length images) where
  leaves : AllByRecursion (OnPage images) left × AllByRecursion (OnPage images) (m ∷ right)
  leaves = all-parts (OnPage images) left (m ∷ right) held.leaves

  no-root : Absent 0 left × (0 ≢ m.page) × Absent 0 right
  no-root = absent-parts 0 left right m root

  -- the leaf gives way to others, and its neighbours stay
  joined : (ws : List PageWrite) (mid : Tree) → AllByRecursion (λ w. Absent w.page left) ws → AllByRecursion (λ w. Absent w.page right) ws → AllByRecursion (OnPage (imaged ws images)) mid → AllByRecursion (OnPage (imaged ws images)) (left ++ (mid ++ right))
  joined ws mid l r h =
      let Q = OnPage (imaged ws images) in
      All-append Q left (mid ++ right) (leaves-kept ws images left l leaves.0) (All-append Q mid right h (leaves-kept ws images right r leaves.1.1))

  pub held-one : (es : List Entry) → Held (imaged (write m.page (leaf_page es) ∷ []) images) (left ++ node m.sep m.page es ∷ right)
  held-one es =
      let ws = write m.page (leaf_page es) ∷ [] in
      record {
        root = page-kept ws images 0 (no-root.1, tt) ∙ held.root ∙ ap root_page (items-alike left right m es);
        leaves = joined ws (node m.sep m.page es ∷ []) (on_left, tt) (on_right, tt) (page-written [] (write m.page (leaf_page es)) [] images within tt, tt);
      }

  pub held-two : (q : ℕ) (s : List ℕ) (es fs : List Entry) → Absent q (left ++ m ∷ right) → 1 ≤ q → q < length images
      → let t = left ++ node m.sep m.page es ∷ node s q fs ∷ right in
      Held (imaged (write m.page (leaf_page es) ∷ write q (leaf_page fs) ∷ write 0 (root_page (items_for t)) ∷ []) images) t
  held-two q s es fs a from to =
      let t = left ++ node m.sep m.page es ∷ node s q fs ∷ right in
      let one = write m.page (leaf_page es) in
      let two = write q (leaf_page fs) in
      let three = write 0 (root_page (items_for t)) in
      let o = absent-parts q left right m a in
      let far = λ (e : m.page ≡ 0). no-root.1 (sym e) in
      let q0 : q ≢ 0 = λ e. omega arith in
      record {
        root = page-written (one ∷ two ∷ []) three [] images (omega arith) tt;
        leaves = joined (one ∷ two ∷ three ∷ []) (node m.sep m.page es ∷ node s q fs ∷ []) (on_left, (o.0, (no-root.0, tt))) (on_right, (o.2, (no-root.2, tt)))
            (page-written [] one (two ∷ three ∷ []) images within (λ e. o.1 (sym e), (far, tt)), (page-written (one ∷ []) two (three ∷ []) images to (q0, tt), tt));
      }

  pub held-fewer : (es : List Entry) → let t = with_first key_of before zero_key (left ++ right) in Held (imaged (write m.page (leaf_page es) ∷ write 0 (root_page (items_for t)) ∷ []) images) t
  held-fewer es =
      let t = with_first key_of before zero_key (left ++ right) in
      let one = write m.page (leaf_page es) in
      let two = write 0 (root_page (items_for t)) in
      let ws = one ∷ two ∷ [] in
      record {
        root = page-written (one ∷ []) two [] images (omega arith) tt;
        leaves = first-kept (imaged ws images) (left ++ right) (joined ws [] (on_left, (no-root.0, tt)) (on_right, (no-root.2, tt)) tt);
      }
