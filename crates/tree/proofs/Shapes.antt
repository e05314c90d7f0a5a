-- The rules of a tree after a change.
--     all-change, length-change, bound-change      what holds of each node, how many there are, and where they begin
--     leaf-has         what holds of each node holds of a key's leaf
--     apart-same, apart-dropped, apart-two         the pages after a change
--     put-with_more, put-split                     a leaf with one entry more, and one that is split
--     take-with_less, take-dropped                 a leaf with one entry fewer, and one that goes
use Rattle.std.proofs.Common.{◌≡◌, ℕ, ◌+◌, ◌-◌, ◌<◌, ◌≤◌, min, Bool, false, List, [], ◌∷◌, ◌++◌, length, take, drop, Some, None, Option, sym, refl, ap, ◌∙◌, subst, append_assoc, arith}
use Rattle.std.specs.List.{AllByRecursion}
use Rattle.std.proofs.lemmas.Bool.{cond_both}
use Rattle.std.proofs.ByRecursion.{All-append, All-weaker}
use Rattle.std.proofs.lemmas.List.{length-append, length-take, length-drop, length-map, map-append}
use Rattle.names.specs.Orders.{Total}
use Rattle.rows.specs.Lists.{insert, remove, look_up}
use Rattle.tree.specs.Tree.{Node, node, pages, entries, has, Apart, lowest, Under, bound, Fine, change, leaf_at, with_more, second, split, with_less, dropped, with_first, Shape}
use Rattle.rows.proofs.Sorting.{le-lt, le_trans, not_back, all-parts, length-insert}
use Rattle.tree.proofs.Nodes.{spot, change-fine, keeps-with_more, keeps-split, keeps-with_less, keeps-dropped, entry_in}
use Rattle.tree.proofs.Pages.{apart-less, apart-add, lowest_free}

module _ {K E : Type 0} (key : E → K) (lt : K → K → Bool) where
  -- what holds of each node, and of what the change makes of one
  pub all-change : (P : Node K E → Type 0) (f : Node K E → List (Node K E)) (k : K) (n : Node K E) (ns : List (Node K E))
      → AllByRecursion P (n ∷ ns) → (P (leaf_at key lt k n ns) → AllByRecursion P (f (leaf_at key lt k n ns))) → AllByRecursion P (change key lt f k n ns)
  all-change P f k n ns a g =
      let h = spot key lt k n ns in
      let p = all-parts P h.left (leaf_at key lt k n ns ∷ h.right) (subst (AllByRecursion P) h.whole a) in
      subst (AllByRecursion P) (sym (h.changed f)) (All-append P h.left (f (leaf_at key lt k n ns) ++ h.right) p.0 (All-append P (f (leaf_at key lt k n ns)) h.right (g p.1.0) p.1.1))

  pub length-change : (f : Node K E → List (Node K E)) (k : K) (n : Node K E) (ns : List (Node K E)) → length (change key lt f k n ns) + 1 ≡ length (n ∷ ns) + length (f (leaf_at key lt k n ns))
  length-change f k n ns =
      let h = spot key lt k n ns in
      let m = leaf_at key lt k n ns in
      omega (arith, ap length h.whole, length-append h.left (m ∷ h.right), ap length (h.changed f), length-append h.left (f m ++ h.right), length-append (f m) h.right)

  pub leaf-has : (P : Node K E → Type 0) (k : K) (n : Node K E) (ns : List (Node K E)) → AllByRecursion P (n ∷ ns) → P (leaf_at key lt k n ns)
  leaf-has P k n ns a = let h = spot key lt k n ns in (all-parts P h.left (leaf_at key lt k n ns ∷ h.right) (subst (AllByRecursion P) h.whole a)).1.0

  pub bound-change : (f : Node K E → List (Node K E)) → ((m : Node K E) (h : Option K) → bound key lt (f m) h ≡ Some m.sep) → (k : K) (n : Node K E) (ns : List (Node K E)) (hi : Option K) → bound key lt (change key lt f k n ns) hi ≡ Some n.sep
  bound-change f g k n [] hi = g n hi
  bound-change f g k n (m ∷ ms) hi =
      cond_both (lt k m.sep) (f n ++ (m ∷ ms)) (n ∷ change key lt f k m ms) (λ t. bound key lt t hi ≡ Some n.sep)
      (λ _. elim (f n) as (λ t. ((h : Option K) → bound key lt t h ≡ Some n.sep) → bound key lt (t ++ (m ∷ ms)) hi ≡ Some n.sep) [ [] ↦ λ g. g (Some m.sep) | x ∷ xs ↦ λ g. g hi ] (g n))
      (λ _. refl)

  -- the pages in use, where the leaf becomes none, one on its page, or two
  module _ (f : Node K E → List (Node K E)) (k : K) (n : Node K E) (ns : List (Node K E)) where
    pages-change : (qs : List ℕ) → pages (f (leaf_at key lt k n ns)) ≡ qs → let h = spot key lt k n ns in
        (pages (n ∷ ns) ≡ pages h.left ++ (leaf_at key lt k n ns).page ∷ pages h.right) × (pages (change key lt f k n ns) ≡ pages h.left ++ (qs ++ pages h.right))
    pages-change qs e =
        let h = spot key lt k n ns in
        let m = leaf_at key lt k n ns in (
          ap pages h.whole ∙ map-append (λ x. x.page) h.left (m ∷ h.right),
          ap pages (h.changed f) ∙ map-append (λ x. x.page) h.left (f m ++ h.right) ∙ ap (λ ps. pages h.left ++ ps) (map-append (λ x. x.page) (f m) h.right ∙ ap (λ ps. ps ++ pages h.right) e),
        )

    pub apart-same : pages (f (leaf_at key lt k n ns)) ≡ (leaf_at key lt k n ns).page ∷ [] → Apart (pages (n ∷ ns)) → Apart (pages (change key lt f k n ns))
    apart-same e a = let p = pages-change ((leaf_at key lt k n ns).page ∷ []) e in subst Apart (p.0 ∙ sym p.1) a

    pub apart-dropped : pages (f (leaf_at key lt k n ns)) ≡ [] → Apart (pages (n ∷ ns)) → Apart (pages (change key lt f k n ns))
    apart-dropped e a =
        let h = spot key lt k n ns in
        let p = pages-change [] e in subst Apart (sym p.1) (apart-less (leaf_at key lt k n ns).page (pages h.left) (pages h.right) (subst Apart p.0 a))

    pub apart-two : (q : ℕ) → pages (f (leaf_at key lt k n ns)) ≡ (leaf_at key lt k n ns).page ∷ q ∷ [] → has q (pages (n ∷ ns)) ≡ false → Apart (pages (n ∷ ns)) → Apart (pages (change key lt f k n ns))
    apart-two q e g a =
        let h = spot key lt k n ns in
        let m = (leaf_at key lt k n ns).page in
        let p = pages-change (m ∷ q ∷ []) e in
        let s = λ (r : List ℕ). append_assoc (pages h.left) (m ∷ []) r in
        subst Apart (s (q ∷ pages h.right) ∙ sym p.1)
        (apart-add q (pages h.left ++ m ∷ []) (pages h.right) (subst Apart (p.0 ∙ sym (s (pages h.right))) a) (subst (λ ps. has q ps ≡ false) (p.0 ∙ sym (s (pages h.right))) g))

  -- what goes to the new page
  half : (q : ℕ) (es : List E) → length es ≡ 8 → pages (second key lt q es) ≡ q ∷ []
  half q [] l = absurd (omega arith)
  half q (y ∷ ys) l = refl

  half-all : (P : Node K E → Type 0) (q : ℕ) (es : List E) → ((s : K) → P (node s q es)) → AllByRecursion P (second key lt q es)
  half-all P q [] h = tt
  half-all P q (y ∷ ys) h = (h (key y), tt)

  -- where only a single leaf may lack a property, and the changed one has it
  all-but-single : (P : Node K E → Type 0) (k : K) (n : Node K E) (ns : List (Node K E)) → (1 < length (n ∷ ns) → AllByRecursion P (n ∷ ns)) → P (leaf_at key lt k n ns) → AllByRecursion P (n ∷ ns)
  all-but-single P k n [] g p = (p, tt)
  all-but-single P k n (m ∷ ms) g p = g (omega arith)

  module _ (o : Total lt) (z : K) (P : ℕ) where
    not_first : (k : K) (n : Node K E) (ns : List (Node K E)) → lt k z ≡ false → bound key lt (n ∷ ns) None ≡ Some z → lt k n.sep ≡ false
    not_first k n ns l b = let e : n.sep ≡ z = cc in rw e l

    module _ (e : E) (n : Node K E) (ns : List (Node K E)) (from : lt (key e) z ≡ false) (s : Shape key lt z P (n ∷ ns)) (fresh : look_up key lt (key e) (entries (n ∷ ns)) ≡ None) where
      abbrev m : Node K E
      m = leaf_at key lt (key e) n ns

      new : look_up key lt (key e) m.entries ≡ None
      new = sym (entry_in key lt o (key e) n ns None s.fine) ∙ fresh

      pub put-with_more : length m.entries < 15 → Shape key lt z P (change key lt (with_more key lt e) (key e) n ns)
      put-with_more l = record {
        begins = bound-change (with_more key lt e) (λ m h. refl) (key e) n ns None ∙ s.begins;
        few = omega (arith, s.few, length-change (with_more key lt e) (key e) n ns);
        fine = (change-fine key lt o (with_more key lt e) (key e) n ns None (keeps-with_more key lt o e m new) s.fine (not_first (key e) n ns from s.begins) tt).0;
        sizes = all-change (λ n. length n.entries ≤ 15) (with_more key lt e) (key e) n ns s.sizes (λ _. (omega (arith, length-insert key lt e m.entries), tt));
        filled = λ c. all-change (λ n. 0 < length n.entries) (with_more key lt e) (key e) n ns (s.filled (omega (arith, length-change (with_more key lt e) (key e) n ns))) (λ _. (omega (arith, length-insert key lt e m.entries), tt));
        apart = apart-same (with_more key lt e) (key e) n ns refl s.apart;
        range = all-change (λ n. (1 ≤ n.page) × (n.page < P)) (with_more key lt e) (key e) n ns s.range (λ r. (r, tt));
      }

      pub put-split : length m.entries ≡ 15 → length (n ∷ ns) < min 20 (P - 1) → Shape key lt z P (change key lt (split key lt (lowest (P - 1) 1 (pages (n ∷ ns))) e) (key e) n ns)
      put-split l c =
          let q = lowest (P - 1) 1 (pages (n ∷ ns)) in
          let f = split key lt q e in
          let es = insert key lt e m.entries in
          let n16 = length-insert key lt e m.entries in
          let d8 : length (drop 8 es) ≡ 8 = simp length-drop (omega arith) in
          let h = half q (drop 8 es) d8 in
          let n8 : length (take 8 es) ≡ 8 = simp length-take (omega arith) in
          let r = lowest_free (P - 1) 1 (pages (n ∷ ns)) (simp length-map (omega arith)) in
          record {
            begins = bound-change f (λ m h. refl) (key e) n ns None ∙ s.begins;
            few = omega (arith, length-change f (key e) n ns, simp length-map at (ap length h));
            fine = (change-fine key lt o f (key e) n ns None (keeps-split key lt o e q m new) s.fine (not_first (key e) n ns from s.begins) tt).0;
            sizes = all-change (λ n. length n.entries ≤ 15) f (key e) n ns s.sizes (λ _. (omega arith, half-all (λ n. length n.entries ≤ 15) q (drop 8 es) (λ _. omega arith)));
            filled = λ d. all-change (λ n. 0 < length n.entries) f (key e) n ns (all-but-single (λ n. 0 < length n.entries) (key e) n ns s.filled (omega arith)) (λ _. (omega arith, half-all (λ n. 0 < length n.entries) q (drop 8 es) (λ _. omega arith)));
            apart = apart-two f (key e) n ns q (ap (λ ps. m.page ∷ ps) h) r.not_in s.apart;
            range = all-change (λ n. (1 ≤ n.page) × (n.page < P)) f (key e) n ns s.range (λ r'. (r', half-all (λ n. (1 ≤ n.page) × (n.page < P)) q (drop 8 es) (λ _. (r.from, omega (arith, r.below)))));
          }

    pub take-with_less : (k : K) (n : Node K E) (ns : List (Node K E)) → lt k z ≡ false → Shape key lt z P (n ∷ ns) → (1 < length (n ∷ ns) → 0 < length (remove key lt k (leaf_at key lt k n ns).entries)) → length (remove key lt k (leaf_at key lt k n ns).entries) ≤ 15
        → Shape key lt z P (change key lt (with_less key lt k) k n ns)
    take-with_less k n ns from s f c = record {
      begins = bound-change (with_less key lt k) (λ m h. refl) k n ns None ∙ s.begins;
      few = omega (arith, s.few, length-change (with_less key lt k) k n ns);
      fine = (change-fine key lt o (with_less key lt k) k n ns None (keeps-with_less key lt o k (leaf_at key lt k n ns)) s.fine (not_first k n ns from s.begins) tt).0;
      sizes = all-change (λ n. length n.entries ≤ 15) (with_less key lt k) k n ns s.sizes (λ _. (c, tt));
      filled = λ d. let b : 1 < length (n ∷ ns) = omega (arith, length-change (with_less key lt k) k n ns) in all-change (λ n. 0 < length n.entries) (with_less key lt k) k n ns (s.filled b) (λ _. (f b, tt));
      apart = apart-same (with_less key lt k) k n ns refl s.apart;
      range = all-change (λ n. (1 ≤ n.page) × (n.page < P)) (with_less key lt k) k n ns s.range (λ r. (r, tt));
    }

    under-from : (h : Option K) (x : K) → lt x z ≡ false → Under key lt h x → Under key lt h z
    under-from None x p u = tt
    under-from (Some h) x p u = le-lt lt o z x h p u

    -- no separator is below the first
    seps-from : (n : Node K E) (ns : List (Node K E)) (hi : Option K) → lt n.sep z ≡ false → Fine key lt (n ∷ ns) hi → AllByRecursion (λ m. lt m.sep z ≡ false) (n ∷ ns)
    seps-from n [] hi p f = (p, tt)
    seps-from n (m ∷ ms) hi p f = (p, seps-from m ms hi (le_trans lt o z n.sep m.sep p (not_back lt o n.sep m.sep f.0.next)) f.1)

    crown : (t : List (Node K E)) → 0 < length t → length t ≤ min 20 (P - 1) → Fine key lt t None → AllByRecursion (λ m. lt m.sep z ≡ false) t → AllByRecursion (λ n. length n.entries ≤ 15) t → AllByRecursion (λ n. 0 < length n.entries) t → Apart (pages t) → AllByRecursion (λ n. (1 ≤ n.page) × (n.page < P)) t
        → Shape key lt z P (with_first key lt z t)
    crown [] p l f g a b c r = absurd (omega arith)
    crown (n ∷ ns) p l f g a b c r = record {
      begins = refl;
      few = l;
      sizes = a;
      filled = λ _. b;
      apart = c;
      range = r;
      fine = (
        record {
          rises = f.0.rises;
          below = f.0.below;
          next = under-from (bound key lt ns None) n.sep g.0 f.0.next;
          from = All-weaker (λ e. lt (key e) n.sep ≡ false) (λ e. lt (key e) z ≡ false) (λ e. le_trans lt o z n.sep (key e) g.0) n.entries f.0.from;
        },
        f.1,
      );
    }

    pub take-dropped : (k : K) (n : Node K E) (ns : List (Node K E)) → lt k z ≡ false → Shape key lt z P (n ∷ ns) → 1 < length (n ∷ ns) → Shape key lt z P (with_first key lt z (change key lt (dropped key lt) k n ns))
    take-dropped k n ns from s c =
        let l = length-change (dropped key lt) k n ns in
        crown (change key lt (dropped key lt) k n ns) (omega arith) (omega (arith, s.few))
        (change-fine key lt o (dropped key lt) k n ns None (keeps-dropped key lt o k (leaf_at key lt k n ns)) s.fine (not_first k n ns from s.begins) tt).0
        (all-change (λ m. lt m.sep z ≡ false) (dropped key lt) k n ns (seps-from n ns None (let e : n.sep ≡ z = cc in rw e (o.irreflexive z)) s.fine) (λ _. tt))
        (all-change (λ n. length n.entries ≤ 15) (dropped key lt) k n ns s.sizes (λ _. tt))
        (all-change (λ n. 0 < length n.entries) (dropped key lt) k n ns (s.filled c) (λ _. tt))
        (apart-dropped (dropped key lt) k n ns refl s.apart)
        (all-change (λ n. (1 ≤ n.page) × (n.page < P)) (dropped key lt) k n ns s.range (λ _. tt))
