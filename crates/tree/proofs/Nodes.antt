-- One leaf changed among its neighbours.
--     entries-append   the entries of nodes in a row
--     Wider            what lies below one bound lies below another
--     fine-append      nodes in order, in a row
--     Spot, spot       where the change of a key's leaf takes place, and what stands before it and behind
--     Keeps, change-fine       a change that keeps the order and the place among the neighbours keeps the order of all
--     fine-above, leaf-below   entries behind a separator above the key are above it, those of a leaf before one that is not are below
--     Local, change-entries    a change of one leaf's entries that looks only near the key is that change of the whole list
--     entry_in, above_in, up_to-in     look ups
--     keeps-..., ...-local     the changes of putting in and taking out are such changes
use Rattle.std.proofs.Common.{◌≡◌, ℕ, suc, ◌<◌, Bool, true, false, cond, List, [], ◌∷◌, ◌++◌, length, take, drop, Some, None, Option, sym, refl, ap, ◌∙◌, subst, append_assoc, append-nil, arith}
use Rattle.std.specs.List.{AllByRecursion}
use Rattle.std.proofs.lemmas.Bool.{cond_both}
use Rattle.std.proofs.ByRecursion.{All-weaker, All-append}
use Rattle.std.proofs.lemmas.List.{take-append-drop}
use Rattle.names.specs.Orders.{Total}
use Rattle.rows.specs.Lists.{up_to, insert, remove, look_up, first_above, last_up_to, or_else, first, last}
use Rattle.tree.specs.Tree.{Node, node, seps, entries, Under, bound, Leaf, Fine, change, leaf_at, with_more, second, split, with_less, dropped, next_above, highest}
use Rattle.rows.proofs.Sorting.{le-lt, lt-le, not_back, all_insert, all_remove, length-insert, all-parts, sorted_insert, sorted-remove, sorted-parts, insert-left, insert-right, remove-left, remove-right, entry-left, entry-right, first-left, first-right, last-left, last-right, or-or}

pub entries-append : {K E : Type 0} (s t : List (Node K E)) → entries (s ++ t) ≡ entries s ++ entries t
entries-append [] t = refl
entries-append (n ∷ s) t = ap (λ es. n.entries ++ es) (entries-append s t) ∙ sym (append_assoc n.entries (entries s) (entries t))

module _ {K E : Type 0} (key : E → K) (lt : K → K → Bool) where
  -- what lies below one bound lies below the other
  abbrev pub Wider : Option K → Option K → Type 0
  Wider h i = (x : K) → Under key lt h x → Under key lt i x

  leaf-wider : (n : Node K E) (h i : Option K) → Wider h i → Leaf key lt n h → Leaf key lt n i
  leaf-wider n h i w l = record {
    rises = l.rises;
    from = l.from;
    next = w n.sep l.next;
    below = All-weaker (λ e. Under key lt h (key e)) (λ e. Under key lt i (key e)) (λ e. w (key e)) n.entries l.below;
  }

  pub fine-append : (s t : List (Node K E)) (hi : Option K) → Fine key lt s (bound key lt t hi) → Fine key lt t hi → Fine key lt (s ++ t) hi
  fine-append [] t hi f g = g
  fine-append (n ∷ []) t hi f g = (f.0, g)
  fine-append (n ∷ m ∷ s) t hi f g = (f.0, fine-append (m ∷ s) t hi f.1 g)

  -- where the change of a leaf takes place: what stands before it and after
  pub record Spot-by (k : K) (n : Node K E) (ns : List (Node K E)) (i : ℕ) (here : Node K E) (change : (Node K E → List (Node K E)) → List (Node K E)) : Type 0 where
    pub left : List (Node K E)
    pub right : List (Node K E)
    pub at : length left ≡ i
    pub whole : n ∷ ns ≡ left ++ here ∷ right
    pub changed : (f : Node K E → List (Node K E)) → change f ≡ left ++ (f here ++ right)

  abbrev pub Spot : K → Node K E → List (Node K E) → Type 0
  Spot k n ns = Spot-by k n ns (up_to lt k (seps ns)) (leaf_at key lt k n ns) (λ f. change key lt f k n ns)

  pub spot : (k : K) (n : Node K E) (ns : List (Node K E)) → Spot k n ns
  spot k n [] = record { left = []; right = []; at = refl; whole = refl; changed = λ f. sym (append-nil (f n)) }
  spot k n (m ∷ ms) =
      elim (lt k m.sep) as (λ b. Spot-by k n (m ∷ ms) (cond b 0 (suc (up_to lt k (seps ms)))) (cond b n (leaf_at key lt k m ms)) (λ f. cond b (f n ++ (m ∷ ms)) (n ∷ change key lt f k m ms))) [
        | true ↦ record { left = []; right = m ∷ ms; at = refl; whole = refl; changed = λ f. refl }
        | false ↦ let h = spot k m ms in record { left = n ∷ h.left; right = h.right; at = ap suc h.at; whole = ap (λ t. n ∷ t) h.whole; changed = λ f. ap (λ t. n ∷ t) (h.changed f) }
      ]

  module _ (o : Total lt) where
    -- what a change of one leaf has to keep: the order, and the place among its neighbours
    abbrev pub Keeps : (Node K E → List (Node K E)) → K → Node K E → Type 0
    Keeps f k m = (h : Option K) → Leaf key lt m h → lt k m.sep ≡ false → Under key lt h k → Fine key lt (f m) h × Wider (Some m.sep) (bound key lt (f m) h)

    bound-append : (s t : List (Node K E)) (hi : Option K) → bound key lt (s ++ t) hi ≡ bound key lt s (bound key lt t hi)
    bound-append [] t hi = refl
    bound-append (n ∷ s) t hi = refl

    pub change-fine : (f : Node K E → List (Node K E)) (k : K) (n : Node K E) (ns : List (Node K E)) (hi : Option K) → Keeps f k (leaf_at key lt k n ns) → Fine key lt (n ∷ ns) hi → lt k n.sep ≡ false → Under key lt hi k
        → Fine key lt (change key lt f k n ns) hi × Wider (Some n.sep) (bound key lt (change key lt f k n ns) hi)
    change-fine f k n [] hi g s p q = g hi s.0 p q
    change-fine f k n (m ∷ ms) hi g s p q =
        elim (lt k m.sep) as (λ b. lt k m.sep ≡ b → Keeps f k (cond b n (leaf_at key lt k m ms))
        → let t = cond b (f n ++ (m ∷ ms)) (n ∷ change key lt f k m ms) in Fine key lt t hi × Wider (Some n.sep) (bound key lt t hi)) [
          | true ↦ λ e g. let h = g (Some m.sep) s.0 p e in
              (fine-append (f n) (m ∷ ms) hi h.0 s.1, subst (λ b. Wider (Some n.sep) b) (sym (bound-append (f n) (m ∷ ms) hi)) h.1)
          | false ↦ λ e g. let h = change-fine f k m ms hi g s.1 e q in
              ((leaf-wider n (Some m.sep) (bound key lt (change key lt f k m ms) hi) h.1 s.0, h.0), λ x u. u)
        ] refl g

    -- from a separator above k on, every entry is above k
    pub fine-above : (k : K) (m : Node K E) (ms : List (Node K E)) (hi : Option K) → Fine key lt (m ∷ ms) hi → lt k m.sep ≡ true → AllByRecursion (λ e. lt k (key e) ≡ true) (entries (m ∷ ms))
    fine-above k m [] hi f p =
        All-append (λ e. lt k (key e) ≡ true) m.entries []
        (All-weaker (λ e. lt (key e) m.sep ≡ false) (λ e. lt k (key e) ≡ true) (λ e q. lt-le lt o k m.sep (key e) p q) m.entries f.0.from) tt
    fine-above k m (l ∷ ls) hi f p =
        All-append (λ e. lt k (key e) ≡ true) m.entries (entries (l ∷ ls))
        (All-weaker (λ e. lt (key e) m.sep ≡ false) (λ e. lt k (key e) ≡ true) (λ e q. lt-le lt o k m.sep (key e) p q) m.entries f.0.from)
        (fine-above k l ls hi f.1 (o.transitive k m.sep l.sep p f.0.next))

    -- before a separator that is not above k, every entry is below k
    pub leaf-below : (k s : K) (n : Node K E) → Leaf key lt n (Some s) → lt k s ≡ false → AllByRecursion (λ e. lt (key e) k ≡ true) n.entries
    leaf-below k s n l p = All-weaker (λ e. lt (key e) s ≡ true) (λ e. lt (key e) k ≡ true) (λ e q. lt-le lt o (key e) s k q p) n.entries l.below

    not-above : (k s : K) (n : Node K E) → Leaf key lt n (Some s) → lt k s ≡ false → AllByRecursion (λ e. lt k (key e) ≡ false) n.entries
    not-above k s n l p = All-weaker (λ e. lt (key e) k ≡ true) (λ e. lt k (key e) ≡ false) (λ e. not_back lt o (key e) k) n.entries (leaf-below k s n l p)

    -- a change of a list that looks only at what is near k
    pub record Local (k : K) (op : List E → List E) : Type 0 where
      pub left : (xs ys : List E) → AllByRecursion (λ x. lt (key x) k ≡ true) xs → op (xs ++ ys) ≡ xs ++ op ys
      pub right : (ys zs : List E) → AllByRecursion (λ z. lt k (key z) ≡ true) zs → op (ys ++ zs) ≡ op ys ++ zs

    pub change-entries : (f : Node K E → List (Node K E)) (k : K) (op : List E → List E) → Local k op → (n : Node K E) (ns : List (Node K E)) (hi : Option K)
        → entries (f (leaf_at key lt k n ns)) ≡ op (leaf_at key lt k n ns).entries → Fine key lt (n ∷ ns) hi → entries (change key lt f k n ns) ≡ op (entries (n ∷ ns))
    change-entries f k op l n [] hi e s = e ∙ ap op (sym (append-nil n.entries))
    change-entries f k op l n (m ∷ ms) hi e s =
        elim (lt k m.sep) as (λ b. lt k m.sep ≡ b → entries (f (cond b n (leaf_at key lt k m ms))) ≡ op (cond b n (leaf_at key lt k m ms)).entries
        → entries (cond b (f n ++ (m ∷ ms)) (n ∷ change key lt f k m ms)) ≡ op (entries (n ∷ m ∷ ms))) [
          | true ↦ λ p e. entries-append (f n) (m ∷ ms) ∙ ap (λ es. es ++ entries (m ∷ ms)) e ∙ sym (l.right n.entries (entries (m ∷ ms)) (fine-above k m ms hi s.1 p))
          | false ↦ λ p e. ap (λ es. n.entries ++ es) (change-entries f k op l m ms hi e s.1) ∙ sym (l.left n.entries (entries (m ∷ ms)) (leaf-below k m.sep n s.0 p))
        ] refl e

    -- look-ups
    pub entry_in : (k : K) (n : Node K E) (ns : List (Node K E)) (hi : Option K) → Fine key lt (n ∷ ns) hi → look_up key lt k (entries (n ∷ ns)) ≡ look_up key lt k (leaf_at key lt k n ns).entries
    entry_in k n [] hi s = ap (look_up key lt k) (append-nil n.entries)
    entry_in k n (m ∷ ms) hi s =
        cond_both (lt k m.sep) n (leaf_at key lt k m ms) (λ l. look_up key lt k (entries (n ∷ m ∷ ms)) ≡ look_up key lt k l.entries)
        (λ p. entry-right key lt o k n.entries (entries (m ∷ ms)) (fine-above k m ms hi s.1 p))
        (λ p. entry-left key lt o k n.entries (entries (m ∷ ms)) (leaf-below k m.sep n s.0 p) ∙ entry_in k m ms hi s.1)

    first-filled : (n : Node K E) (es : List E) → 0 < length n.entries → first (n.entries ++ es) ≡ first n.entries
    first-filled n es p = elim n.entries as (λ xs. 0 < length xs → first (xs ++ es) ≡ first xs) [ [] ↦ λ q. absurd (omega arith) | x ∷ xs ↦ λ q. refl ] p

    pub above_in : (k : K) (n : Node K E) (ns : List (Node K E)) (hi : Option K) → Fine key lt (n ∷ ns) hi → AllByRecursion (λ m. 0 < length m.entries) ns → first_above key lt k (entries (n ∷ ns)) ≡ next_above key lt k n ns
    above_in k n [] hi s a = ap (first_above key lt k) (append-nil n.entries)
    above_in k n (m ∷ ms) hi s a =
        cond_both (lt k m.sep) (or_else (first_above key lt k n.entries) (first m.entries)) (next_above key lt k m ms) (λ v. first_above key lt k (entries (n ∷ m ∷ ms)) ≡ v)
        (λ p. first-right key lt o k n.entries (entries (m ∷ ms)) (fine-above k m ms hi s.1 p) ∙ ap (or_else (first_above key lt k n.entries)) (first-filled m (entries ms) a.0))
        (λ p. first-left key lt o k n.entries (entries (m ∷ ms)) (not-above k m.sep n s.0 p) ∙ above_in k m ms hi s.1 a.1)

    last-filled : (es : List E) (u : Option E) → 0 < length es → or_else (last es) u ≡ last es
    last-filled [] u p = absurd (omega arith)
    last-filled (x ∷ xs) u p = elim (last xs) as (λ v. or_else (or_else v (Some x)) u ≡ or_else v (Some x)) [ Some y ↦ refl | None ↦ refl ]

    pub up_to-in : (k : K) (u : Option E) (n : Node K E) (ns : List (Node K E)) (hi : Option K) → Fine key lt (n ∷ ns) hi → (0 < length ns → 0 < length n.entries) → AllByRecursion (λ m. 0 < length m.entries) ns
        → or_else (last_up_to key lt k (entries (n ∷ ns))) u ≡ highest key lt k u n ns
    up_to-in k u n [] hi s c a = ap (λ es. or_else (last_up_to key lt k es) u) (append-nil n.entries)
    up_to-in k u n (m ∷ ms) hi s c a =
        cond_both (lt k m.sep) (or_else (last_up_to key lt k n.entries) u) (highest key lt k (last n.entries) m ms) (λ v. or_else (last_up_to key lt k (entries (n ∷ m ∷ ms))) u ≡ v)
        (λ p. ap (λ v. or_else v u) (last-right key lt o k n.entries (entries (m ∷ ms)) (fine-above k m ms hi s.1 p)))
        (λ p. ap (λ v. or_else v u) (last-left key lt o k n.entries (entries (m ∷ ms)) (not-above k m.sep n s.0 p))
        ∙ or-or (last_up_to key lt k (entries (m ∷ ms))) (last n.entries) u
        ∙ ap (or_else (last_up_to key lt k (entries (m ∷ ms)))) (last-filled n.entries u (c (omega arith)))
        ∙ up_to-in k (last n.entries) m ms hi s.1 (λ _. a.0) a.1)

    pub insert-local : (e : E) → Local (key e) (insert key lt e)
    insert-local e = record {
      left = λ xs ys a. insert-left key lt e xs ys (All-weaker (λ x. lt (key x) (key e) ≡ true) (λ x. lt (key e) (key x) ≡ false) (λ x. not_back lt o (key x) (key e)) xs a);
      right = insert-right key lt e;
    }

    pub remove-local : (k : K) → Local k (remove key lt k)
    remove-local k = record { left = remove-left key lt k; right = remove-right key lt o k }

    -- the four changes of a leaf keep the order
    leaf-insert : (e : E) (m : Node K E) (h : Option K) → Leaf key lt m h → lt (key e) m.sep ≡ false → Under key lt h (key e) → look_up key lt (key e) m.entries ≡ None
        → Leaf key lt (node m.sep m.page (insert key lt e m.entries)) h
    leaf-insert e m h l p q n = record {
      rises = sorted_insert key lt o e m.entries l.rises n;
      from = all_insert key lt (λ x. lt (key x) m.sep ≡ false) e m.entries p l.from;
      below = all_insert key lt (λ x. Under key lt h (key x)) e m.entries q l.below;
      next = l.next;
    }

    -- a leaf in two parts
    leaf-parts : (s : K) (p q : ℕ) (x y : E) (xs ys : List E) (h : Option K) → Leaf key lt (node s p (x ∷ xs ++ y ∷ ys)) h
        → Leaf key lt (node s p (x ∷ xs)) (Some (key y)) × Leaf key lt (node (key y) q (y ∷ ys)) h
    leaf-parts s p q x y xs ys h l =
        let r = sorted-parts key lt (x ∷ xs) (y ∷ ys) l.rises in
        let f = all-parts (λ e. lt (key e) s ≡ false) (x ∷ xs) (y ∷ ys) l.from in
        let b = all-parts (λ e. Under key lt h (key e)) (x ∷ xs) (y ∷ ys) l.below in (
          record {
            rises = r.left;
            from = f.0;
            below = All-weaker (λ e. AllByRecursion (λ z. lt (key e) (key z) ≡ true) (y ∷ ys)) (λ e. lt (key e) (key y) ≡ true) (λ e a. a.0) (x ∷ xs) r.across;
            next = le-lt lt o s (key x) (key y) f.0.0 r.across.0.0;
          },
          record {
            rises = r.right;
            below = b.1;
            next = b.1.0;
            from = (o.irreflexive (key y), All-weaker (λ e. lt (key y) (key e) ≡ true) (λ e. lt (key e) (key y) ≡ false) (λ e. not_back lt o (key y) (key e)) ys r.right.0);
          },
        )

    halves : (s : K) (p q i : ℕ) (es : List E) (h : Option K) → Leaf key lt (node s p es) h → 0 < length es → Fine key lt (node s p (take (suc i) es) ∷ second key lt q (drop (suc i) es)) h
    halves s p q i [] h l n = absurd (omega arith)
    halves s p q i (x ∷ xs) h l n = parts (drop i xs) (subst (λ es. Leaf key lt (node s p (x ∷ es)) h) (sym (take-append-drop i xs)) l)
      where
        parts : (r : List E) → Leaf key lt (node s p (x ∷ take i xs ++ r)) h → Fine key lt (node s p (x ∷ take i xs) ∷ second key lt q r) h
        parts [] v = (subst (λ es. Leaf key lt (node s p (x ∷ es)) h) (append-nil (take i xs)) v, tt)
        parts (y ∷ ys) v = let w = leaf-parts s p q x y (take i xs) ys h v in (w.0, (w.1, tt))

    pub keeps-with_more : (e : E) (m : Node K E) → look_up key lt (key e) m.entries ≡ None → Keeps (with_more key lt e) (key e) m
    keeps-with_more e m n h l p q = ((leaf-insert e m h l p q n, tt), λ x u. u)

    pub keeps-split : (e : E) (c : ℕ) (m : Node K E) → look_up key lt (key e) m.entries ≡ None → Keeps (split key lt c e) (key e) m
    keeps-split e c m n h l p q = (halves m.sep m.page c 7 (insert key lt e m.entries) h (leaf-insert e m h l p q n) (omega (arith, length-insert key lt e m.entries)), λ x u. u)

    pub keeps-with_less : (k : K) (m : Node K E) → Keeps (with_less key lt k) k m
    keeps-with_less k m h l p q = (
      (
        record {
          rises = sorted-remove key lt o k m.entries l.rises;
          from = all_remove key lt (λ x. lt (key x) m.sep ≡ false) k m.entries l.from;
          below = all_remove key lt (λ x. Under key lt h (key x)) k m.entries l.below;
          next = l.next;
        },
        tt,
      ),
      λ x u. u,
    )

    wide : (s : K) (h : Option K) → Under key lt h s → Wider (Some s) h
    wide s None p x u = tt
    wide s (Some h) p x u = o.transitive x s h u p

    pub keeps-dropped : (k : K) (m : Node K E) → Keeps (dropped key lt) k m
    keeps-dropped k m h l p q = (tt, wide m.sep h l.next)
