-- A tree of two levels: the root's items, each with the entries of its leaf. Keys and entries are of any kind, `key` tells an entry's key, and `lt` whether one key comes before another.
--     Node             an item of the root with its leaf: a separator, a page, entries
--     seps, pages, entries     the separators, pages and entries of nodes
--     has, Apart       a page is in a list; no page is there twice
--     lowest           the lowest of n pages that is not in a list
--     Under, bound     a key lies below a bound, if there is one; where nodes begin
--     Leaf             a leaf's keys rise, from its separator on and below the next one
--     Fine             so do those of all leaves
--     change           the nodes with that of a key replaced by what f makes of it
--     leaf_at          the node of a key: the last whose separator is not above it
--     next_above, highest      the lowest entry above a key, and the highest not above it, by its leaf and the one next to it
--     with_more, with_less     a leaf with one entry more, and one fewer
--     second           the second part of a full leaf, on the page q
--     split            a full leaf that takes one more: the first 8 stay, the others go to a page q
--     dropped          a leaf that is gone
--     with_first       nodes whose first separator is z
--     put_in           an entry put in on a volume of P pages; none if there is no room
--     take_out         the entry of a key taken out; z is the least key
--     Shape            the rules of a tree on a volume of P pages
use Rattle.std.specs.Prelude.{◌≡◌, ℕ, zero, suc, ◌-◌, ◌<◌, ◌≤◌, min, Bool, true, false, cond, ◌&&◌, ◌||◌, List, [], ◌∷◌, ◌++◌, map, length, take, drop, Some, None, Option, ◌==◌, nat_lt}
use Rattle.std.specs.List.{flat_map, AllByRecursion}
use Rattle.rows.specs.Lists.{insert, remove, Sorted, first_above, last_up_to, or_else, first, last}

-- an item of the root with its leaf
pub record Node (K E : Type 0) : Type 0 where
  pub sep : K
  pub page : ℕ
  pub entries : List E

abbrev pub node : {K E : Type 0} → K → ℕ → List E → Node K E
node s p es = record { sep = s; page = p; entries = es }

abbrev pub seps : {K E : Type 0} → List (Node K E) → List K
seps t = map (λ n. n.sep) t

abbrev pub pages : {K E : Type 0} → List (Node K E) → List ℕ
pages t = map (λ n. n.page) t

abbrev pub entries : {K E : Type 0} → List (Node K E) → List E
entries t = flat_map (λ n. n.entries) t

abbrev pub has : ℕ → List ℕ → Bool
has p [] = false
has p (q ∷ qs) = p == q || has p qs

abbrev pub Apart : List ℕ → Type 0
Apart [] = Unit {0}
Apart (p ∷ ps) = (has p ps ≡ false) × Apart ps

-- the lowest of the n pages from q on that is not in the list, or q + n
abbrev pub lowest : ℕ → ℕ → List ℕ → ℕ
lowest zero q ps = q
lowest (suc n) q ps = cond (has q ps) (lowest n (suc q) ps) q

module _ {K E : Type 0} (key : E → K) (lt : K → K → Bool) where
  -- k lies below a bound, if there is one
  abbrev pub Under : Option K → K → Type 0
  Under None k = Unit {0}
  Under (Some h) k = lt k h ≡ true

  -- where the nodes begin, or else where what follows them does
  abbrev pub bound : List (Node K E) → Option K → Option K
  bound [] hi = hi
  bound (n ∷ ns) hi = Some n.sep

  pub record Leaf (n : Node K E) (hi : Option K) : Type 0 where
    pub rises : Sorted key lt n.entries
    pub from : AllByRecursion (λ e. lt (key e) n.sep ≡ false) n.entries
    pub below : AllByRecursion (λ e. Under hi (key e)) n.entries
    pub next : Under hi n.sep

  -- separators rise; keys rise from their separator on and below the next
  abbrev pub Fine : List (Node K E) → Option K → Type 0
  Fine [] hi = Unit {0}
  Fine (n ∷ ns) hi = Leaf n (bound ns hi) × Fine ns hi

  -- f at the last node whose separator is not above k; n is the first
  abbrev pub change : (Node K E → List (Node K E)) → K → Node K E → List (Node K E) → List (Node K E)
  change f k n [] = f n
  change f k n (m ∷ ms) = cond (lt k m.sep) (f n ++ (m ∷ ms)) (n ∷ change f k m ms)

  abbrev pub leaf_at : K → Node K E → List (Node K E) → Node K E
  leaf_at k n [] = n
  leaf_at k n (m ∷ ms) = cond (lt k m.sep) n (leaf_at k m ms)

  -- the lowest entry above k: in its leaf, or the first of the next
  abbrev pub next_above : K → Node K E → List (Node K E) → Option E
  next_above k n [] = first_above key lt k n.entries
  next_above k n (m ∷ ms) = cond (lt k m.sep) (or_else (first_above key lt k n.entries) (first m.entries)) (next_above k m ms)

  -- the highest entry not above k: in its leaf, or the last of the one before; u before the first
  abbrev pub highest : K → Option E → Node K E → List (Node K E) → Option E
  highest k u n [] = or_else (last_up_to key lt k n.entries) u
  highest k u n (m ∷ ms) = cond (lt k m.sep) (or_else (last_up_to key lt k n.entries) u) (highest k (last n.entries) m ms)

  -- a leaf with one more entry
  abbrev pub with_more : E → Node K E → List (Node K E)
  with_more e n = node n.sep n.page (insert key lt e n.entries) ∷ []

  abbrev pub second : ℕ → List E → List (Node K E)
  second q [] = []
  second q (y ∷ ys) = node (key y) q (y ∷ ys) ∷ []

  -- a full leaf that takes one more: the first 8 stay
  abbrev pub split : ℕ → E → Node K E → List (Node K E)
  split q e n = node n.sep n.page (take 8 (insert key lt e n.entries)) ∷ second q (drop 8 (insert key lt e n.entries))

  -- a leaf with one entry less, and a leaf that is dropped
  abbrev pub with_less : K → Node K E → List (Node K E)
  with_less k n = node n.sep n.page (remove key lt k n.entries) ∷ []

  abbrev pub dropped : Node K E → List (Node K E)
  dropped n = []

  abbrev pub with_first : K → List (Node K E) → List (Node K E)
  with_first z [] = []
  with_first z (n ∷ ns) = node z n.page n.entries ∷ ns

  -- puts an entry in, on a volume of P pages; none: the register is full
  abbrev pub put_in : ℕ → E → List (Node K E) → Option (List (Node K E))
  put_in P e [] = None
  put_in P e (n ∷ ns) =
      cond (nat_lt (length (leaf_at (key e) n ns).entries) 15) (Some (change (with_more e) (key e) n ns))
      (cond (nat_lt (length (n ∷ ns)) (min 20 (P - 1))) (Some (change (split (lowest (P - 1) 1 (pages (n ∷ ns))) e) (key e) n ns)) None)

  -- takes the entry of a key out; z is the least key
  abbrev pub take_out : K → K → List (Node K E) → List (Node K E)
  take_out z k [] = []
  take_out z k (n ∷ ns) =
      cond (nat_lt 1 (length (n ∷ ns)) && length (remove key lt k (leaf_at k n ns).entries) == 0) (with_first z (change dropped k n ns)) (change (with_less k) k n ns)

  -- the rules of a tree on a volume of P pages
  pub record Shape (z : K) (P : ℕ) (t : List (Node K E)) : Type 0 where
    pub begins : bound t None ≡ Some z
    pub few : length t ≤ min 20 (P - 1)
    pub fine : Fine t None
    pub sizes : AllByRecursion (λ n. length n.entries ≤ 15) t
    pub filled : 1 < length t → AllByRecursion (λ n. 0 < length n.entries) t
    pub apart : Apart (pages t)
    pub range : AllByRecursion (λ n. (1 ≤ n.page) × (n.page < P)) t
