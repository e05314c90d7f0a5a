-- What a register holds for a key, by the seat that the code found.
--     found-is         the key's entry is the last of its leaf before the seat's place, if it has that key
--     above-is         the lowest entry above the key is the one at that place, or else the first of the next item's leaf
--     up_to-is         the highest entry not above the key is the last before that place, or else the last of the leaf of the item before
--     found-by, above-here, above-past, above-next, up_to-here, up_to-past, up_to-prior       the same by what was read
--     page-at, page-before     another item's page is one of the register's
--     place-some       where the key has an entry, some entry is not above it
use Rattle.std.proofs.Common.{◌≡◌, ℕ, zero, suc, ◌+◌, ◌-◌, ◌<◌, ◌≤◌, inl, inr, List, [], ◌∷◌, map, length, take, Some, None, Option, sym, refl, ap, ◌∙◌, subst, arith, add-one}
use Rattle.std.specs.List.{AllByRecursion, slice_get}
use denote.Ref.{Bor}
use Rattle.std.specs.Option.{option_map, option_and_then, option_copied}
use Rattle.std.specs.Slice.{IsItemAt}
use Rattle.std.proofs.ByRecursion.{All-take}
use Rattle.std.proofs.lemmas.Bool.{cases_eq}
use Rattle.std.proofs.lemmas.List.{take-map}
use Rattle.std.proofs.lemmas.Option.{slice_get-map}
use Rattle.names.specs.Orders.{before}
use Rattle.names.proofs.ByteOrder.{keys-ordered}
use Rattle.rows.specs.Lists.{up_to, Sorted, look_up, first_above, last_up_to, or_else, first, last}
use Rattle.tree.specs.Tree.{Node, seps, entries, Shape}
use Rattle.tree.proofs.Stand.{finds-stand}
use Rattle.pages.specs.declared.records.Item.{Item}
use Rattle.pages.specs.declared.records.Entry.{Entry}
use Rattle.register.specs.Images.{zero_key, key_of, items_of, leaf_of, node_of, tree_of, entries_of}
use Rattle.register.specs.Registers.{IsRegister}
use Rattle.register.specs.Seats.{Seated}
use Rattle.register.specs.declared.seats.Seat.{Seat}
use Rattle.register.proofs.BySeat.{home-is}
use Rattle.register.proofs.Homes.{Home, home-known}
use Rattle.register.proofs.NextLeaves.{next-by, ending, highest-by}
use Rattle.register.proofs.LeafPlaces.{of-key}
use Rattle.register.proofs.LeafPlaces as places

then-map : {X Y Z : Type 0} (f : Y → Option Z) (g : X → Y) (o : Option X) → option_and_then f (option_map g o) ≡ option_and_then (λ x. f (g x)) o
then-map f g None = refl
then-map f g (Some x) = refl

or-map : {X Y : Type 0} (g : X → Y) (o : Option X) (x : X) → or_else (option_map g o) (Some (g x)) ≡ option_map g (or_else o (Some x))
or-map g None x = refl
or-map g (Some y) x = refl

last-map : {X Y : Type 0} (g : X → Y) (xs : List X) → last (map g xs) ≡ option_map g (last xs)
last-map g [] = refl
last-map g (x ∷ xs) = ap (λ o. or_else o (Some (g x))) (last-map g xs) ∙ or-map g (last xs) x

all-at : {X : Type 0} (Q : X → Type 0) (xs : List X) (j : ℕ) {x : X} → AllByRecursion Q xs → slice_get xs j ≡ Some x → Q x
all-at Q [] j a e = absurd (let z : ◌≡◌ {A = ℕ} 0 1 = cc in omega arith)
all-at Q (x ∷ xs) zero a e = let is : x ≡ _ = cc in subst Q is a.0
all-at Q (x ∷ xs) (suc j) a e = all-at Q xs j a.1 e

module _ {P : ℕ} {images : List (List ℕ)} {k : List ℕ} (r : IsRegister P images) (long : length k ≡ 22) {s : Seat} (h : Seated P images k s) where
  home : Home P images k
  home = home-known P images k r long

  leaf-is : home.leaf.entries ≡ s.leaf
  leaf-is = sym home.held ∙ ap (leaf_of images) (sym home.page ∙ home-is P images k s h) ∙ sym h.leaf

  place-is : up_to before k (map key_of s.leaf) ≡ s.place
  place-is = ap (λ es. up_to before k (map key_of es)) h.leaf ∙ sym h.place

  at-is : up_to before k (seps home.rest) ≡ s.at
  at-is = home.behind ∙ sym home.place ∙ sym h.at

  abbrev Finds : Type 0
  Finds =
      (first_above key_of before k (entries_of images) ≡ or_else (first_above key_of before k home.leaf.entries) (option_and_then (λ m. first m.entries) (slice_get (tree_of images) (suc s.at))))
      × (last_up_to key_of before k (entries_of images) ≡ or_else (last_up_to key_of before k home.leaf.entries) (ending key_of before None (last (take s.at (tree_of images)))))

  finds : Finds
  finds =
      let n = home.first in
      let ns = home.rest in
      let f = finds-stand key_of before keys-ordered zero_key P k n ns (subst (Shape key_of before zero_key P) home.whole r.shape) in
      let above = λ (m : Node (List ℕ) Entry) (i : ℕ) (t : List (Node (List ℕ) Entry)). or_else (first_above key_of before k m.entries) (option_and_then (λ m. first m.entries) (slice_get t (suc i))) in
      let up = λ (m : Node (List ℕ) Entry) (i : ℕ) (t : List (Node (List ℕ) Entry)). or_else (last_up_to key_of before k m.entries) (ending key_of before None (last (take i t))) in
      let there = λ (by : Node (List ℕ) Entry → ℕ → List (Node (List ℕ) Entry) → Option Entry). ap (λ m. by m (up_to before k (seps ns)) (n ∷ ns)) home.found ∙ ap (λ i. by home.leaf i (n ∷ ns)) at-is ∙ ap (by home.leaf s.at) (sym home.whole) in (
        ap (λ t. first_above key_of before k (entries t)) home.whole ∙ f.1 ∙ next-by key_of before k n ns ∙ there above,
        ap (λ t. last_up_to key_of before k (entries t)) home.whole ∙ f.2 ∙ highest-by key_of before k None n ns ∙ there up,
      )

  pub found-is : look_up key_of before k (entries_of images) ≡ of-key k (last (take s.place s.leaf))
  found-is =
      home.look ∙ ap (look_up key_of before k) leaf-is ∙ places.look_up-is k s.leaf (subst (Sorted key_of before) leaf-is home.rises) ∙ ap (λ i. of-key k (last (take i s.leaf))) place-is

  node-at : (j : ℕ) → slice_get (tree_of images) j ≡ option_map (node_of images) (slice_get s.items j)
  node-at j = slice_get-map (node_of images) (items_of images) j ∙ ap (λ is. option_map (node_of images) (slice_get is j)) (sym h.items)

  node-before : (j : ℕ) → last (take j (tree_of images)) ≡ option_map (node_of images) (last (take j s.items))
  node-before j =
      ap last (take-map (node_of images) j (items_of images)) ∙ last-map (node_of images) (take j (items_of images)) ∙ ap (λ is. option_map (node_of images) (last (take j is))) (sym h.items)

  pub above-is : first_above key_of before k (entries_of images) ≡ or_else (slice_get s.leaf s.place) (option_and_then (λ i. first (leaf_of images i.page)) (slice_get s.items (s.at + 1)))
  above-is =
      let next = λ (i : ℕ). option_and_then (λ i. first (leaf_of images i.page)) (slice_get s.items i) in
      finds.0 ∙ ap (or_else (first_above key_of before k home.leaf.entries)) (ap (option_and_then (λ m. first m.entries)) (node-at (suc s.at)) ∙ then-map (λ m. first m.entries) (node_of images) (slice_get s.items (suc s.at)))
      ∙ ap (λ o. or_else o (next (suc s.at))) (ap (first_above key_of before k) leaf-is ∙ places.above-is k s.leaf ∙ ap (slice_get s.leaf) place-is)
      ∙ ap (λ i. or_else (slice_get s.leaf s.place) (next i)) (sym (add-one s.at))

  pub up_to-is : last_up_to key_of before k (entries_of images) ≡ or_else (last (take s.place s.leaf)) (option_and_then (λ i. last (leaf_of images i.page)) (last (take s.at s.items)))
  up_to-is =
      finds.1 ∙ ap (or_else (last_up_to key_of before k home.leaf.entries)) (ap (ending key_of before None) (node-before s.at) ∙ ending-map (last (take s.at s.items)))
      ∙ ap (λ o. or_else o (option_and_then (λ i. last (leaf_of images i.page)) (last (take s.at s.items)))) (ap (last_up_to key_of before k) leaf-is ∙ places.up_to-is k s.leaf ∙ ap (λ i. last (take i s.leaf)) place-is)
    where
      ending-map : (o : Option Item) → ending key_of before None (option_map (node_of images) o) ≡ option_and_then (λ i. last (leaf_of images i.page)) o
      ending-map None = refl
      ending-map (Some i) = refl

  within : AllByRecursion (λ i. i.page < P) s.items
  within = subst (AllByRecursion (λ i. i.page < P)) (sym h.items) (own (items_of images) r.shape.range)
    where
      own : (is : List Item) → AllByRecursion (λ n. (1 ≤ n.page) × (n.page < P)) (map (node_of images) is) → AllByRecursion (λ i. i.page < P) is
      own [] a = tt
      own (i ∷ is) a = (a.0.1, own is a.1)

  -- the leaf's entries and the root's items, as they were read
  module _ {es : List Entry} (read : es ≡ s.leaf) {is : List Item} (root : is ≡ s.items) where
    entry-is : (o : Option (Bor Entry)) → IsItemAt es s.place o → option_copied o ≡ slice_get s.leaf s.place
    entry-is o l = places.got es s.place o l ∙ ap (λ es. slice_get es s.place) read

    item-is : (j : ℕ) (o : Option (Bor Item)) → IsItemAt is j o → option_copied o ≡ slice_get s.items j
    item-is j o l = places.got is j o l ∙ ap (λ is. slice_get is j) root

    above-by : (o : Option (Bor Entry)) (p : Option (Bor Item)) → IsItemAt es s.place o → IsItemAt is (s.at + 1) p
        → first_above key_of before k (entries_of images) ≡ or_else (option_copied o) (option_and_then (λ i. first (leaf_of images i.page)) (option_copied p))
    above-by o p l m =
        above-is ∙ ap (λ o. or_else o (option_and_then (λ i. first (leaf_of images i.page)) (slice_get s.items (s.at + 1)))) (sym (entry-is o l))
        ∙ ap (λ p. or_else (option_copied o) (option_and_then (λ i. first (leaf_of images i.page)) p)) (sym (item-is (s.at + 1) p m))

    pub above-here : (x : Bor Entry) → IsItemAt es s.place (Some x) → Some x.now ≡ first_above key_of before k (entries_of images)
    above-here x l = sym (above-is ∙ ap (λ o. or_else o (option_and_then (λ i. first (leaf_of images i.page)) (slice_get s.items (s.at + 1)))) (sym (entry-is (Some x) l)))

    pub above-past : IsItemAt es s.place None → IsItemAt is (s.at + 1) None → None ≡ first_above key_of before k (entries_of images)
    above-past l m = sym (above-by None None l m)

    pub above-next : (i : Bor Item) → IsItemAt es s.place None → IsItemAt is (s.at + 1) (Some i) → first (leaf_of images i.now.page) ≡ first_above key_of before k (entries_of images)
    above-next i l m = sym (above-by None (Some i) l m)

    pub page-at : (j : ℕ) (i : Bor Item) → IsItemAt is j (Some i) → i.now.page < P
    page-at j i m = all-at (λ i. i.page < P) s.items j within (sym (item-is j (Some i) m))

    last-entry : (o : Option Entry) → o ≡ slice_get (take s.place es) (length (take s.place es) - 1) → o ≡ last (take s.place s.leaf)
    last-entry o l = l ∙ places.last-is (take s.place es) ∙ ap (λ es. last (take s.place es)) read

    item-before : (p : Option Item) → p ≡ slice_get (take s.at is) (length (take s.at is) - 1) → p ≡ last (take s.at s.items)
    item-before p m = m ∙ places.last-is (take s.at is) ∙ ap (λ is. last (take s.at is)) root

    pub found-by : (o : Option Entry) → o ≡ slice_get (take s.place es) (length (take s.place es) - 1) → of-key k o ≡ look_up key_of before k (entries_of images)
    found-by o l = ap (of-key k) (last-entry o l) ∙ sym found-is

    pub up_to-here : (x : Entry) → Some x ≡ slice_get (take s.place es) (length (take s.place es) - 1) → Some x ≡ last_up_to key_of before k (entries_of images)
    up_to-here x l = sym (up_to-is ∙ ap (λ o. or_else o (option_and_then (λ i. last (leaf_of images i.page)) (last (take s.at s.items)))) (sym (last-entry (Some x) l)))

    up_to-by : (p : Option Item) → None ≡ slice_get (take s.place es) (length (take s.place es) - 1) → p ≡ slice_get (take s.at is) (length (take s.at is) - 1)
        → option_and_then (λ i. last (leaf_of images i.page)) p ≡ last_up_to key_of before k (entries_of images)
    up_to-by p l m =
        sym
        (up_to-is ∙ ap (λ o. or_else o (option_and_then (λ i. last (leaf_of images i.page)) (last (take s.at s.items)))) (sym (last-entry None l))
        ∙ ap (option_and_then (λ i. last (leaf_of images i.page))) (sym (item-before p m)))

    pub up_to-past : None ≡ slice_get (take s.place es) (length (take s.place es) - 1) → None ≡ slice_get (take s.at is) (length (take s.at is) - 1) → None ≡ last_up_to key_of before k (entries_of images)
    up_to-past l m = up_to-by None l m

    pub up_to-prior : (i : Item) → None ≡ slice_get (take s.place es) (length (take s.place es) - 1) → Some i ≡ slice_get (take s.at is) (length (take s.at is) - 1) → last (leaf_of images i.page) ≡ last_up_to key_of before k (entries_of images)
    up_to-prior i l m = up_to-by (Some i) l m

    pub page-before : (i : Item) → Some i ≡ slice_get (take s.at is) (length (take s.at is) - 1) → i.page < P
    page-before i m = all-at (λ i. i.page < P) (take s.at is) (length (take s.at is) - 1) (All-take (λ i. i.page < P) s.at is (subst (AllByRecursion (λ i. i.page < P)) (sym root) within)) (sym m)

pub place-some : {P : ℕ} {images : List (List ℕ)} {k : List ℕ} → IsRegister P images → length k ≡ 22 → {s : Seat} → Seated P images k s
    → {x : Entry} → look_up key_of before k (entries_of images) ≡ Some x → 1 ≤ s.place
place-some {k = k} r long {s} h next =
    elim (cases_eq s.place 0) [ inl z ↦ absurd (let n = found-is r long h ∙ ap (λ i. of-key k (last (take i s.leaf))) z in let e : ◌≡◌ {A = ℕ} 0 1 = cc in omega arith) | inr n ↦ omega arith ]
