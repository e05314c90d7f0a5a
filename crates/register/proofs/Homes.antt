-- Where a key belongs in a register: its leaf, and the nodes before and after it.
--     Absent         a page is none of a tree's
--     Home           the leaf by the tree, by the root's items and by its page
--     home-known     22 bytes have one
use Rattle.std.proofs.Common.{◌≡◌, ℕ, suc, ◌<◌, ◌≤◌, false, cond, ◌≢◌, List, [], ◌∷◌, ◌++◌, map, length, get_or, None, Option, sym, refl, ap, ◌∙◌, subst, arith}
use Rattle.std.specs.List.{AllByRecursion}
use Rattle.std.proofs.lemmas.List.{map-append, length-map, length-append}
use Rattle.std.proofs.lemmas.Bool.Decides.{nat_tests}
use Rattle.names.specs.Orders.{before}
use Rattle.names.proofs.ByteOrder.{keys-ordered}
use Rattle.rows.specs.Lists.{up_to, look_up, Sorted}
use Rattle.rows.proofs.Sorting.{all-parts}
use Rattle.tree.specs.Tree.{Node, seps, pages, entries, has, Apart, Fine, Shape, change, leaf_at}
use Rattle.tree.proofs.Nodes.{spot, entry_in}
use Rattle.tree.proofs.Pages.{has_parts, apart-mid}
use Rattle.pages.specs.declared.records.Item.{Item}
use Rattle.pages.specs.declared.records.Entry.{Entry}
use Rattle.register.specs.Images.{zero_key, key_of, no_item, items_of, leaf_of, node_of, tree_of, entries_of, seat, home}
use Rattle.register.specs.Registers.{IsRegister}
use Rattle.register.proofs.ZeroKey.{zero_key-least}
use Rattle.register.proofs.Parts.{at-part}
use Rattle.register.proofs.Trees.{Tree, item_for, items_for, items-tree}

abbrev pub Absent : ℕ → Tree → Type 0
Absent p t = has p (pages t) ≡ false

pub absent-parts : (p : ℕ) (left right : Tree) (m : Node (List ℕ) Entry) → Absent p (left ++ m ∷ right) → Absent p left × (p ≢ m.page) × Absent p right
absent-parts p left right m a =
    let h = has_parts p (pages left) (m.page ∷ pages right) (subst (λ ps. has p ps ≡ false) (map-append (λ n. n.page) left (m ∷ right)) a) in
    (h.0, λ e. (let z : ◌≡◌ {A = ℕ} 0 1 = grind (arith, nat_tests) in omega arith), grind (arith, nat_tests))

pub absent-root : (P : ℕ) (t : Tree) → AllByRecursion (λ n. (1 ≤ n.page) × (n.page < P)) t → Absent 0 t
absent-root P [] a = refl
absent-root P (n ∷ t) a = let h = absent-root P t a.1 in grind (arith, nat_tests)

pub record Home (P : ℕ) (images : List (List ℕ)) (k : List ℕ) : Type 0 where
  pub first : Node (List ℕ) Entry
  pub rest : Tree
  pub whole : tree_of images ≡ first ∷ rest
  pub lowest : before k zero_key ≡ false
  pub left : Tree
  pub leaf : Node (List ℕ) Entry
  pub right : Tree
  pub parts : tree_of images ≡ left ++ leaf ∷ right
  pub found : leaf_at key_of before k first rest ≡ leaf
  pub changed : (f : Node (List ℕ) Entry → Tree) → change key_of before f k first rest ≡ left ++ (f leaf ++ right)
  pub behind : up_to before k (seps rest) ≡ length left
  pub items : items_of images ≡ items_for (left ++ leaf ∷ right)
  pub some : 1 ≤ up_to before k (map (λ i. i.separator) (items_of images))
  pub place : seat (items_of images) k ≡ length left
  pub within : seat (items_of images) k < length (items_of images)
  pub page : home images k ≡ leaf.page
  pub held : leaf_of images leaf.page ≡ leaf.entries
  pub few : length leaf.entries ≤ 15
  pub rises : Sorted key_of before leaf.entries
  pub look : look_up key_of before k (entries_of images) ≡ look_up key_of before k leaf.entries
  pub from : 1 ≤ leaf.page
  pub to : leaf.page < P
  pub apart-left : Absent leaf.page left
  pub apart-right : Absent leaf.page right
  pub root : Absent 0 (left ++ leaf ∷ right)

separators-nodes : (t : Tree) → map (λ i. i.separator) (items_for t) ≡ seps t
separators-nodes [] = refl
separators-nodes (n ∷ t) = ap (λ ks. n.sep ∷ ks) (separators-nodes t)

own-entries : (images : List (List ℕ)) (is : List Item) → AllByRecursion (λ n. leaf_of images n.page ≡ n.entries) (map (node_of images) is)
own-entries images [] = tt
own-entries images (i ∷ is) = (refl, own-entries images is)

all-rising : (t : Tree) (hi : Option (List ℕ)) → Fine key_of before t hi → AllByRecursion (λ n. Sorted key_of before n.entries) t
all-rising [] hi f = tt
all-rising (n ∷ t) hi f = (f.0.rises, all-rising t hi f.1)

pub home-known : (P : ℕ) (images : List (List ℕ)) (k : List ℕ) → IsRegister P images → length k ≡ 22 → Home P images k
home-known P images k r long = go (tree_of images) refl
  where
    go : (t : Tree) → tree_of images ≡ t → Home P images k
    go [] e = let s = subst (Shape key_of before zero_key P) e r.shape in absurd (let b = s.begins in let z : ◌≡◌ {A = ℕ} 0 1 = cc in omega arith)
    go (n ∷ ns) e =
        let s = subst (Shape key_of before zero_key P) e r.shape in
        let sp = spot key_of before k n ns in
        let m = leaf_at key_of before k n ns in
        let parts = e ∙ sp.whole in
        let own = sym (items-tree images (items_of images)) in
        let items = own ∙ ap items_for parts in
        let above = zero_key-least k long in
        let first : n.sep ≡ zero_key = cc s.begins in
        let not_below : before k n.sep ≡ false = rw first above in
        let count : up_to before k (map (λ i. i.separator) (items_of images)) ≡ suc (length sp.left) =
        ap (λ is. up_to before k (map (λ i. i.separator) is)) (own ∙ ap items_for e)
        ∙ ap (λ b. cond b 0 (suc (up_to before k (map (λ i. i.separator) (items_for ns))))) not_below ∙ ap (λ ks. suc (up_to before k ks)) (separators-nodes ns) ∙ ap suc (sym sp.at) in
        let place : seat (items_of images) k ≡ length sp.left = omega arith in
        let here = λ (Q : Node (List ℕ) Entry → Type 0) (a : AllByRecursion Q (tree_of images)). (all-parts Q sp.left (m ∷ sp.right) (subst (AllByRecursion Q) parts a)).1.0 in
        let range = here (λ n. (1 ≤ n.page) × (n.page < P)) r.shape.range in
        let mid = map-append (λ n. n.page) sp.left (m ∷ sp.right) in
        let others = has_parts m.page (pages sp.left) (pages sp.right) (apart-mid m.page (pages sp.left) (pages sp.right) (subst Apart (ap pages parts ∙ mid) r.shape.apart)) in
        record {
          first = n;
          rest = ns;
          whole = e;
          lowest = above;
          left = sp.left;
          leaf = m;
          right = sp.right;
          parts = parts;
          found = refl;
          changed = sp.changed;
          behind = sym sp.at;
          items = items;
          some = omega arith;
          place = place;
          within = omega (arith, place, ap length items, length-map (sp.left ++ m ∷ sp.right) item_for, length-append sp.left (m ∷ sp.right));
          page = ap (λ i. (get_or (items_of images) i no_item).page) place ∙ ap (λ is. (get_or is (length sp.left) no_item).page) items ∙ ap (λ (i : Item). i.page) (at-part item_for m sp.right sp.left no_item);
          held = here (λ n. leaf_of images n.page ≡ n.entries) (own-entries images (items_of images));
          few = here (λ n. length n.entries ≤ 15) r.shape.sizes;
          rises = here (λ n. Sorted key_of before n.entries) (all-rising (tree_of images) None r.shape.fine);
          look = ap (λ t. look_up key_of before k (entries t)) e ∙ entry_in key_of before keys-ordered k n ns None s.fine;
          from = range.0;
          to = range.1;
          apart-left = others.0;
          apart-right = others.1;
          root = absent-root P (sp.left ++ m ∷ sp.right) (subst (AllByRecursion (λ n. (1 ≤ n.page) × (n.page < P))) parts r.shape.range);
        }
