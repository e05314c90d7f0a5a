-- Putting an entry in leaves a register, with that entry more.
--     put-register       where the register is not full for its key
use Rattle.std.proofs.Common.{◌≡◌, ℕ, ◌-◌, ◌<◌, min, true, false, cond, ltb, List, [], ◌∷◌, ◌++◌, length, get_or, take, drop, Some, None, Option, sym, refl, ap, ◌∙◌, subst, arith, drop-cons}
use Rattle.std.specs.List.{AllByRecursion}
use Rattle.std.proofs.lemmas.List.{length-map}
use Rattle.std.proofs.ByRecursion.{All-get_or}
use Rattle.std.proofs.lemmas.Bool.{cond_both, cond-true, cond-false, ltb-true, ltb-false, cases_Bool}
use Rattle.names.specs.Names.{is_byte_key}
use Rattle.names.specs.Orders.{before}
use Rattle.names.proofs.ByteOrder.{keys-ordered}
use Rattle.rows.specs.Lists.{insert, look_up}
use Rattle.rows.proofs.Sorting.{all_insert, length-insert, all-parts}
use Rattle.tree.specs.Tree.{Node, node, pages, entries, lowest, Shape, split, second, put_in}
use Rattle.tree.specs.Laws.{Put}
use Rattle.tree.proofs.Pages.{lowest_free}
use Rattle.tree.proofs.Stand.{put-stands}
use Rattle.pages.specs.Records.{EntryFit}
use Rattle.pages.specs.Writes.{PageWrite, imaged}
use Rattle.pages.specs.declared.records.Entry.{Entry}
use Rattle.register.specs.Images.{zero_key, key_of, no_entry, entries_of, leaf_page, root_page, write, most_items, is_full, put_writes}
use Rattle.register.specs.Registers.{Separators, IsRegister}
use Rattle.register.proofs.Trees.{Tree, items_for, items-alike, all-entries}
use Rattle.register.proofs.Homes.{Home}
use Rattle.register.proofs.AtHome.{known, within, becomes}
use Rattle.register.proofs.Full.{full-home}
use Rattle.register.proofs.Holding.{held-one, held-two}
use Rattle.register.proofs.Separators.{separators-more}
use Rattle.register.proofs.PutHome.{one_leaf, two_leaves, put_in-home, put_writes-home}

second-is : (q : ℕ) (es : List Entry) → 8 < length es → second key_of before q (drop 8 es) ≡ node (get_or es 8 no_entry).key q (drop 8 es) ∷ []
second-is q es l = let d = drop-cons es 8 no_entry l in ap (second key_of before q) d ∙ ap (λ fs. node (get_or es 8 no_entry).key q fs ∷ []) (sym d)

module _ (P : ℕ) (e : Entry) (images : List (List ℕ)) (h : Home P images e.key) (r : IsRegister P images) (fit : EntryFit e) (good : is_byte_key e.key ≡ true) (fresh : look_up key_of before e.key (entries_of images) ≡ None) where
  abbrev leaf : Node (List ℕ) Entry
  leaf = h.leaf

  abbrev was : Tree
  was = h.left ++ leaf ∷ h.right

  abbrev es : List Entry
  es = insert key_of before e leaf.entries

  abbrev q : ℕ
  q = lowest (P - 1) 1 (pages was)

  abbrev one : Tree
  one = one_leaf P e images h

  abbrev two : Tree
  two = two_leaves P e images h

  abbrev Result : List PageWrite → Type 0
  Result ws = IsRegister P (imaged ws images) × (entries_of (imaged ws images) ≡ insert key_of before e (entries_of images))

  keys : AllByRecursion (λ e. is_byte_key e.key ≡ true) (insert key_of before e (entries_of images))
  keys = all_insert key_of before (λ e. is_byte_key e.key ≡ true) e (entries_of images) good r.keys

  fits : AllByRecursion EntryFit (insert key_of before e (entries_of images))
  fits = all_insert key_of before EntryFit e (entries_of images) fit r.entries_fit

  -- the tree's own law
  abbrev Law : Option Tree → Type 0
  Law = Put key_of before zero_key P e h.first h.rest

  law : Law (cond (ltb (length leaf.entries) 15) (Some one) (cond (ltb (length was) (min 20 (P - 1))) (Some (h.left ++ (split key_of before q e leaf ++ h.right))) None))
  law =
      let l = put-stands key_of before keys-ordered zero_key P e h.first h.rest h.lowest (subst (Shape key_of before zero_key P) h.whole r.shape) (subst (λ t. look_up key_of before e.key (entries t) ≡ None) h.whole fresh) in
      subst Law (ap (put_in key_of before P e) (sym h.whole) ∙ put_in-home P e images h) l

  same_entries : (t : Tree) → entries t ≡ insert key_of before e (entries (h.first ∷ h.rest)) → entries t ≡ insert key_of before e (entries_of images)
  same_entries t s = s ∙ ap (λ t. insert key_of before e (entries t)) (sym h.whole)

  put-one : ltb (length leaf.entries) 15 ≡ true → Result (write leaf.page (leaf_page es) ∷ [])
  put-one a =
      let l = subst Law (cond-true _ _ _ a) law in
      let stands = known P e.key images h r in
      becomes P images r (insert key_of before e (entries_of images)) keys fits (write leaf.page (leaf_page es) ∷ []) one (held-one images h.left h.right leaf stands.0 h.apart-left h.apart-right h.root (within P e.key images h r) es)
      (subst Separators (items-alike h.left h.right leaf es) stands.1.separators) (l.0, same_entries one l.1)

  put-two : ltb (length leaf.entries) 15 ≡ false → ltb (length was) (min 20 (P - 1)) ≡ true → Result (write leaf.page (leaf_page (take 8 es)) ∷ write q (leaf_page (drop 8 es)) ∷ write 0 (root_page (items_for two)) ∷ [])
  put-two a b =
      let stands = known P e.key images h r in
      let n16 : length es ≡ 16 = omega (arith, length-insert key_of before e leaf.entries, h.few, ltb-false _ _ a) in
      let new = node (get_or es 8 no_entry).key q (drop 8 es) in
      let t : h.left ++ (split key_of before q e leaf ++ h.right) ≡ two = ap (λ s. h.left ++ node leaf.sep leaf.page (take 8 es) ∷ (s ++ h.right)) (second-is q es (omega arith)) in
      let l = subst Law (cond-false _ _ _ a ∙ cond-true _ _ _ b ∙ ap Some t) law in
      let free = lowest_free (P - 1) 1 (pages was) (omega (arith, ltb-true _ _ b, length-map was (λ (n : Node (List ℕ) Entry). n.page))) in
      let own = all-parts (λ n. AllByRecursion (λ e. is_byte_key e.key ≡ true) n.entries) h.left (leaf ∷ h.right) (all-entries (λ e. is_byte_key e.key ≡ true) was stands.1.keys) in
      let key : is_byte_key new.sep ≡ true = All-get_or (λ e. is_byte_key e.key ≡ true) es 8 no_entry (omega arith) (all_insert key_of before (λ e. is_byte_key e.key ≡ true) e leaf.entries good own.1.0) in
      becomes P images r (insert key_of before e (entries_of images)) keys fits (write leaf.page (leaf_page (take 8 es)) ∷ write q (leaf_page (drop 8 es)) ∷ write 0 (root_page (items_for two)) ∷ []) two
      (held-two images h.left h.right leaf stands.0 h.apart-left h.apart-right h.root (within P e.key images h r) q new.sep (take 8 es) (drop 8 es) free.not_in free.from (omega (arith, free.below, r.all)))
      (separators-more h.left h.right leaf (node leaf.sep leaf.page (take 8 es)) new refl key stands.1.separators) (l.0, same_entries two l.1)

  pub put-register : is_full P images e.key ≡ false → Result (put_writes P e images)
  put-register room =
      subst Result (sym (put_writes-home P e images h)) (cond_both (ltb (length leaf.entries) 15) (write leaf.page (leaf_page es) ∷ []) _ Result put-one (λ a. put-two a (let f = sym (full-home P images e.key h) ∙ room in grind (arith, cases_Bool (ltb (length was) (most_items P))))))
