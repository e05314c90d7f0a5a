-- Taking the entry of a key out leaves a register, without that entry.
--     take-register        where there is one
use Rattle.std.proofs.Common.{◌≡◌, ℕ, Bool, true, false, cond, List, [], ◌∷◌, ◌++◌, Some, sym, subst}
use Rattle.std.specs.List.{AllByRecursion}
use Rattle.std.proofs.lemmas.Bool.{cond_both, cond-true, cond-false}
use Rattle.names.specs.Names.{is_byte_key}
use Rattle.names.specs.Orders.{before}
use Rattle.names.proofs.ByteOrder.{keys-ordered}
use Rattle.rows.specs.Lists.{remove, look_up}
use Rattle.rows.proofs.Sorting.{all_remove}
use Rattle.tree.specs.Tree.{Node, entries, Shape}
use Rattle.tree.proofs.Stand.{take-stands}
use Rattle.pages.specs.Records.{EntryFit}
use Rattle.pages.specs.Writes.{PageWrite, imaged}
use Rattle.pages.specs.declared.records.Entry.{Entry}
use Rattle.register.specs.Images.{zero_key, key_of, tree_of, entries_of, leaf_page, root_page, write, take_writes}
use Rattle.register.specs.Registers.{Separators, IsRegister}
use Rattle.register.proofs.Trees.{Tree, items_for, items-alike}
use Rattle.register.proofs.Homes.{Home}
use Rattle.register.proofs.AtHome.{known, within, becomes}
use Rattle.register.proofs.Holding.{held-one, held-fewer}
use Rattle.register.proofs.Separators.{separators-fewer}
use Rattle.register.proofs.TakeHome.{leaf_goes, leaf_less, without_leaf, take_out-home, take_writes-home}

module _ (P : ℕ) (k : List ℕ) (images : List (List ℕ)) (h : Home P images k) (x : Entry) (there : look_up key_of before k (entries_of images) ≡ Some x) (r : IsRegister P images) where
  abbrev leaf : Node (List ℕ) Entry
  leaf = h.leaf

  abbrev was : Tree
  was = h.left ++ leaf ∷ h.right

  abbrev es : List Entry
  es = remove key_of before k leaf.entries

  abbrev goes : Bool
  goes = leaf_goes P k images h

  abbrev less : Tree
  less = leaf_less P k images h

  abbrev fewer : Tree
  fewer = without_leaf P k images h

  abbrev Result : List PageWrite → Type 0
  Result ws = IsRegister P (imaged ws images) × (entries_of (imaged ws images) ≡ remove key_of before k (entries_of images))

  keys : AllByRecursion (λ e. is_byte_key e.key ≡ true) (remove key_of before k (entries_of images))
  keys = all_remove key_of before (λ e. is_byte_key e.key ≡ true) k (entries_of images) r.keys

  fits : AllByRecursion EntryFit (remove key_of before k (entries_of images))
  fits = all_remove key_of before EntryFit k (entries_of images) r.entries_fit

  -- the tree's own law
  abbrev Law : Tree → Type 0
  Law t = Shape key_of before zero_key P t × (entries t ≡ remove key_of before k (entries_of images))

  law : Law (cond goes fewer less)
  law = subst Law (take_out-home P k images h) (take-stands key_of before keys-ordered zero_key P k (tree_of images) h.lowest r.shape)

  take-leaf : goes ≡ true → Result (write leaf.page (leaf_page es) ∷ write 0 (root_page (items_for fewer)) ∷ [])
  take-leaf a =
      let stands = known P k images h r in
      let ws = write leaf.page (leaf_page es) ∷ write 0 (root_page (items_for fewer)) ∷ [] in
      becomes P images r (remove key_of before k (entries_of images)) keys fits ws fewer (held-fewer images h.left h.right leaf stands.0 h.apart-left h.apart-right h.root (within P k images h r) es)
      (separators-fewer h.left h.right leaf stands.1.separators) (subst Law (cond-true _ _ _ a) law)

  take-one : goes ≡ false → Result (write leaf.page (leaf_page es) ∷ [])
  take-one a =
      let stands = known P k images h r in
      becomes P images r (remove key_of before k (entries_of images)) keys fits (write leaf.page (leaf_page es) ∷ []) less (held-one images h.left h.right leaf stands.0 h.apart-left h.apart-right h.root (within P k images h r) es)
      (subst Separators (items-alike h.left h.right leaf es) stands.1.separators) (subst Law (cond-false _ _ _ a) law)

  pub take-register : Result (take_writes k images)
  take-register = subst Result (sym (take_writes-home P k images h x there)) (cond_both goes (write leaf.page (leaf_page es) ∷ write 0 (root_page (items_for fewer)) ∷ []) (write leaf.page (leaf_page es) ∷ []) Result take-leaf take-one)
