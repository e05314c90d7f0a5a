-- The separators of a tree that a leaf was split in, or dropped from.
--     separators-more      the new one is a key
--     separators-fewer     the first that is left becomes zeros
use Rattle.std.proofs.Common.{◌≡◌, ℕ, true, List, [], ◌∷◌, ◌++◌, refl}
use Rattle.std.specs.List.{AllByRecursion}
use Rattle.names.specs.Names.{is_byte_key}
use Rattle.names.specs.Orders.{before}
use Rattle.tree.specs.Tree.{Node, with_first}
use Rattle.pages.specs.declared.records.Entry.{Entry}
use Rattle.register.specs.Images.{zero_key, key_of}
use Rattle.register.specs.Registers.{Separators}
use Rattle.register.proofs.Trees.{Tree, items_for}

abbrev Keys : Tree → Type 0
Keys t = AllByRecursion (λ i. is_byte_key i.separator ≡ true) (items_for t)

-- l and m have the same separator
keys-more : (left right : Tree) (m l n : Node (List ℕ) Entry) → l.sep ≡ m.sep → is_byte_key n.sep ≡ true → Keys (left ++ m ∷ right) → Keys (left ++ l ∷ n ∷ right)
keys-more [] right m l n e k a = (rw e a.0, (k, a.1))
keys-more (x ∷ left) right m l n e k a = (a.0, keys-more left right m l n e k a.1)

keys-fewer : (left right : Tree) (m : Node (List ℕ) Entry) → Keys (left ++ m ∷ right) → Keys (left ++ right)
keys-fewer [] right m a = a.1
keys-fewer (x ∷ left) right m a = (a.0, keys-fewer left right m a.1)

pub separators-more : (left right : Tree) (m l n : Node (List ℕ) Entry) → l.sep ≡ m.sep → is_byte_key n.sep ≡ true → Separators (items_for (left ++ m ∷ right)) → Separators (items_for (left ++ l ∷ n ∷ right))
separators-more [] right m l n e k s = (rw e s.0, (k, s.1))
separators-more (x ∷ left) right m l n e k s = (s.0, keys-more left right m l n e k s.1)

pub separators-fewer : (left right : Tree) (m : Node (List ℕ) Entry) → Separators (items_for (left ++ m ∷ right)) → Separators (items_for (with_first key_of before zero_key (left ++ right)))
separators-fewer [] [] m s = tt
separators-fewer [] (r ∷ right) m s = (refl, s.1.1)
separators-fewer (x ∷ left) right m s = (refl, keys-fewer left right m s.1)
