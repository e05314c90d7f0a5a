-- The fact that images are a register has one proof at most, so a type may hold it.
--     IsRegister-prop      two proofs of it are equal; the lemmas above it say the same of its parts
use Rattle.std.specs.Prelude.{ℕ, Bool, List, [], ◌∷◌, Some, None, Option}
use Rattle.std.specs.List.{AllByRecursion-prop}
use Rattle.std.specs.Coded.{×_prop, Unit-prop}
use Rattle.names.specs.Orders.{before}
use Rattle.rows.specs.Lists.{Sorted}
use Rattle.tree.specs.Tree.{Node, Under, Leaf, Fine, bound, Apart, Shape}
use Rattle.pages.specs.declared.records.Item.{Item}
use Rattle.pages.specs.declared.records.Entry.{Entry}
use Rattle.register.specs.Images.{zero_key, key_of}
use Rattle.register.specs.Registers.{Separators, IsRegister}
use mathlib.Core.Bool.{Bool-set}
use Rattle.std.proofs.Props.{props}

module _ {K E : Type 0} (key : E → K) (lt : K → K → Bool) where
  Under-prop : (hi : Option K) (k : K) → IsProp (Under key lt hi k)
  Under-prop None k = Unit-prop
  Under-prop (Some h) k = Bool-set _ _

  Sorted-prop : (es : List E) → IsProp (Sorted key lt es)
  Sorted-prop [] = Unit-prop
  Sorted-prop (e ∷ es) = ×_prop (AllByRecursion-prop _ (λ _. Bool-set _ _) es) (Sorted-prop es)

  Leaf-prop : (n : Node K E) (hi : Option K) → IsProp (Leaf key lt n hi)
  Leaf-prop n hi = hlevel (props, Under-prop, Sorted-prop)

  Fine-prop : (ns : List (Node K E)) (hi : Option K) → IsProp (Fine key lt ns hi)
  Fine-prop [] hi = Unit-prop
  Fine-prop (n ∷ ns) hi = ×_prop (Leaf-prop n (bound key lt ns hi)) (Fine-prop ns hi)

Apart-prop : (ps : List ℕ) → IsProp (Apart ps)
Apart-prop [] = Unit-prop
Apart-prop (p ∷ ps) = ×_prop (Bool-set _ _) (Apart-prop ps)

Shape-prop : (P : ℕ) (t : List (Node (List ℕ) Entry)) → IsProp (Shape key_of before zero_key P t)
Shape-prop P t = hlevel (props, Fine-prop key_of before, Apart-prop)

Separators-prop : (is : List Item) → IsProp (Separators is)
Separators-prop [] = Unit-prop
Separators-prop (i ∷ is) = hlevel props

pub IsRegister-prop : (P : ℕ) (images : List (List ℕ)) → IsProp (IsRegister P images)
IsRegister-prop P images = hlevel (props, Shape-prop, Separators-prop)
