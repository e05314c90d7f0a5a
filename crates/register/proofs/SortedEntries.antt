-- The entries of a tree in order are in order.
--     entries-sorted       all of them, leaf by leaf
--     register-sorted      the entries of a register
use Rattle.std.proofs.Common.{◌≡◌, ℕ, Bool, true, List, [], ◌∷◌, None, Option, sym, append-nil, subst}
use Rattle.std.specs.List.{AllByRecursion}
use Rattle.std.proofs.ByRecursion.{All-weaker}
use Rattle.names.specs.Orders.{before, Total}
use Rattle.names.proofs.ByteOrder.{keys-ordered}
use Rattle.rows.specs.Lists.{Sorted}
use Rattle.rows.proofs.Sorting.{sorted-append}
use Rattle.tree.specs.Tree.{Node, entries, Fine}
use Rattle.tree.proofs.Nodes.{fine-above}
use Rattle.register.specs.Images.{key_of, tree_of, entries_of}
use Rattle.register.specs.Registers.{IsRegister}

pub entries-sorted : {K E : Type 0} (key : E → K) (lt : K → K → Bool) → Total lt → (t : List (Node K E)) (hi : Option K) → Fine key lt t hi → Sorted key lt (entries t)
entries-sorted key lt o [] hi f = tt
entries-sorted key lt o (n ∷ []) hi f = subst (Sorted key lt) (sym (append-nil n.entries)) f.0.rises
entries-sorted key lt o (n ∷ m ∷ ms) hi f =
    sorted-append key lt n.entries (entries (m ∷ ms)) f.0.rises (entries-sorted key lt o (m ∷ ms) hi f.1)
    (All-weaker (λ e. lt (key e) m.sep ≡ true) (λ e. AllByRecursion (λ x. lt (key e) (key x) ≡ true) (entries (m ∷ ms))) (λ e p. fine-above key lt o (key e) m ms hi f.1 p) n.entries f.0.below)

pub register-sorted : (P : ℕ) (images : List (List ℕ)) → IsRegister P images → Sorted key_of before (entries_of images)
register-sorted P images r = entries-sorted key_of before keys-ordered (tree_of images) None r.shape.fine

-- What the check takes up by itself where a call promises the order.
pub ruleset sorted = (register-sorted)
