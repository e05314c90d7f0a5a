-- What the tree is to the plain list of its entries, for every total order.
--     Put, PutStands   putting in keeps the rules and gives the list with one entry more; or there are as many leaves as there may be, and the key's is full
--     TakeStands       taking out keeps the rules and gives the list without the key's entry
--     FindsStand       look ups in the tree are those in the list
use Rattle.std.specs.Prelude.{◌≡◌, ℕ, ◌-◌, min, Bool, false, List, ◌∷◌, length, Some, None, Option}
use Rattle.names.specs.Orders.{Total}
use Rattle.rows.specs.Lists.{insert, remove, look_up, first_above, last_up_to}
use Rattle.tree.specs.Tree.{Node, entries, leaf_at, put_in, take_out, next_above, highest, Shape}

module _ {K E : Type 0} (key : E → K) (lt : K → K → Bool) where
  -- what putting in gives: the same entries with one more, or the register is full
  abbrev pub Put : K → ℕ → E → Node K E → List (Node K E) → Option (List (Node K E)) → Type 0
  Put z P e n ns (Some u) = Shape key lt z P u × (entries u ≡ insert key lt e (entries (n ∷ ns)))
  Put z P e n ns None = (length (n ∷ ns) ≡ min 20 (P - 1)) × (length (leaf_at key lt (key e) n ns).entries ≡ 15)

  abbrev pub PutStands : Type 0
  PutStands = Total lt → (z : K) (P : ℕ) (e : E) (n : Node K E) (ns : List (Node K E)) → lt (key e) z ≡ false
      → Shape key lt z P (n ∷ ns) → look_up key lt (key e) (entries (n ∷ ns)) ≡ None → Put z P e n ns (put_in key lt P e (n ∷ ns))

  abbrev pub TakeStands : Type 0
  TakeStands = Total lt → (z : K) (P : ℕ) (k : K) (t : List (Node K E)) → lt k z ≡ false
      → Shape key lt z P t → Shape key lt z P (take_out key lt z k t) × (entries (take_out key lt z k t) ≡ remove key lt k (entries t))

  abbrev pub FindsStand : Type 0
  FindsStand = Total lt → (z : K) (P : ℕ) (k : K) (n : Node K E) (ns : List (Node K E)) → Shape key lt z P (n ∷ ns)
      → (look_up key lt k (entries (n ∷ ns)) ≡ look_up key lt k (leaf_at key lt k n ns).entries)
      × (first_above key lt k (entries (n ∷ ns)) ≡ next_above key lt k n ns)
      × (last_up_to key lt k (entries (n ∷ ns)) ≡ highest key lt k None n ns)
