-- A fact of all entries of a tree, leaf by leaf.
--     all-joined       of the entries of each leaf, and so of all
--     all-mapped       of the images of elements, and so of the elements
use Rattle.std.proofs.Common.{ℕ, List, [], ◌∷◌, map}
use Rattle.std.specs.List.{AllByRecursion}
use Rattle.std.proofs.ByRecursion.{All-append}
use Rattle.tree.specs.Tree.{Node, entries}
use Rattle.pages.specs.declared.records.Entry.{Entry}

pub all-joined : (P : Entry → Type 0) (t : List (Node (List ℕ) Entry)) → AllByRecursion (λ n. AllByRecursion P n.entries) t → AllByRecursion P (entries t)
all-joined P [] a = tt
all-joined P (n ∷ t) a = All-append P n.entries (entries t) a.0 (all-joined P t a.1)

pub all-mapped : {X Y : Type 0} (P : Y → Type 0) (f : X → Y) (xs : List X) → AllByRecursion P (map f xs) → AllByRecursion (λ x. P (f x)) xs
all-mapped P f [] a = tt
all-mapped P f (x ∷ xs) a = (a.0, all-mapped P f xs a.1)
