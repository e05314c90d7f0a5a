-- The outcomes of the check: `root` is the image of page 0 as it was read, and `items` its items.
--     items-inside     the items of a right root name pages of the table
--     root-fault       the root is not right
--     leaves-fault     the root is right, and `answer` is what the leaves say
use Rattle.std.proofs.Common.{◌≡◌, ℕ, ◌<◌, ◌≤◌, Bool, true, false, cond, List, Some, Option, Err, Result, sym, ap, ◌∙◌}
use Rattle.std.specs.List.{AllByRecursion}
use Rattle.std.proofs.ByRecursion.{All-weaker}
use Rattle.refusal.specs.declared.Refusal.{Refusal}
use Rattle.refusal.specs.declared.Refusal.TheVariants.{RegisterBroken}
use Rattle.pages.specs.Bytes.{records_of}
use Rattle.pages.specs.Records.{item_of}
use Rattle.pages.specs.declared.records.Item.{Item}
use Rattle.register.specs.Images.{page_at}
use Rattle.register_check.specs.Roots.{root_right}
use Rattle.register_check.specs.Faults.{answer_of, fault_of_leaves, fault}
use Rattle.register_check.proofs.RootRules.{root-decided}

pub items-inside : (n : ℕ) (root : List ℕ) (items : List Item) → true ≡ root_right n root items → AllByRecursion (λ i. i.page < n) items
items-inside n root items e = All-weaker (λ i. (1 ≤ i.page) × (i.page < n)) (λ i. i.page < n) (λ i h. h.1) items ((root-decided n root items).0 (sym e)).range

module _ (first sectors P : ℕ) (images : List (List ℕ)) (root : List ℕ) (items : List Item) (r : root ≡ page_at images 0) (i : items ≡ records_of item_of 24 20 root) where
  abbrev by_root : Bool → List Item → Option ℕ
  by_root b is = cond b (fault_of_leaves first sectors images is) (Some 0)

  whole : (b : Bool) → b ≡ root_right P root items → by_root b items ≡ fault first sectors P images
  unfolding fault
  whole b e =
      let at = λ (p : List ℕ) (is : List Item). by_root (root_right P p is) is in
      ap (λ b. by_root b items) e ∙ ap (at root) i ∙ ap (λ p. at p (records_of item_of 24 20 p)) r

  pub root-fault : false ≡ root_right P root items → Err (RegisterBroken 0) ≡ answer_of (fault first sectors P images)
  root-fault e = ap answer_of (whole false e)

  pub leaves-fault : (answer : Result Unit Refusal) → true ≡ root_right P root items → answer ≡ answer_of (fault_of_leaves first sectors images items) → answer ≡ answer_of (fault first sectors P images)
  leaves-fault answer e l = l ∙ ap answer_of (whole true e)
