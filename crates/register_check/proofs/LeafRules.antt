-- What the test of a leaf says.
--     leaf-decided     it decides whether the leaf is right
use Rattle.std.proofs.Common.{◌≡◌, ℕ, ◌<◌, Bool, true, false, not, ◌||◌, eqb, List, length, Some, None, Option, refl, arith}
use Rattle.std.specs.Bool.{Decides}
use Rattle.std.specs.List.{list_all}
use Rattle.std.proofs.ByRecursion.{Decides-by_and}
use Rattle.std.proofs.lemmas.Bool.Decides.{Decides-and, Decides-like, nat_tests}
use Rattle.names.specs.Names.{is_byte_key}
use Rattle.names.specs.Orders.{before}
use Rattle.tree.specs.Tree.{Under}
use Rattle.pages.specs.declared.records.Entry.{Entry}
use Rattle.register.specs.Images.{key_of, leaf_page}
use Rattle.register_check.specs.Leaves.{EntryRight, LeafRight, under, entry_right, leaf_right}
use Rattle.register_check.specs.declared.leaves.Limits.{Limits}
use Rattle.register_check.proofs.Risings.{rising-decided}
use Rattle.register_check.proofs.RootRules.{same-decided, itself-decided, not-decided}
use Rattle.register_check.proofs.ExtentRules.{in_place-decided}

under-decided : (next : Option (List ℕ)) (k : List ℕ) → Decides (under next k) (Under key_of before next k)
under-decided None k = ((λ e. tt), (λ u. refl))
under-decided (Some next) k = itself-decided (before k next)

entry-decided : (l : Limits) (e : Entry) → Decides (entry_right l e) (EntryRight l e)
entry-decided l e =
    Decides-like (entry_right l e) (λ t. record { key = t.0.0.0; from = t.0.0.1; below = t.0.1; placed = t.1 }) (λ r. (((r.key, r.from), r.below), r.placed))
    (Decides-and _ _ (Decides-and _ _ (Decides-and _ _ (itself-decided (is_byte_key e.key)) (not-decided (before e.key l.separator))) (under-decided l.next e.key)) (in_place-decided l.area.first l.area.sectors e))

filled-decided : (single : Bool) (n : ℕ) → Decides (single || not (eqb n 0)) (single ≡ false → 0 < n)
filled-decided true n = ((λ t e. cc), (λ h. refl))
filled-decided false n = ((λ t e. grind (arith, nat_tests)), (λ h. let m = h refl in grind (arith, nat_tests)))

pub leaf-decided : (l : Limits) (single : Bool) (page : List ℕ) (es : List Entry) → Decides (leaf_right l single page es) (LeafRight l single page es)
leaf-decided l single page es =
    Decides-like (leaf_right l single page es) (λ t. record { form = t.0.0.0; filled = t.0.0.1; rises = t.0.1; entries = t.1 }) (λ r. (((r.form, r.filled), r.rises), r.entries))
    (Decides-and _ _ (Decides-and _ _ (Decides-and _ _ (same-decided page (leaf_page es)) (filled-decided single (length es))) (rising-decided key_of es))
    (Decides-by_and (entry_right l) (EntryRight l) (list_all (entry_right l)) (entry-decided l) refl (λ _ _. refl) es))
