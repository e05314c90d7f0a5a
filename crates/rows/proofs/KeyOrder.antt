-- What the order of keys of bytes says of calls that compare them.
--     bytes_total      it is total
--     up_to-before     as many keys are not above one by it as by the order of names
--     ge-before        what `>=` of two arrays answers
use Rattle.std.proofs.Common.{◌≡◌, ℕ, Bool, not, Some, List, refl, ap, arith}
use Rattle.std.specs.Cmp.Lexicographic.{slice_cmp, slice_partial_cmp}
use Rattle.std.specs.Ordering.{is_ge, is_some_and, nat_cmp}
use Rattle.std.proofs.lemmas.Cmp.{same_from_slice_cmp_tested}
use Rattle.std.proofs.lemmas.Bool.Decides.{nat_tests}
use Rattle.names.specs.Orders.{before, Total}
use Rattle.rows.specs.Lists.{comes_before, up_to}
use Rattle.rows.specs.KeysTotal.{bytes-before, keys-total}

pub bytes_total : Total (comes_before (slice_cmp nat_cmp))
bytes_total = keys-total

pub up_to-before : (k : List ℕ) (ks : List (List ℕ)) → up_to (comes_before (slice_cmp nat_cmp)) k ks ≡ up_to before k ks
up_to-before k ks = ap (λ lt. up_to lt k ks) bytes-before

pub ge-before : (xs ys : List ℕ) (r : Bool) → r ≡ is_some_and is_ge (slice_partial_cmp (λ x y. Some (nat_cmp x y)) xs ys) → r ≡ not (before xs ys)
unfolding before
ge-before = same_from_slice_cmp_tested nat_cmp is_ge (λ xs ys. not (before xs ys)) refl (λ _ _. refl) (λ _ _. refl) (λ x y xs ys o h. grind (arith, nat_tests))
