-- The order of keys of bytes, which a trait asks for as a ghost member, is the one of names.
--     bytes-before     what compares two lists of bytes tells which one comes before the other
--     keys-total       so that order is total
use Rattle.std.proofs.Common.{◌≡◌, refl, sym, ap, subst}
use Rattle.std.specs.Cmp.Lexicographic.{slice_cmp, lists_agrees}
use Rattle.std.specs.Ordering.{is_lt, is_some_and, nat_cmp}
use Rattle.names.specs.Orders.{before, Total}
use Rattle.names.proofs.ByteOrder.{lt-before, keys-ordered}
use Rattle.rows.specs.Lists.{comes_before}

pub bytes-before : comes_before (slice_cmp nat_cmp) ≡ before
bytes-before = λ i xs ys. lt-before xs ys (is_lt (slice_cmp nat_cmp xs ys)) (ap (is_some_and is_lt) (sym (lists_agrees (λ x y. refl) xs ys))) i

pub keys-total : Total (comes_before (slice_cmp nat_cmp))
keys-total = subst Total (sym bytes-before) keys-ordered
