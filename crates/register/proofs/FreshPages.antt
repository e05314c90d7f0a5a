-- The pages of a fresh volume hold a tree of one empty leaf.
--     fresh_tree         that tree
--     length-fresh       there are as many pages as asked for
--     fresh-held         they hold it
--     fresh-good         it is good
use Rattle.std.proofs.Common.{◌≡◌, ℕ, zero, suc, ◌+◌, ◌≤◌, [], ◌∷◌, length, refl, ap, arith}
use Rattle.tree.specs.Tree.{node}
use Rattle.register.specs.Images.{zero_key}
use Rattle.register.specs.Fresh.{fresh_page, fresh_from, fresh_pages}
use Rattle.register.proofs.Trees.{Tree, Held, Good}

abbrev pub fresh_tree : Tree
fresh_tree = node zero_key 1 [] ∷ []

length-from : (p n : ℕ) → length (fresh_from p n) ≡ n
unfolding fresh_from
length-from p zero = refl
length-from p (suc n) = ap suc (length-from (p + 1) n)

pub length-fresh : (P : ℕ) → length (fresh_pages P) ≡ P
length-fresh P = length-from 0 P

pub fresh-held : (P : ℕ) → 2 ≤ P → Held (fresh_pages P) fresh_tree
unfolding fresh_from fresh_page
fresh-held zero least = absurd (omega arith)
fresh-held (suc zero) least = absurd (omega arith)
fresh-held (suc (suc n)) least = record { root = refl; leaves = (refl, tt) }

pub fresh-good : (P : ℕ) → 2 ≤ P → Good P fresh_tree
fresh-good P least = record {
  shape = record {
    begins = refl;
    few = omega arith;
    fine = (record { rises = tt; from = tt; below = tt; next = tt }, tt);
    sizes = (omega arith, tt);
    filled = λ l. absurd (omega arith);
    apart = (refl, tt);
    range = ((omega arith, omega arith), tt);
  };
  separators = (refl, tt);
  keys = tt;
  fit = tt;
}
