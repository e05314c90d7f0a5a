-- Entries by the name of their file.
--     has_name             an entry's key is of this name, which is given by its 20 stored bytes
--     newest_of            the last entry of a name: in a list in the order of keys that of its highest version
--     highest_version_of   the highest version of a name, or 0
use Rattle.std.specs.Prelude.{ℕ, max, Bool, cond, List, [], ◌∷◌, take, Option, filter, nat_eq}
use Rattle.std.specs.Cmp.Lexicographic.{pointwise}
use Rattle.names.specs.Names.{version_of}
use Rattle.rows.specs.Lists.{last}
use Rattle.pages.specs.declared.records.Entry.{Entry}

abbrev pub has_name : List ℕ → Entry → Bool
has_name name e = pointwise nat_eq (take 20 e.key) name

abbrev pub newest_of : List ℕ → List Entry → Option Entry
newest_of name es = last (filter (has_name name) es)

unfoldable pub highest_version_of : List ℕ → List Entry → ℕ
highest_version_of name [] = 0
highest_version_of name (e ∷ es) = cond (has_name name e) (max (version_of e.key) (highest_version_of name es)) (highest_version_of name es)
