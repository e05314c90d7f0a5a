-- What changes say of a key, told of the changes alone.
--     of_key       a change's key is this one
--     says         what is said of a key after a change, by what was said before: a put makes an entry if there is none, and a take makes none; a change of another key says nothing
--     said_from    the same after a list of changes, the first change first
--     said         what a list of changes says of a key of which nothing was said before
use Rattle.std.specs.Prelude.{ℕ, Bool, cond, List, Some, None, Option, nat_eq}
use Rattle.std.specs.List.{fold}
use Rattle.std.specs.Cmp.Lexicographic.{pointwise}
use Rattle.rows.specs.Lists.{or_else}
use Rattle.names.specs.declared.key.Key.{Key}
use Rattle.pages.specs.declared.records.Entry.{Entry}
use Rattle.register.specs.Images.{entry}
use Rattle.register.specs.declared.replay.Change.{Change}
use Rattle.register.specs.declared.replay.Change.TheVariants.{Put, Take}

abbrev pub of_key : List ℕ → Key → Bool
of_key k key = pointwise nat_eq key.bytes k

abbrev pub says : List ℕ → Option Entry → Change → Option Entry
says k o (Put key start length) = cond (of_key k key) (or_else o (Some (entry key.bytes start length))) o
says k o (Take key) = cond (of_key k key) None o

unfoldable pub said_from : List ℕ → Option Entry → List Change → Option Entry
said_from k o cs = fold (says k) o cs

abbrev pub said : List ℕ → List Change → Option Entry
said k changes = said_from k None changes
