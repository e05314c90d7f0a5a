-- Entries in the order of keys, gone through from a key on.
--     entries_above        those of a list whose key is above a key
use Rattle.std.specs.Prelude.{ℕ, List, filter}
use Rattle.names.specs.Orders.{before}
use Rattle.pages.specs.declared.records.Entry.{Entry}

abbrev pub entries_above : List ℕ → List Entry → List Entry
entries_above k es = filter (λ e. before k e.key) es
