-- Lists of changes, and what they say.
--     changed      a list of entries after a change: a key that is there is not put in again, and the entry of a key that is not there is not taken out
--     told         what a list of changes says of entries, the first change first
--     Refuses      a register refuses a change: its key is not there, and is to be put in where there is no room
--     change_writes    what carrying out a change writes: nothing if it changes nothing
--     Carries      what carrying out a change leaves
--     Stops        the changes from the n-th on were not carried out, since the register refuses that one
use Rattle.std.specs.Prelude.{◌≡◌, ℕ, true, cond, is_some, List, [], map, length, slice_get, Some, None, Ok, Err, Result}
use Rattle.std.specs.List.{fold}
use Rattle.refusal.specs.declared.Refusal.{Refusal}
use Rattle.refusal.specs.declared.Refusal.TheVariants.{RegisterFull}
use Rattle.names.specs.Orders.{before}
use Rattle.rows.specs.Lists.{insert, remove, look_up}
use Rattle.pages.specs.Writes.{PageWrite, wrote}
use Rattle.pages.specs.declared.records.Entry.{Entry}
use Rattle.register.specs.Images.{key_of, entry, entries_of, is_full, put_writes, take_writes}
use Rattle.register.specs.Registers.{IsRegister}
use Rattle.register.specs.declared.replay.Change.{Change}
use Rattle.register.specs.declared.replay.Change.TheVariants.{Put, Take}

abbrev pub changed : Change → List Entry → List Entry
changed (Put key start length) es = cond (is_some (look_up key_of before key.bytes es)) es (insert key_of before (entry key.bytes start length) es)
changed (Take key) es = remove key_of before key.bytes es

unfoldable pub told : List Change → List Entry → List Entry
told cs es = fold (λ es c. changed c es) es cs

abbrev pub Refuses : ℕ → List (List ℕ) → Change → Type 0
Refuses P images (Put key start length) = (look_up key_of before key.bytes (entries_of images) ≡ None) × (is_full P images key.bytes ≡ true)
Refuses P images (Take key) = ⊥

abbrev pub change_writes : ℕ → List (List ℕ) → Change → List PageWrite
change_writes P images (Put key start length) = cond (is_some (look_up key_of before key.bytes (entries_of images))) [] (put_writes P (entry key.bytes start length) images)
change_writes P images (Take key) = cond (is_some (look_up key_of before key.bytes (entries_of images))) (take_writes key.bytes images) []

module _ {X : Type 0} (image : X → List ℕ) (written : X → List ℕ → X) where
  abbrev pub Carries : Change → List X → Result (Unit {0}) Refusal → List X → Type 0
  Carries change pages (Ok _) after =
      IsRegister (length pages) (map image after)
      × (entries_of (map image after) ≡ changed change (entries_of (map image pages)))
      × (after ≡ wrote written (change_writes (length pages) (map image pages) change) pages)
  Carries change pages (Err x) after = (x ≡ RegisterFull) × Refuses (length pages) (map image pages) change × (after ≡ pages)

abbrev pub Stops : ℕ → List (List ℕ) → ℕ → List Change → Type 0
Stops P images n changes = (c : Change) → slice_get changes n ≡ Some c → Refuses P images c
