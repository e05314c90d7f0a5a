-- What a change of a register leaves. `image` is a page's image, and `written` what a page is once an image was written to it.
--     Full         a key's leaf has 15 entries, and the root as many items as it may have
--     NextFree     the version after a name's highest is not there
--     PutsIn       putting in an entry whose key is not there: done, or 5 exactly if the register is full for that key
--     TakesOut     taking a key's entry out, or there is none
use Rattle.std.specs.Prelude.{◌≡◌, ℕ, ◌+◌, ◌<◌, true, false, List, ◌++◌, map, length, Some, None, Ok, Err, Option, Result}
use Rattle.refusal.specs.declared.Refusal.{Refusal}
use Rattle.refusal.specs.declared.Refusal.TheVariants.{RegisterFull}
use Rattle.names.specs.Names.{two_bytes}
use Rattle.names.specs.Orders.{before}
use Rattle.names.specs.Versions.{highest}
use Rattle.rows.specs.Lists.{insert, remove, look_up}
use Rattle.pages.specs.Writes.{wrote}
use Rattle.pages.specs.declared.records.Entry.{Entry}
use Rattle.register.specs.Images.{key_of, items_of, leaf_of, entries_of, home, most_items, is_full, put_writes, take_writes}
use Rattle.register.specs.Registers.{IsRegister}

abbrev pub Full : ℕ → List (List ℕ) → List ℕ → Type 0
Full P images k = (length (leaf_of images (home images k)) ≡ 15) × (length (items_of images) ≡ most_items P)

abbrev pub NextFree : List ℕ → ℕ → List Entry → Type 0
NextFree name version es = version < highest → look_up key_of before (name ++ two_bytes (version + 1)) es ≡ None

module _ {X : Type 0} (image : X → List ℕ) (written : X → List ℕ → X) where
  abbrev pub PutsIn : Entry → List X → Result (Unit {0}) Refusal → List X → Type 0
  PutsIn e pages (Ok _) after =
      (is_full (length pages) (map image pages) e.key ≡ false)
      × (after ≡ wrote written (put_writes (length pages) e (map image pages)) pages)
      × IsRegister (length pages) (map image after)
      × (entries_of (map image after) ≡ insert key_of before e (entries_of (map image pages)))
  PutsIn e pages (Err x) after = (x ≡ RegisterFull) × (is_full (length pages) (map image pages) e.key ≡ true) × (after ≡ pages)

  abbrev pub TakesOut : List ℕ → List X → Option Entry → List X → Type 0
  TakesOut k pages (Some e) after =
      (look_up key_of before k (entries_of (map image pages)) ≡ Some e)
      × (after ≡ wrote written (take_writes k (map image pages)) pages)
      × IsRegister (length pages) (map image after)
      × (entries_of (map image after) ≡ remove key_of before k (entries_of (map image pages)))
  TakesOut k pages None after = (look_up key_of before k (entries_of (map image pages)) ≡ None) × (after ≡ pages)
