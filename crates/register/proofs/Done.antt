-- What the calls leave: the pages after a change, against what their clauses say.
--     still            a register is one whatever it is called
--     seated-at        a seat on the pages that were looked at is one on the same pages
--     put-done, take-done      an entry put in, and taken out
use Rattle.std.specs.Prelude.{◌^◌, ◌||◌, nat_lt}
use Rattle.std.proofs.Common.{◌≡◌, ℕ, ◌<◌, true, false, List, map, length, Some, None, Ok, sym, ap, ◌∙◌, subst, arith}
use Rattle.std.proofs.lemmas.Bool.Decides.{nat_tests}
use Rattle.names.specs.Orders.{before}
use Rattle.names.specs.declared.key.Key.{Key}
use Rattle.names.proofs.Stored.{byte-key-long}
use Rattle.rows.specs.Lists.{look_up}
use Rattle.pages.specs.Writes.{wrote}
use Rattle.pages.specs.declared.records.Entry.{Entry}
use Rattle.pages.proofs.Edits.{map-wrote}
use Rattle.register.specs.Calls.{PutsIn, TakesOut}
use Rattle.register.specs.Images.{key_of, entry, entries_of, is_full, most_items, put_writes, take_writes}
use Rattle.register.specs.Registers.{IsRegister}
use Rattle.register.specs.Seats.{Seated}
use Rattle.register.specs.declared.seats.Seat.{Seat}
use Rattle.register.proofs.BySeat.{full-by-seat}
use Rattle.register.proofs.Stand.{put-stands, take-stands}

module _ {X : Type 0} (image : X → List ℕ) where
  pub still : (old after : List X) → length after ≡ length old → IsRegister (length old) (map image after) → IsRegister (length after) (map image after)
  still old after long r = subst (λ n. IsRegister n (map image after)) (sym long) r

  pub seated-at : (old looked : List X) (k : List ℕ) (s : Seat) → looked ≡ old → Seated (length looked) (map image looked) k s → Seated (length old) (map image old) k s
  seated-at old looked k s same h = subst (λ ps. Seated (length ps) (map image ps) k s) same h

module _ {X : Type 0} (image : X → List ℕ) (written : X → List ℕ → X) (holds : (x : X) (b : List ℕ) → image (written x b) ≡ b) (old after : List X) (register : IsRegister (length old) (map image old)) where
  pub put-done : (key : Key) (start size : ℕ) → start < 2 ^ 32 → size < 2 ^ 32 → look_up key_of before key.bytes (entries_of (map image old)) ≡ None
      → (s : Seat) → Seated (length old) (map image old) key.bytes s → (nat_lt (length s.leaf) 15 || nat_lt (length s.items) (most_items (length old))) ≡ true
      → after ≡ wrote written (put_writes (length old) (entry key.bytes start size) (map image old)) old → PutsIn image written (entry key.bytes start size) old (Ok tt) after
  put-done key start size from to fresh s h takes left =
      let e = entry key.bytes start size in
      let full = full-by-seat (length old) (map image old) key.bytes s h in
      let room : is_full (length old) (map image old) key.bytes ≡ false = grind (arith, nat_tests) in
      let images = ap (map image) left ∙ map-wrote image written holds (put_writes (length old) e (map image old)) old in
      let stands = put-stands (length old) e (map image old) register (byte-key-long key.bytes key.stored, from, to) key.stored fresh room in
      (room, left, subst (IsRegister (length old)) (sym images) stands.0, ap entries_of images ∙ stands.1)

  pub take-done : (k : List ℕ) (e : Entry) → length k ≡ 22 → look_up key_of before k (entries_of (map image old)) ≡ Some e
      → after ≡ wrote written (take_writes k (map image old)) old → TakesOut image written k old (Some e) after
  take-done k e long there left =
      let images = ap (map image) left ∙ map-wrote image written holds (take_writes k (map image old)) old in
      let stands = take-stands (length old) k e (map image old) register long there in
      (there, left, subst (IsRegister (length old)) (sym images) stands.0, ap entries_of images ∙ stands.1)
