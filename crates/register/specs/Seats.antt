-- Where a key belongs on the pages.
--     Seated       a seat tells of the root's items, the item that the key belongs to, and its leaf, of at most 21 pages
use Rattle.std.specs.Prelude.{◌≡◌, ℕ, ◌<◌, ◌≤◌, List, map, length, slice_index_or}
use Rattle.names.specs.Orders.{before}
use Rattle.rows.specs.Lists.{up_to}
use Rattle.register.specs.Images.{items_of, leaf_of, key_of, seat, no_item}
use Rattle.register.specs.declared.seats.Seat.{Seat}

pub record Seated (P : ℕ) (images : List (List ℕ)) (k : List ℕ) (s : Seat) : Type 0 where
  pub items : s.items ≡ items_of images
  pub at : s.at ≡ seat (items_of images) k
  pub page : s.page ≡ (slice_index_or (items_of images) s.at no_item).page
  pub from : 1 ≤ s.page
  pub to : s.page < P
  pub small : P ≤ 21
  pub leaf : s.leaf ≡ leaf_of images s.page
  pub most : length s.leaf ≤ 15
  pub place : s.place ≡ up_to before k (map key_of (leaf_of images s.page))
  pub inside : s.place ≤ length s.leaf
