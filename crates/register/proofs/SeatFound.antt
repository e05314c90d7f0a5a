-- The seat of a key, as it is found among the items that were read from the root.
--     SeatFound        what the number of separators that are not above the key tells: the item of the key's home
--     seat-found       that number tells it
use Rattle.std.proofs.Common.{◌≡◌, ℕ, ◌-◌, ◌<◌, ◌≤◌, List, map, length, get_or, ap, ◌∙◌, arith}
use Rattle.names.specs.Orders.{before}
use Rattle.rows.specs.Lists.{up_to}
use Rattle.pages.specs.declared.records.Item.{Item}
use Rattle.register.specs.Images.{items_of, seat, no_item}
use Rattle.register.specs.Registers.{IsRegister}
use Rattle.register.proofs.Homes.{Home, home-known}

pub record SeatFound (P : ℕ) (images : List (List ℕ)) (k : List ℕ) (is : List Item) (u : ℕ) : Type 0 where
  pub home : Home P images k
  pub some : 1 ≤ u
  pub at : u - 1 ≡ seat (items_of images) k
  pub within : u - 1 < length is
  pub page : (get_or is (u - 1) no_item).page ≡ (get_or (items_of images) (u - 1) no_item).page
  pub leaf : (get_or is (u - 1) no_item).page ≡ home.leaf.page

pub seat-found : {P : ℕ} {images : List (List ℕ)} {k : List ℕ} {is : List Item} {u : ℕ} → IsRegister P images → length k ≡ 22 → is ≡ items_of images
    → u ≡ up_to before k (map (λ i. i.separator) is) → SeatFound P images k is u
seat-found {P} {images} {k} {is} {u} r long held up =
    let h = home-known P images k r long in
    let e : u ≡ up_to before k (map (λ i. i.separator) (items_of images)) = up ∙ ap (λ is. up_to before k (map (λ i. i.separator) is)) held in
    let at : u - 1 ≡ seat (items_of images) k = ap (λ x. x - 1) e in
    let page : (get_or is (u - 1) no_item).page ≡ (get_or (items_of images) (u - 1) no_item).page = ap (λ is. (get_or is (u - 1) no_item).page) held in
    record {
      home = h;
      some = omega (arith, h.some, e);
      at = at;
      within = omega (arith, h.within, at, ap length held);
      page = page;
      leaf = page ∙ ap (λ j. (get_or (items_of images) j no_item).page) at ∙ h.page;
    }
