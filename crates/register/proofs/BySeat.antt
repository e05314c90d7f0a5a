-- What a change writes, by the seat that the code finds.
--     home-is                  the page of a key's leaf
--     put-by-seat, take-by-seat    the writes of a put in and of a take out
--     full-by-seat             when the register is full for a key
--     put-leaf                 the pages after a leaf is written
--     take-root                the pages after a leaf is written and then the root
use Rattle.std.proofs.Common.{◌≡◌, ℕ, ◌-◌, cond, not, ◌&&◌, eqb, ltb, List, [], ◌∷◌, map, length, get_or, sym, ap, ◌∙◌}
use Rattle.names.specs.Orders.{before}
use Rattle.rows.specs.Lists.{up_to, put_at, without}
use Rattle.tree.specs.Tree.{lowest}
use Rattle.pages.specs.Writes.{edit, wrote}
use Rattle.pages.specs.declared.records.Item.{Item}
use Rattle.pages.specs.declared.records.Entry.{Entry}
use Rattle.register.specs.Images.{items_of, leaf_of, home, seat, no_item, key_of, with_entry, less_entry, pages_of, write, leaf_page, root_page, zero_first, split_writes, put_writes, take_writes, is_full, most_items}
use Rattle.register.specs.Seats.{Seated}
use Rattle.register.specs.declared.seats.Seat.{Seat}

module _ (P : ℕ) (images : List (List ℕ)) (k : List ℕ) (s : Seat) (h : Seated P images k s) where
  pub home-is : home images k ≡ s.page
  home-is = ap (λ i. (get_or (items_of images) i no_item).page) (sym h.at) ∙ sym h.page

  pub put-by-seat : (e : Entry) → k ≡ e.key → let es = put_at s.leaf s.place e in
      put_writes P e images ≡ cond (ltb (length s.leaf) 15) (write s.page (leaf_page es) ∷ []) (split_writes s.at s.page (lowest (P - 1) 1 (pages_of s.items)) s.items es)
  unfolding put_writes
  put-by-seat e kk =
      let by = λ (is : List Item) (i p n : ℕ) (es : List Entry). cond (ltb n 15) (write p (leaf_page es) ∷ []) (split_writes i p (lowest (P - 1) 1 (pages_of is)) is es) in
      let is = items_of images in
      let at = λ (i p : ℕ). by is i p (length (leaf_of images p)) (with_entry (leaf_of images p) e) in
      ap (λ k. at (seat is k) (home images k)) (sym kk) ∙ ap (λ i. at i (home images k)) (sym h.at) ∙ ap (at s.at) home-is
      ∙ ap (λ j. by is s.at s.page (length (leaf_of images s.page)) (put_at (leaf_of images s.page) j e)) (ap (λ k. up_to before k (map key_of (leaf_of images s.page))) (sym kk) ∙ sym h.place)
      ∙ ap (λ es. by is s.at s.page (length es) (put_at es s.place e)) (sym h.leaf) ∙ ap (λ is. by is s.at s.page (length s.leaf) (put_at s.leaf s.place e)) (sym h.items)

  pub take-by-seat : let es = without s.leaf (s.place - 1) in
      take_writes k images ≡ cond (ltb 1 (length s.items) && eqb (length es) 0) (write s.page (leaf_page es) ∷ write 0 (root_page (zero_first (without s.items s.at))) ∷ []) (write s.page (leaf_page es) ∷ [])
  unfolding take_writes
  take-by-seat =
      let by = λ (is : List Item) (i p : ℕ) (es : List Entry). cond (ltb 1 (length is) && eqb (length es) 0) (write p (leaf_page es) ∷ write 0 (root_page (zero_first (without is i))) ∷ []) (write p (leaf_page es) ∷ []) in
      let is = items_of images in
      let at = λ (i p : ℕ). by is i p (less_entry (leaf_of images p) k) in
      ap (λ i. at i (home images k)) (sym h.at) ∙ ap (at s.at) home-is ∙ ap (λ j. by is s.at s.page (without (leaf_of images s.page) (j - 1))) (sym h.place)
      ∙ ap (λ es. by is s.at s.page (without es (s.place - 1))) (sym h.leaf) ∙ ap (λ is. by is s.at s.page (without s.leaf (s.place - 1))) (sym h.items)

  pub full-by-seat : is_full P images k ≡ (not (ltb (length s.leaf) 15) && not (ltb (length s.items) (most_items P)))
  full-by-seat =
      ap (λ p. not (ltb (length (leaf_of images p)) 15) && not (ltb (length (items_of images)) (most_items P))) home-is
      ∙ ap (λ n. not (ltb n 15) && not (ltb (length (items_of images)) (most_items P))) (ap length (sym h.leaf))
      ∙ ap (λ n. not (ltb (length s.leaf) 15) && not (ltb n (most_items P))) (ap length (sym h.items))

module _ {X : Type 0} (written : X → List ℕ → X) (pages : List X) where
  pub put-leaf : (one : List X) (p : ℕ) (es fs : List Entry) → one ≡ edit (λ x. written x (leaf_page es)) p pages → es ≡ fs → one ≡ wrote written (write p (leaf_page fs) ∷ []) pages
  unfolding wrote
  put-leaf one p es fs w e = w ∙ ap (λ l. edit (λ x. written x (leaf_page l)) p pages) e

  pub take-root : (one two : List X) (p : ℕ) (es fs : List Entry) (is js : List Item) → one ≡ edit (λ x. written x (leaf_page es)) p pages → es ≡ fs → two ≡ edit (λ x. written x (root_page is)) 0 one → is ≡ js
      → two ≡ wrote written (write p (leaf_page fs) ∷ write 0 (root_page js) ∷ []) pages
  unfolding wrote
  take-root one two p es fs is js w e v f =
      v ∙ ap (λ l. edit (λ x. written x (root_page l)) 0 one) f ∙ ap (edit (λ x. written x (root_page js)) 0) (w ∙ ap (λ l. edit (λ x. written x (leaf_page l)) p pages) e)
