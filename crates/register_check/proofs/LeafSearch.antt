-- What the search for the first leaf that is not right says.
--     LeavesRight          the leaf of each item is right
--     none-right, right-none       the search finds none exactly if they are
--     at-each              the leaf of the item at a place, if they are
--     FirstWrong           the leaf at a place is the first that is not right
--     search-found         what it finds
use Rattle.std.proofs.Common.{◌≡◌, ℕ, zero, suc, ◌<◌, Bool, true, false, cond, List, [], ◌∷◌, length, Some, None, Option, refl, ap, sym, ◌∙◌, arith}
use Rattle.std.proofs.lemmas.Bool.{cases_Bool}
use Rattle.std.proofs.lemmas.Bool.Decides.{not_from_Decides}
use Rattle.pages.specs.declared.records.Item.{Item}
use Rattle.register.specs.Images.{page_at, leaf_of}
use Rattle.register_check.specs.Leaves.{limits, LeafRight, leaf_right, next_separator, page_of_item, LeafAt}
use Rattle.register_check.specs.Faults.{first_leaf}
use Rattle.register_check.proofs.LeafRules.{leaf-decided}

module _ (first sectors : ℕ) (single : Bool) (images : List (List ℕ)) where
  abbrev FirstRight : Item → List Item → Type 0
  FirstRight i is = LeafRight (limits i.separator (next_separator is) first sectors) single (page_at images i.page) (leaf_of images i.page)

  abbrev first_right : Item → List Item → Bool
  first_right i is = leaf_right (limits i.separator (next_separator is) first sectors) single (page_at images i.page) (leaf_of images i.page)

  abbrev search : List Item → Option ℕ
  search items = first_leaf first sectors single images items

  abbrev pub LeavesRight : List Item → Type 0
  LeavesRight [] = Unit {0}
  LeavesRight (i ∷ is) = FirstRight i is × LeavesRight is

  decided : (i : Item) (is : List Item) → (first_right i is ≡ true → FirstRight i is) × (FirstRight i is → first_right i is ≡ true)
  decided i is = leaf-decided (limits i.separator (next_separator is) first sectors) single (page_at images i.page) (leaf_of images i.page)

  pub none-right : (items : List Item) → search items ≡ None → LeavesRight items
  none-right [] e = tt
  none-right (i ∷ is) e =
      let r = first_right i is in
      let h : r ≡ true = grind (arith, cases_Bool r) in
      let f : search is ≡ None = grind (arith, cases_Bool r) in
      ((decided i is).0 h, none-right is f)

  pub right-none : (items : List Item) → LeavesRight items → search items ≡ None
  right-none [] r = refl
  right-none (i ∷ is) r = ap (λ b. cond b (search is) (Some i.page)) ((decided i is).1 r.0) ∙ right-none is r.1

  pub at-each : (items : List Item) → LeavesRight items → (k : ℕ) → k < length items → LeafAt first sectors single images items k
  at-each [] r k l = absurd (omega arith)
  at-each (i ∷ is) r zero l = r.0
  at-each (i ∷ is) r (suc k) l = at-each is r.1 k (omega arith)

  pub record FirstWrong (items : List Item) (p : ℕ) : Type 0 where
    pub place : ℕ
    pub inside : place < length items
    pub page : p ≡ page_of_item items place
    pub before : (j : ℕ) → j < place → LeafAt first sectors single images items j
    pub wrong : LeafAt first sectors single images items place → ⊥

  one-on : (i : Item) (is : List Item) (p : ℕ) → FirstRight i is → FirstWrong is p → FirstWrong (i ∷ is) p
  one-on i is p r w = record { place = suc w.place; inside = omega (arith, w.inside); page = w.page; before = behind; wrong = w.wrong }
    where
      behind : (j : ℕ) → j < suc w.place → LeafAt first sectors single images (i ∷ is) j
      behind zero l = r
      behind (suc j) l = w.before j (omega arith)

  pub search-found : (items : List Item) (p : ℕ) → search items ≡ Some p → FirstWrong items p
  search-found [] p e = cc
  search-found (i ∷ is) p e =
      elim (first_right i is) as (λ b. first_right i is ≡ b → cond b (search is) (Some i.page) ≡ Some p → FirstWrong (i ∷ is) p) [
        | true ↦ λ h s. one-on i is p ((decided i is).0 h) (search-found is p s)
        | false ↦ λ h s. record { place = 0; inside = omega arith; page = (let q : i.page ≡ p = cc in sym q); before = λ j l. absurd (omega arith); wrong = not_from_Decides (first_right i is) (decided i is) h }
      ]
      refl
      e
