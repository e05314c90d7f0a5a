-- What the first fault means.
--     verdict      none exactly if the rules are kept, and a page only if it breaks one
use Rattle.std.proofs.Common.{◌≡◌, ℕ, ◌^◌, ◌<◌, ◌≤◌, Bool, true, false, cond, eqb, ◌⊎◌, inl, inr, List, length, Some, None, Option, sym, refl, arith}
use Rattle.std.specs.Bool.{Decides}
use Rattle.std.proofs.lemmas.Bool.Decides.{not_from_Decides}
use Rattle.rows.specs.Lists.{or_else}
use Rattle.pages.specs.declared.records.Item.{Item}
use Rattle.register.specs.Images.{page_at, items_of, entries_of}
use Rattle.register_check.specs.Roots.{root_right}
use Rattle.register_check.specs.Extents.{Apart, apart}
use Rattle.register_check.specs.Faults.{first_leaf, extents_of, fault, Kept, IsRootRight, Breaks, root-wrong, leaf-wrong, extents-meet, Verdict}
use Rattle.register_check.proofs.RootRules.{root-decided}
use Rattle.register_check.proofs.ExtentRules.{apart-decided}
use Rattle.register_check.proofs.LeafSearch.{none-right, right-none, at-each, search-found}
use Rattle.register_check.proofs.Registers.{kept-from, right-from}

-- the first fault by its three tests
abbrev by_tests : Bool → Option ℕ → Bool → Option ℕ
by_tests r l a = cond r (or_else l (cond a None (Some 0))) (Some 0)

none-parts : (r : Bool) (l : Option ℕ) (a : Bool) → by_tests r l a ≡ None → (r ≡ true) × (l ≡ None) × (a ≡ true)
none-parts true None true e = (refl, refl, refl)
none-parts r l a e = cc

none-from : (r : Bool) (l : Option ℕ) (a : Bool) → r ≡ true → l ≡ None → a ≡ true → by_tests r l a ≡ None
none-from r l a e f g = grind arith

abbrev Wrong : Bool → Option ℕ → Bool → ℕ → Type 0
Wrong r l a p = ((p ≡ 0) × (r ≡ false)) ⊎ (((r ≡ true) × (l ≡ Some p)) ⊎ ((p ≡ 0) × (r ≡ true) × (l ≡ None) × (a ≡ false)))

some-parts : (r : Bool) (l : Option ℕ) (a : Bool) (p : ℕ) → by_tests r l a ≡ Some p → Wrong r l a p
some-parts true None true p e = cc
some-parts true None false p e = inr (inr ((let h : 0 ≡ p = cc in sym h), refl, refl, refl))
some-parts true (Some q) a p e = inr (inl (refl, e))
some-parts false l a p e = inl ((let h : 0 ≡ p = cc in sym h), refl)

module _ (first sectors P : ℕ) (images : List (List ℕ)) where
  abbrev items : List Item
  items = items_of images

  abbrev single : Bool
  single = eqb (length items) 1

  abbrev root : Bool
  root = root_right P (page_at images 0) items

  abbrev leaf : Option ℕ
  leaf = first_leaf first sectors single images items

  abbrev separate : Bool
  separate = apart (extents_of images)

  root-rule : Decides root (IsRootRight P images)
  root-rule = root-decided P (page_at images 0) items

  extents-rule : Decides separate (Apart (extents_of images))
  extents-rule = apart-decided (entries_of images)

  kept : 2 ≤ P → P ≤ 21 → length images ≡ P → sectors < 2 ^ 32 → by_tests root leaf separate ≡ None → Kept first sectors P images
  kept two most long small e =
      let t = none-parts root leaf separate e in
      kept-from first sectors P images two most long small (record { root = root-rule.0 t.0; leaves = none-right first sectors single images items t.1; apart = extents-rule.0 t.2 })

  none : Kept first sectors P images → by_tests root leaf separate ≡ None
  none k = let r = right-from first sectors P images k in none-from root leaf separate (root-rule.1 r.root) (right-none first sectors single images items r.leaves) (extents-rule.1 r.apart)

  broken : (p : ℕ) → Wrong root leaf separate p → Breaks first sectors P images p
  broken p w =
      elim w [
        | inl h ↦ root-wrong h.0 (not_from_Decides root root-rule h.1)
        | inr o ↦ elim o [
          | inl h ↦ (let f = search-found first sectors single images items p h.1 in leaf-wrong (root-rule.0 h.0) f.place f.inside f.page f.before f.wrong)
          | inr h ↦ extents-meet h.0 (root-rule.0 h.1) (at-each first sectors single images items (none-right first sectors single images items h.2)) (not_from_Decides separate extents-rule h.3)
        ]
      ]

  pub verdict : 2 ≤ P → P ≤ 21 → length images ≡ P → sectors < 2 ^ 32 → Verdict first sectors P images (fault first sectors P images)
  unfolding fault
  verdict two most long small = record { none = (kept two most long small, none); some = λ p s. broken p (some-parts root leaf separate p s) }
