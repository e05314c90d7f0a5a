-- What the test of a root says.
--     same-decided, at_most-decided, itself-decided, not-decided       what the test of two lists, of two numbers, and any test and its turn decide
--     root-decided     it decides whether the root is right
use Rattle.std.proofs.Common.{◌≡◌, ℕ, ◌-◌, ◌<◌, ◌≤◌, Bool, true, false, not, eqb, ltb, leb, List, [], ◌∷◌, length, refl, arith}
use Rattle.std.specs.Bool.{Decides}
use Rattle.std.specs.List.{list_all, AllByRecursion}
use Rattle.std.specs.Cmp.Lexicographic.{pointwise}
use Rattle.std.proofs.ByRecursion.{Decides-by_and}
use Rattle.std.proofs.lemmas.Bool.{not-true, not_from_false, leb-true, le-leb}
use Rattle.std.proofs.lemmas.Bool.Decides.{Decides-eqb, Decides-ltb, Decides-and, Decides-like}
use Rattle.std.proofs.lemmas.Slice.Eq.{slice_eq-Decides}
use Rattle.names.specs.Names.{is_byte_key}
use Rattle.tree.specs.Tree.{has, Apart}
use Rattle.pages.specs.declared.records.Item.{Item}
use Rattle.register.specs.Images.{zero_key, root_page, pages_of}
use Rattle.register.specs.Registers.{Separators}
use Rattle.register_check.specs.Roots.{separator_of, RootRight, differ, zeros_first, keys_behind, leaf_page_of, root_right}
use Rattle.register_check.proofs.Risings.{rising-decided}

pub same-decided : (xs ys : List ℕ) → Decides (pointwise eqb xs ys) (xs ≡ ys)
same-decided xs ys = slice_eq-Decides Decides-eqb xs ys (pointwise eqb xs ys) refl

pub at_most-decided : (m n : ℕ) → Decides (leb m n) (m ≤ n)
at_most-decided m n = (leb-true m n, le-leb m n)

pub itself-decided : (b : Bool) → Decides b (b ≡ true)
itself-decided b = ((λ e. e), (λ e. e))

pub not-decided : (b : Bool) → Decides (not b) (b ≡ false)
not-decided b = (not-true b, not_from_false b)

differ-decided : (ps : List ℕ) → Decides (differ ps) (Apart ps)
differ-decided [] = ((λ e. tt), (λ a. refl))
differ-decided (p ∷ ps) = Decides-and (not (has p ps)) (differ ps) (not-decided (has p ps)) (differ-decided ps)

-- there are items, and their separators are good
abbrev Begun : List Item → Type 0
Begun items = (1 ≤ length items) × Separators items

keys-decided : (items : List Item) → Decides (list_all (λ i. is_byte_key i.separator) items) (AllByRecursion (λ i. is_byte_key i.separator ≡ true) items)
keys-decided items = Decides-by_and (λ i. is_byte_key i.separator) (λ i. is_byte_key i.separator ≡ true) (list_all (λ i. is_byte_key i.separator)) (λ i. itself-decided (is_byte_key i.separator)) refl (λ _ _. refl) items

begun-parts : (items : List Item) → zeros_first items ≡ true → keys_behind items ≡ true → Begun items
begun-parts [] z k = grind arith
begun-parts (i ∷ is) z k = (omega arith, ((same-decided i.separator zero_key).0 z, (keys-decided is).0 k))

begun-from : (items : List Item) → Begun items → (zeros_first items ≡ true) × (keys_behind items ≡ true)
begun-from [] b = absurd (omega arith)
begun-from (i ∷ is) b = ((same-decided i.separator zero_key).1 b.1.0, (keys-decided is).1 b.1.1)

range-decided : (P : ℕ) (items : List Item) → Decides (list_all (leaf_page_of P) items) (AllByRecursion (λ i. (1 ≤ i.page) × (i.page < P)) items)
range-decided P items =
    Decides-by_and (leaf_page_of P) (λ i. (1 ≤ i.page) × (i.page < P)) (list_all (leaf_page_of P))
    (λ i. Decides-and (leb 1 i.page) (ltb i.page P) (at_most-decided 1 i.page) (Decides-ltb i.page P)) refl (λ _ _. refl) items

pub root-decided : (P : ℕ) (page : List ℕ) (items : List Item) → Decides (root_right P page items) (RootRight P page items)
root-decided P page items =
    let tests =
    Decides-and _ _
    (Decides-and _ _
    (Decides-and _ _ (Decides-and _ _ (Decides-and _ _ (same-decided page (root_page items)) (itself-decided (zeros_first items))) (itself-decided (keys_behind items))) (at_most-decided (length items) (P - 1)))
    (rising-decided separator_of items))
    (Decides-and _ _ (differ-decided (pages_of items)) (range-decided P items)) in
    Decides-like (root_right P page items)
    (λ t. (let b = begun-parts items t.0.0.0.0.1 t.0.0.0.1 in record { form = t.0.0.0.0.0; some = b.0; few = t.0.0.1; separators = b.1; rises = t.0.1; apart = t.1.0; range = t.1.1 }))
    (λ r. (let b = begun-from items (r.some, r.separators) in (((((r.form, b.0), b.1), r.few), r.rises), (r.apart, r.range))))
    tests
