-- A register is what a right root and right leaves make.
--     Right            the root and the leaves are right, and extents are apart
--     kept-from        pages that are right are a register whose files are in place and apart
--     right-from       and the other way round
use Rattle.std.proofs.Common.{◌≡◌, ℕ, ◌^◌, ◌<◌, ◌≤◌, Bool, true, false, eqb, List, [], ◌∷◌, map, length, Some, None, Option, sym, ap, subst, inl, inr, arith}
use Rattle.std.specs.List.{AllByRecursion}
use Rattle.std.proofs.ByRecursion.{All-weaker, All-map}
use Rattle.std.proofs.lemmas.List.{length-map}
use Rattle.std.proofs.lemmas.Simd.{map-map}
use Rattle.std.proofs.lemmas.Bool.{both_ways, cases_Bool}
use Rattle.std.proofs.lemmas.Bool.Decides.{nat_tests}
use Rattle.names.specs.Names.{is_byte_key}
use Rattle.names.specs.Orders.{before}
use Rattle.names.proofs.Stored.{byte-key-long}
use Rattle.tree.specs.Tree.{pages, bound, Shape, Apart}
use Rattle.pages.specs.Records.{item_of, entry_of, EntryFit}
use Rattle.pages.specs.declared.records.Item.{Item}
use Rattle.pages.specs.declared.records.Entry.{Entry}
use Rattle.pages.proofs.Fits.{records-few}
use Rattle.register.specs.Images.{zero_key, key_of, page_at, items_of, leaf_of, node_of, tree_of, entries_of, leaf_page, pages_of}
use Rattle.register.specs.Registers.{Separators, IsRegister}
use Rattle.register_check.specs.Extents.{InPlace}
use Rattle.register_check.specs.Extents.{Apart as ExtentsApart}
use Rattle.register_check.specs.Leaves.{limits, EntryRight, LeafRight}
use Rattle.register_check.specs.Faults.{extents_of, Kept, IsRootRight}
use Rattle.register.proofs.Trees.{items-fit, all-entries}
use Rattle.register_check.proofs.LeafSearch.{LeavesRight}
use Rattle.register_check.proofs.Joined.{all-joined, all-mapped}
use Rattle.register_check.proofs.TreeRules.{fine-from, rises-from, leaves-from}

every : {X : Type 0} (Q : X → Type 0) (xs : List X) → ((x : X) → Q x) → AllByRecursion Q xs
every Q [] h = tt
every Q (x ∷ xs) h = (h x, every Q xs h)

module _ (images : List (List ℕ)) where
  pages-same : (items : List Item) → pages (map (node_of images) items) ≡ pages_of items
  pages-same items = map-map (λ n. n.page) (node_of images) items

  begins-from : (items : List Item) → 1 ≤ length items → Separators items → bound key_of before (map (node_of images) items) None ≡ Some zero_key
  begins-from [] l s = absurd (omega arith)
  begins-from (i ∷ is) l s = ap Some s.0

  some-from : (items : List Item) → bound key_of before (map (node_of images) items) None ≡ Some zero_key → 1 ≤ length items
  some-from [] e = cc
  some-from (i ∷ is) e = omega arith

module _ (first sectors : ℕ) (single : Bool) (images : List (List ℕ)) (Q : Item → Type 0) where
  each-leaf : ((i : Item) (next : Option (List ℕ)) → LeafRight (limits i.separator next first sectors) single (page_at images i.page) (leaf_of images i.page) → Q i)
      → (items : List Item) → LeavesRight first sectors single images items → AllByRecursion Q items
  each-leaf h [] r = tt
  each-leaf h (i ∷ is) r = (h i _ r.0, each-leaf h is r.1)

module _ (first sectors P : ℕ) (images : List (List ℕ)) where
  abbrev items : List Item
  items = items_of images

  abbrev single : Bool
  single = eqb (length items) 1

  pub record Right : Type 0 where
    pub root : IsRootRight P images
    pub leaves : LeavesRight first sectors single images items
    pub apart : ExtentsApart (extents_of images)

  abbrev all-leaves : (Q : Item → Type 0) → ((i : Item) (next : Option (List ℕ)) → LeafRight (limits i.separator next first sectors) single (page_at images i.page) (leaf_of images i.page) → Q i) → Right → AllByRecursion Q items
  all-leaves Q h r = each-leaf first sectors single images Q h items r.leaves

  each-entry : (Q : Entry → Type 0) → ((k : List ℕ) (next : Option (List ℕ)) (e : Entry) → EntryRight (limits k next first sectors) e → Q e) → Right → AllByRecursion Q (entries_of images)
  each-entry Q h r =
      all-joined Q (tree_of images)
      (All-map (λ n. AllByRecursion Q n.entries) (node_of images) items (all-leaves (λ i. AllByRecursion Q (leaf_of images i.page)) (λ i next q. All-weaker (EntryRight (limits i.separator next first sectors)) Q (h i.separator next) (leaf_of images i.page) q.entries) r))

  tree-long : length (tree_of images) ≡ length items
  tree-long = length-map items (node_of images)

  shape-from : Right → Shape key_of before zero_key P (tree_of images)
  shape-from r = record {
    begins = begins-from images items r.root.some r.root.separators;
    few = omega (arith, r.root.few, tree-long, records-few item_of 24 20 (page_at images 0));
    fine = fine-from first sectors single images items r.leaves r.root.rises;
    sizes = All-map (λ n. length n.entries ≤ 15) (node_of images) items (every (λ i. length (leaf_of images i.page) ≤ 15) items (λ i. records-few entry_of 32 15 (page_at images i.page)));
    filled = λ l. All-map (λ n. 0 < length n.entries) (node_of images) items (all-leaves (λ i. 0 < length (leaf_of images i.page)) (λ i next q. q.filled (let m = tree-long in grind (arith, nat_tests))) r);
    apart = subst Apart (sym (pages-same images items)) r.root.apart;
    range = All-map (λ n. (1 ≤ n.page) × (n.page < P)) (node_of images) items r.root.range;
  }

  pub kept-from : 2 ≤ P → P ≤ 21 → length images ≡ P → sectors < 2 ^ 32 → Right → Kept first sectors P images
  kept-from two most long small r = (
    record {
      least = two;
      most = most;
      all = long;
      shape = shape-from r;
      root = r.root.form;
      leaves = All-map (λ n. page_at images n.page ≡ leaf_page n.entries) (node_of images) items (all-leaves (λ i. page_at images i.page ≡ leaf_page (leaf_of images i.page)) (λ i next q. q.form) r);
      separators = r.root.separators;
      keys = each-entry (λ e. is_byte_key e.key ≡ true) (λ k next e q. q.key) r;
      items_fit = items-fit P items most r.root.separators r.root.range;
      entries_fit = each-entry EntryFit (λ k next e q. (byte-key-long e.key q.key, omega (arith, q.placed.ends), omega (arith, q.placed.length))) r;
    },
    each-entry (InPlace first sectors) (λ k next e q. q.placed) r,
    r.apart,
  )

  abbrev held : (P : Entry → Type 0) → AllByRecursion P (entries_of images) → AllByRecursion (λ (i : Item). AllByRecursion P (leaf_of images i.page)) items
  held P a = all-mapped (λ n. AllByRecursion P n.entries) (node_of images) items (all-entries P (tree_of images) a)

  filled-from : IsRegister P images → AllByRecursion (λ (i : Item). single ≡ false → 0 < length (leaf_of images i.page)) items
  filled-from k =
      elim (cases_Bool single) [
        | inl e ↦ every (λ (i : Item). single ≡ false → 0 < length (leaf_of images i.page)) items (λ i f. absurd (both_ways single f e))
        | inr e ↦ (let some = some-from images items k.shape.begins in
            let many : 1 < length (tree_of images) = (let m = tree-long in grind (arith, nat_tests)) in
            All-weaker (λ (i : Item). 0 < length (leaf_of images i.page)) (λ i. single ≡ false → 0 < length (leaf_of images i.page)) (λ i h f. h) items (all-mapped (λ n. 0 < length n.entries) (node_of images) items (k.shape.filled many)))
      ]

  pub right-from : Kept first sectors P images → Right
  right-from kept =
      let k = kept.0 in
      record {
        root = record {
          form = k.root;
          some = some-from images items k.shape.begins;
          few = omega (arith, k.shape.few, tree-long);
          separators = k.separators;
          rises = rises-from images items k.shape.fine;
          apart = subst Apart (pages-same images items) k.shape.apart;
          range = all-mapped (λ n. (1 ≤ n.page) × (n.page < P)) (node_of images) items k.shape.range;
        };
        leaves = leaves-from first sectors single images items k.shape.fine (all-mapped (λ n. page_at images n.page ≡ leaf_page n.entries) (node_of images) items k.leaves) (filled-from k)
            (held (λ e. is_byte_key e.key ≡ true) k.keys) (held (InPlace first sectors) kept.1);
        apart = kept.2;
      }
