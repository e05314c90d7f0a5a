-- Writing a register anew where a key belongs.
--     known        the pages hold the tree in the parts that the key's home has, and that tree is good
--     within       the leaf's page is one of the pages
--     becomes      writes after which the pages hold a good tree of some entries leave a register of them
use Rattle.std.proofs.Common.{◌≡◌, ℕ, ◌<◌, true, List, ◌∷◌, ◌++◌, length, sym, ◌∙◌, subst, arith}
use Rattle.std.specs.List.{AllByRecursion}
use Rattle.names.specs.Names.{is_byte_key}
use Rattle.names.specs.Orders.{before}
use Rattle.tree.specs.Tree.{entries, Shape}
use Rattle.pages.specs.Records.{EntryFit}
use Rattle.pages.specs.Writes.{PageWrite, imaged}
use Rattle.pages.specs.declared.records.Entry.{Entry}
use Rattle.register.specs.Images.{zero_key, key_of, entries_of}
use Rattle.register.specs.Registers.{Separators, IsRegister}
use Rattle.register.proofs.Trees.{Tree, items_for, Held, Good, register-tree, register-after}
use Rattle.register.proofs.Homes.{Home}

module _ (P : ℕ) (k : List ℕ) (images : List (List ℕ)) (h : Home P images k) (r : IsRegister P images) where
  pub known : Held images (h.left ++ h.leaf ∷ h.right) × Good P (h.left ++ h.leaf ∷ h.right)
  known = subst (λ t. Held images t × Good P t) h.parts (register-tree P images r)

  pub within : h.leaf.page < length images
  within = omega (arith, h.to, r.all)

pub becomes : (P : ℕ) (images : List (List ℕ)) → IsRegister P images → (es : List Entry) → AllByRecursion (λ e. is_byte_key e.key ≡ true) es → AllByRecursion EntryFit es
    → (ws : List PageWrite) (t : Tree) → Held (imaged ws images) t → Separators (items_for t) → Shape key_of before zero_key P t × (entries t ≡ es)
    → IsRegister P (imaged ws images) × (entries_of (imaged ws images) ≡ es)
becomes P images r es keys fit ws t held separators (shape, same) =
    let s = register-after P ws images t r held record {
      shape = shape;
      separators = separators;
      keys = subst (AllByRecursion (λ e. is_byte_key e.key ≡ true)) (sym same) keys;
      fit = subst (AllByRecursion EntryFit) (sym same) fit;
    } in
    (s.0, s.1 ∙ same)
