-- What the rules of a disk say of the disk as a function.
--     put-set         a list with one sector set is the disk after a write of it
--     wear            an unreadable sector set is lost, and no other
--     struck-cut      what the cut rule allows is what a write leaves in whose course the power fails
use Rattle.std.proofs.Common.{◌≡◌, ℕ, ◌+◌, ◌-◌, ◌<◌, ◌≤◌, ◌≢◌, ◌⊎◌, List, length, get_or, set, sym, ap, ◌∙◌, subst, inl, inr, ⊎_elim, arith}
use Rattle.std.proofs.lemmas.Bool.{cases_eq, cases_lt}
use Rattle.std.proofs.lemmas.List.{get_or-set_same, get_or-set_other, set_past}
use Rattle.disk.specs.Rules.{Cut, cut-before, cut-new, cut-own, cut-below, cut-above}
use Rattle.disk.specs.Sectors.{Sector, holds, unreadable}
use Rattle.thirds.specs.Words.{on}
use Rattle.thirds.specs.Cuts.{Put, Struck, Worn, struck-pair, struck-whole}

pub put-set : (l : List Sector) (s : ℕ) (v : List ℕ) → s < length l → Put s v (on l) (on (set l s (holds v)))
put-set l s v h = record { here = get_or-set_same l s (holds v) unreadable h; away = λ u ne. get_or-set_other l s u (holds v) unreadable ne }

pub wear : (l : List Sector) (s u : ℕ) → (on (set l s unreadable) u ≡ on l u) ⊎ ((on (set l s unreadable) u ≡ unreadable) × (u ≡ s))
wear l s u =
    ⊎_elim
    (λ (e : u ≡ s). ⊎_elim
    (λ (h : s < length l). inr (rw e (get_or-set_same l s unreadable unreadable h), e))
    (λ (h : length l ≤ s). inl (ap (λ x. get_or x u unreadable) (set_past l s unreadable h)))
    (cases_lt s (length l)))
    (λ (ne : u ≢ s). inl (get_or-set_other l s u unreadable unreadable ne))
    (cases_eq u s)

wear-two : (l : List Sector) (s q t u : ℕ) → t ≤ s → s ≤ t + 1 → t ≤ q → q ≤ t + 1
    → (on (set (set l s unreadable) q unreadable) u ≡ on l u) ⊎ ((on (set (set l s unreadable) q unreadable) u ≡ unreadable) × (t ≤ u) × (u ≤ t + 1))
wear-two l s q t u a b c d =
    elim (wear (set l s unreadable) q u) [
      | inr h ↦ inr (h.0, omega (arith, h.1), omega (arith, h.1))
      | inl e ↦ elim (wear l s u) [
        | inr h ↦ inr (e ∙ h.0, omega (arith, h.1), omega (arith, h.1))
        | inl f ↦ inl (e ∙ f)
      ]
    ]

pub struck-cut : (s : ℕ) (v : List ℕ) (d e : List Sector) → s < length d → Cut s v d e → Struck s v (on d) (on e)
struck-cut s v d e h (cut-before q) = struck-pair s (omega arith) (omega arith) (λ u. inl (ap (λ x. on x u) q))
struck-cut s v d e h (cut-new q) = struck-whole (subst (λ (x : List Sector). Put s v (on d) (on x)) (sym q) (put-set d s v h))
struck-cut s v d e h (cut-own q) =
    struck-pair s (omega arith) (omega arith) (subst (λ (x : List Sector). Worn s (on d) (on x)) (sym q)
    (λ u. elim (wear d s u) [ inl f ↦ inl f | inr g ↦ inr (g.0, omega (arith, g.1), omega (arith, g.1)) ]))
struck-cut s v d e h (cut-below q) =
    struck-pair (s - 1) (omega arith) (omega arith) (subst (λ (x : List Sector). Worn (s - 1) (on d) (on x)) (sym q)
    (λ u. wear-two d s (s - 1) (s - 1) u (omega arith) (omega arith) (omega arith) (omega arith)))
struck-cut s v d e h (cut-above q) =
    struck-pair s (omega arith) (omega arith) (subst (λ (x : List Sector). Worn s (on d) (on x)) (sym q)
    (λ u. wear-two d s (s + 1) s u (omega arith) (omega arith) (omega arith) (omega arith)))
