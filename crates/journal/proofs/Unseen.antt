-- Each sector lies inside, or cannot be read among the sectors that a volume uses below its data.
--     unseen           what is never written and what is above cannot be read there
--     inside-or        any other lies inside
use Rattle.std.proofs.Common.{◌≡◌, ℕ, ◌+◌, ◌≤◌, ◌⊎◌, List, [], ◌∷◌, length, take, set, ◌∙◌, inl, inr, arith}
use Rattle.std.proofs.Math.ListN.{get_or-eq_default}
use Rattle.std.proofs.lemmas.Bool.{cases_eq, cases_lt}
use Rattle.std.proofs.lemmas.Grind.{get_or-set_at}
use Rattle.std.proofs.lemmas.List.{get_or-set_other, length-set, length-take}
use Rattle.disk.specs.Sectors.{Sector, unreadable}
use Rattle.geometry.specs.Places.{data_start, first_homes, second_homes}
use Rattle.thirds.specs.Disks.{Inside, hide, system, unused}
use Rattle.thirds.specs.Words.{on}

abbrev Listed : ℕ → List ℕ → Type 0
Listed u [] = ⊥
Listed u (v ∷ us) = (u ≡ v) ⊎ Listed u us

lost-here : (l : List Sector) (u v : ℕ) → u ≡ v → on (set l v unreadable) u ≡ unreadable
lost-here l u v e = elim (cases_lt v (length l)) [
  | inl within ↦ get_or-set_at l v u unreadable unreadable e within
  | inr beyond ↦ get_or-eq_default (set l v unreadable) unreadable (omega (arith, length-set l v unreadable))
]

lost-still : (l : List Sector) (u v : ℕ) → on l u ≡ unreadable → on (set l v unreadable) u ≡ unreadable
lost-still l u v e = elim (cases_eq u v) [ inl q ↦ lost-here l u v q | inr n ↦ get_or-set_other l v u unreadable unreadable n ∙ e ]

hide-keeps : (us : List ℕ) (l : List Sector) (u : ℕ) → on l u ≡ unreadable → on (hide us l) u ≡ unreadable
hide-keeps [] l u e = e
hide-keeps (v ∷ us) l u e = hide-keeps us (set l v unreadable) u (lost-still l u v e)

hide-listed : (us : List ℕ) (l : List Sector) (u : ℕ) → Listed u us → on (hide us l) u ≡ unreadable
hide-listed [] l u m = absurd m
hide-listed (v ∷ us) l u (inl e) = hide-keeps us (set l v unreadable) u (lost-here l u v e)
hide-listed (v ∷ us) l u (inr m) = hide-listed us (set l v unreadable) u m

pub unseen : (P T u : ℕ) (l : List Sector) → Listed u (unused P T) ⊎ (data_start P T ≤ u) → system P T l u ≡ unreadable
unfolding system
unseen P T u l (inl m) = hide-listed (unused P T) (take (data_start P T) l) u m
unseen P T u l (inr far) = hide-keeps (unused P T) (take (data_start P T) l) u (get_or-eq_default (take (data_start P T) l) unreadable (omega (arith, length-take (data_start P T) l)))

pub inside-or : (P T u : ℕ) → Inside P T u ⊎ (Listed u (unused P T) ⊎ (data_start P T ≤ u))
inside-or P T u = elim (cases_lt (u + 1) (data_start P T)) [
  | inr far ↦ elim (cases_eq u (second_homes P T + P)) [ inl e ↦ inr (inl (inr (inr (inr (inl e))))) | inr n ↦ inr (inr (omega arith)) ]
  | inl low ↦ elim (cases_eq u 1) [
    | inl e ↦ inr (inl (inl e))
    | inr one ↦ elim (cases_eq u 3) [
      | inl e ↦ inr (inl (inr (inl e)))
      | inr three ↦ elim (cases_eq u (first_homes T + P)) [ inl e ↦ inr (inl (inr (inr (inl e)))) | inr between ↦ inl (low, one, three, between) ]
    ]
  ]
]
