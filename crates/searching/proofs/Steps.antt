-- From what was read of a record to whether it is there.
--     first-start     the first sector of a third
--     last-start      the last one
--     unfit           it reaches its third's last sector
--     endless         no end of it is right
--     pageless        a page of it cannot be read
--     found           it is there
--     end-lost        the power failed at an end
--     page-lost       the power failed at a page
use Rattle.std.proofs.Common.{◌≡◌, ℕ, zero, suc, ◌+◌, ◌-◌, ◌*◌, ◌<◌, ◌≤◌, true, false, Bool, ◌⊎◌, List, [], ◌∷◌, ◌++◌, length, get_or, Some, None, Ok, sym, refl, ◌∙◌, subst, inl, inr, arith}
use Rattle.std.proofs.lemmas.List.{get_or_append_left, get_or_push, length_push}
use Rattle.std.proofs.lemmas.Bool.{cases_eq}
use Rattle.disk.specs.Sectors.{Sector, DiskState, unreadable, holds}
use Rattle.disk.specs.declared.faults.Fault.{Fault}
use Rattle.geometry.specs.Places.{third_start, last_of}
use Rattle.geometry.specs.Thirds.{number_of}
use Rattle.geometry.specs.declared.third.Third.{Third}
use Rattle.geometry.specs.declared.third.Third.TheVariants.{Zero, One, Two}
use Rattle.layout.specs.declared.head.RecordHead.{RecordHead}
use Rattle.searching.specs.Looks.{listed, ReadBetween, FirstHeadSeen, EndsSeen, CopiesSeen, ReadOfRecord, RecordSeen}
use Rattle.searching.proofs.Listed.{listed-good, few-listed}
use Rattle.thirds.specs.Words.{Disk, end, says, on}
use Rattle.thirds.specs.Records.{start}
use Rattle.thirds.specs.Reading.{Copied}
use Rattle.thirds.proofs.RecordTests.{tested}
use Rattle.working.specs.Values.{ReadLost}

pub first-start : (T : ℕ) (k : Third) → third_start T (number_of k) ≡ start T k
first-start T Zero = omega arith
first-start T One = omega arith
first-start T Two = omega arith

pub last-start : (T : ℕ) (k : Third) → last_of T (number_of k) ≡ start T k + (T - 1)
last-start T Zero = omega arith
last-start T One = omega arith
last-start T Two = omega arith

copy-one : (σ : Disk) (u v : ℕ) → (σ u ≡ unreadable → ⊥) ⊎ (σ v ≡ unreadable → ⊥) → (x : List ℕ) × Copied σ u v x
copy-one σ u v h = go (σ u) (σ v) refl refl
  where
    go : (a b : Sector) → σ u ≡ a → σ v ≡ b → (x : List ℕ) × Copied σ u v x
    go (holds x) b p q = (x, inl p)
    go unreadable (holds y) p q = (y, inr (p, q))
    go unreadable unreadable p q = absurd (elim h [ inl f ↦ f p | inr f ↦ f q ])

gather : (n : ℕ) (σ : Disk) (u v : ℕ) → ((j : ℕ) → j < n → (σ (u + j) ≡ unreadable → ⊥) ⊎ (σ (v + j) ≡ unreadable → ⊥))
    → (xs : List (List ℕ)) × (length xs ≡ n) × ((j : ℕ) → j < n → Copied σ (u + j) (v + j) (get_or xs j []))
gather zero σ u v h = ([], refl, λ j l. absurd (omega arith))
gather (suc n) σ u v h =
    let (xs, long, each) = gather n σ u v (λ j l. h j (omega arith)) in
    let (x, last) = copy-one σ (u + n) (v + n) (h n (omega arith)) in (
      xs ++ x ∷ [],
      length_push xs x ∙ plus long,
      λ j l. elim (cases_eq j n) [
        | inl e ↦ subst (λ (i : ℕ). Copied σ (u + i) (v + i) (get_or (xs ++ x ∷ []) i [])) (sym e) (subst (Copied σ (u + n) (v + n)) (sym (get_or_push xs x [] n long)) last)
        | inr ne ↦ subst (Copied σ (u + j) (v + j)) (sym (get_or_append_left xs (x ∷ []) [] j (omega arith))) (each j (omega arith))
      ],
    )
  where
    plus : {k : ℕ} → k ≡ n → k + 1 ≡ suc n
    plus e = omega arith

-- A head with this number was read, and the disk is then as before.
module _ (P T : ℕ) (k : Third) (p m : ℕ) (d e : DiskState) (h : RecordHead) (hd : FirstHeadSeen P p m d (Ok (Some h)) e) where
  pub unfit : start T k + T ≤ p + 5 + 2 * h.count → RecordSeen P T k p m d (Ok None) e
  unfit far =
      let long = (listed-good P h hd.3.1).0 in
      (hd.0, hd.1, (tested P T (on d.sectors) k p m).no-fit (listed h) hd.2 (inr (omega arith)))

module _ (P T : ℕ) (k : Third) (p m : ℕ) (d e : DiskState) (h : RecordHead) (hd : FirstHeadSeen P p m d (Ok (Some h)) e) (n : ℕ) (count : n ≡ h.count) where
  -- what was read of the ends, from the disk before
  abbrev ended : Bool → DiskState → Type 0
  ended b f = EndsSeen P (p + 3 + h.count) (p + 4 + 2 * h.count) m h.count d (Ok b) f

  abbrev copied : Bool → DiskState → Type 0
  copied b f = CopiesSeen (p + 3) (p + 4 + h.count) h.count d (Ok b) f

  from-before : (b : Bool) (f : DiskState) → EndsSeen P (p + 3 + n) (p + 4 + 2 * n) m h.count e (Ok b) f → ended b f
  from-before b f v = subst (λ (z : DiskState). EndsSeen P (p + 3 + h.count) (p + 4 + 2 * h.count) m h.count z (Ok b) f) hd.1 (subst (λ (c : ℕ). EndsSeen P (p + 3 + c) (p + 4 + 2 * c) m h.count e (Ok b) f) count v)

  pub endless : (b : Bool) (f : DiskState) → b ≡ false → EndsSeen P (p + 3 + n) (p + 4 + 2 * n) m h.count e (Ok b) f → RecordSeen P T k p m d (Ok None) f
  endless b f t v = go b t (from-before b f v)
    where
      go : (b : Bool) → b ≡ false → ended b f → RecordSeen P T k p m d (Ok None) f
      go true t w = let z : ◌≡◌ {A = ℕ} 0 1 = cc in absurd (omega arith)
      go false t w =
          let long = sym (listed-good P h hd.3.1).0 in (
            w.0,
            w.1,
            (tested P T (on d.sectors) k p m).no-end (listed h) hd.2
                (subst (λ (c : ℕ). says P (on d.sectors (p + 3 + c)) ≡ end m c → ⊥) long w.2) (subst (λ (c : ℕ). says P (on d.sectors (p + 4 + 2 * c)) ≡ end m c → ⊥) long w.3),
          )

  pub end-lost : (x : Fault) (f : DiskState) → p + 5 + 2 * h.count < start T k + T → ReadBetween (p + 3 + n) (p + 4 + 2 * n) e x f → ReadOfRecord T k p d x f
  end-lost x f fit (s, low, high, v) =
      let few = few-listed P h hd.3.1 in
      (s, omega arith, omega arith, inr (omega arith), subst (λ (z : DiskState). ReadLost s z x f) hd.1 v)

  -- One of its ends is right.
  module _ (t : Bool) (f : DiskState) (right : t ≡ true) (ends : EndsSeen P (p + 3 + n) (p + 4 + 2 * n) m h.count e (Ok t) f) where
    one-right : (f ≡ d) × ((says P (on d.sectors (p + 3 + h.count)) ≡ end m h.count) ⊎ (says P (on d.sectors (p + 4 + 2 * h.count)) ≡ end m h.count))
    one-right = go t right (from-before t f ends)
      where
        go : (t : Bool) → t ≡ true → ended t f → (f ≡ d) × ((says P (on d.sectors (p + 3 + h.count)) ≡ end m h.count) ⊎ (says P (on d.sectors (p + 4 + 2 * h.count)) ≡ end m h.count))
        go true r w = (w.1, w.2)
        go false r w = let z : ◌≡◌ {A = ℕ} 0 1 = cc in absurd (omega arith)

    from-start : (b : Bool) (l : DiskState) → CopiesSeen (p + 3) (p + 4 + n) h.count f (Ok b) l → copied b l
    from-start b l v = subst (λ (z : DiskState). CopiesSeen (p + 3) (p + 4 + h.count) h.count z (Ok b) l) one-right.0 (subst (λ (c : ℕ). CopiesSeen (p + 3) (p + 4 + c) h.count f (Ok b) l) count v)

    pub page-lost : (x : Fault) (l : DiskState) → p + 5 + 2 * h.count < start T k + T → ReadBetween (p + 3) (p + 4 + n + h.count) f x l → ReadOfRecord T k p d x l
    page-lost x l fit (s, low, high, v) =
        let few = few-listed P h hd.3.1 in
        (s, omega arith, omega arith, inr (omega arith), subst (λ (z : DiskState). ReadLost s z x l) one-right.0 v)

    pub pageless : (b : Bool) (l : DiskState) → b ≡ false → CopiesSeen (p + 3) (p + 4 + n) h.count f (Ok b) l → RecordSeen P T k p m d (Ok None) l
    pageless b l q v = go b q (from-start b l v)
      where
        go : (b : Bool) → b ≡ false → copied b l → RecordSeen P T k p m d (Ok None) l
        go true q w = let z : ◌≡◌ {A = ℕ} 0 1 = cc in absurd (omega arith)
        go false q w =
            let long = sym (listed-good P h hd.3.1).0 in
            let (j, small, a, b) = w.2 in
            (w.0, w.1, (tested P T (on d.sectors) k p m).no-copy (listed h) hd.2 j (omega arith) a (subst (λ (c : ℕ). on d.sectors (p + 4 + c + j) ≡ unreadable) long b))

    pub found : (b : Bool) (l : DiskState) → b ≡ true → p + 5 + 2 * h.count < start T k + T → CopiesSeen (p + 3) (p + 4 + n) h.count f (Ok b) l → RecordSeen P T k p m d (Ok (Some h)) l
    found b l q fit v = go b q (from-start b l v)
      where
        go : (b : Bool) → b ≡ true → copied b l → RecordSeen P T k p m d (Ok (Some h)) l
        go false q w = let z : ◌≡◌ {A = ℕ} 0 1 = cc in absurd (omega arith)
        go true q w =
            let long = sym (listed-good P h hd.3.1).0 in
            let (xs, same, each) = gather h.count (on d.sectors) (p + 3) (p + 4 + h.count) w.2 in
            let some = hd.3.1.1 in (
              w.0,
              w.1,
              hd.3,
              (
                xs,
                same,
                (tested P T (on d.sectors) k p m).all-there (listed h) xs (same ∙ long) hd.2 (omega arith) (omega arith)
                    (subst (λ (c : ℕ). (says P (on d.sectors (p + 3 + c)) ≡ end m c) ⊎ (says P (on d.sectors (p + 4 + 2 * c)) ≡ end m c)) long one-right.1)
                    (subst (λ (c : ℕ). (j : ℕ) → j < c → Copied (on d.sectors) (p + 3 + j) (p + 4 + c + j) (get_or xs j [])) long each),
              ),
            )
