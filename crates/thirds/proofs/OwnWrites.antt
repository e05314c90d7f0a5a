-- The writes of a record: where they go, and what they say.
--     Kind            a head of the record, an end with its number, or neither a head nor an end
--     Own             a write within the record, of one of these kinds
--     own-layout      all writes of a record are
--     whole-put       a write outside a record leaves it whole
use Rattle.std.proofs.Common.{◌≡◌, ℕ, ◌+◌, ◌*◌, ◌<◌, ◌≤◌, ◌≢◌, ◌⊎◌, List, [], ◌∷◌, length, ◌∙◌, arith}
use Rattle.std.specs.List.{AllByRecursion}
use Rattle.std.proofs.ByRecursion.{All-weaker, All-append}
use Rattle.disk.specs.WriteLists.{Write}
use Rattle.thirds.specs.Words.{Calm, Disk, end, end_bytes, head, head_bytes, word_of}
use Rattle.thirds.specs.Cuts.{Holds, Put, write}
use Rattle.thirds.specs.Records.{Page, Proper, Rec, Whole, closing, first_end, layout, many, numbers, opening, pages_at}
use Rattle.thirds.specs.Search.{after}
use Rattle.thirds.proofs.RecordWords.{end-said, head-said}

-- a record's sectors
pub data Kind (P m : ℕ) (ns : List ℕ) (x : List ℕ) : Type 0 where
  is-head : word_of P x ≡ head m ns → Kind P m ns x
  is-end : (c : ℕ) → word_of P x ≡ end m c → Kind P m ns x
  is-calm : Calm (word_of P x) → Kind P m ns x

pub record Own (P : ℕ) (r : Rec) (w : Write) : Type 0 where
  pub low : r.place ≤ w.to
  pub high : w.to < after r
  pub kind : Proper P r → Kind P r.number (numbers r.pages) w.bytes

own-pages : (P : ℕ) (r : Rec) (ps : List Page) (u : ℕ) → (Proper P r → AllByRecursion (λ p. Calm (word_of P p.1)) ps) → r.place ≤ u → u + length ps ≤ after r → AllByRecursion (Own P r) (pages_at u ps)
own-pages P r [] u c a b = tt
own-pages P r (p ∷ ps) u c a b = (record { low = a; high = omega arith; kind = λ ok. is-calm (c ok).0 }, own-pages P r ps (u + 1) (λ ok. (c ok).1) (omega arith) (omega arith))

pub own-layout : (P : ℕ) (r : Rec) → 0 < many r → AllByRecursion (Own P r) (layout r)
own-layout P r some =
    let h : Proper P r → Kind P r.number (numbers r.pages) (head_bytes r.number (numbers r.pages)) = (λ ok. is-head (head-said P r some ok.numbered)) in
    let e : Proper P r → Kind P r.number (numbers r.pages) (end_bytes r.number (many r)) = (λ ok. is-end (many r) (end-said P r ok.numbered)) in
    All-append (Own P r) (opening r) (first_end r ∷ closing r)
    (record { low = omega arith; high = omega arith; kind = h }, (record { low = omega arith; high = omega arith; kind = h }, own-pages P r r.pages (r.place + 3) (λ ok. ok.calm) (omega arith) (omega arith))) (
      record { low = omega arith; high = omega arith; kind = e },
      All-append (Own P r) (pages_at (r.place + 4 + many r) r.pages) (write (r.place + 4 + 2 * many r) (end_bytes r.number (many r)) ∷ [])
          (own-pages P r r.pages (r.place + 4 + many r) (λ ok. ok.calm) (omega arith) (omega arith))
          (record { low = omega arith; high = omega arith; kind = e }, tt),
    )

holds-put : (s : ℕ) (v : List ℕ) (σ τ : Disk) → Put s v σ τ → (ws : List Write) → AllByRecursion (λ w. w.to ≢ s) ws → Holds σ ws → Holds τ ws
holds-put s v σ τ p [] a h = tt
holds-put s v σ τ p (w ∷ ws) a h = (p.away w.to a.0 ∙ h.0, holds-put s v σ τ p ws a.1 h.1)

-- a write outside a record leaves it whole
pub whole-put : (P T s : ℕ) (v : List ℕ) (σ τ : Disk) (q : Rec) → Put s v σ τ → (s < q.place) ⊎ (after q ≤ s) → Whole P T σ q → Whole P T τ q
whole-put P T s v σ τ q p l h = (h.0, holds-put s v σ τ p (layout q) (All-weaker (Own P q) (λ w. w.to ≢ s) (λ w o. omega (arith, o.low, o.high)) (layout q) (own-layout P q h.0.0)) h.1, h.2)
