-- Recovery keeps the settled images through every cut.
--     plan-safe      and leaves a volume that is up, with an empty log
use Rattle.std.proofs.Common.{◌≡◌, ℕ, ◌^◌, ◌+◌, ◌<◌, ◌≤◌, ◌⊎◌, List, [], ◌∷◌, ◌++◌, sym, refl, ap, ◌∙◌, subst, inl, inr, arith}
use Rattle.std.specs.List.{AllByRecursion}
use Rattle.std.proofs.ByRecursion.{All-weaker}
use Rattle.std.proofs.lemmas.List.{append-nil}
use Rattle.disk.specs.Sectors.{holds}
use Rattle.disk.specs.WriteLists.{Write}
use Rattle.geometry.specs.Places.{first_homes, second_homes}
use Rattle.geometry.specs.Thirds.{next_of}
use Rattle.geometry.specs.declared.third.Third.{Third}
use Rattle.geometry.specs.declared.third.Third.TheVariants.{Zero}
use Rattle.thirds.specs.Words.{Calm, Disk, Images, anchor, anchor_bytes, header_bytes, says, word_of}
use Rattle.thirds.specs.Cuts.{From, Put, Struck, Through, struck-whole, write}
use Rattle.thirds.specs.Records.{NoEnd, Rec, start}
use Rattle.thirds.specs.Homes.{Side, has, mend, newest, redo}
use Rattle.thirds.specs.Volumes.{Down, Marks, Shows, Sound, Span, Up, Within, one_more}
use Rattle.thirds.specs.Recovery.{AnchorWrites, HeaderWrites, Plan, PlanSafe, anchor-again-wrong, anchor-wrong, anchors-right, both_anchors, header-again-wrong, header-wrong, headers-right}
use Rattle.thirds.proofs.Words.{anchor-calm, anchor-read, header-calm, header-read, says-anchor}
use Rattle.thirds.proofs.WriteLists.{Breaks, Keeps, from-all, from-as, from-none, from-one, from-then, from-with}
use Rattle.thirds.proofs.SearchFinds.{absent-no-end, search-is-one}
use Rattle.thirds.proofs.Struck.{down-anchor-4, down-anchor-6, down-first-home, down-header-0, down-header-2, down-second-home, marks-struck, mild-first, mild-low, mild-second, shows-struck, sound-struck}
use Rattle.thirds.proofs.HomeWrites.{Gives, Homeward, To, both-home, given-set, lost-cases, mend-among, mend-none, mend-to, not-lost, readable-put, readable-through, redone}
use Rattle.thirds.proofs.Settled.{chosen, reads-settled}
use Rattle.thirds.proofs.SameVolume.{homes-only, wider-down}

struck-as : {s u : ℕ} {v x : List ℕ} {σ τ : Disk} → s ≡ u → v ≡ x → Struck s v σ τ → Struck u x σ τ
struck-as {s} {u} {v} {x} {σ} {τ} a b k = subst (λ (y : List ℕ). Struck u y σ τ) b (subst (λ (n : ℕ). Struck n v σ τ) a k)

module _ (P T N : ℕ) (X : Images) (h : Span) (f : Third) (m : ℕ) (rs : List Rec) (s : ℕ) (num : m < 2 ^ 32) (lasts : s + 1 < 2 ^ 32) where
  -- between the anchors' mending and their last writing
  record Mid (δ : Disk) : Type 0 where
    down : Down P T N X h δ
    headers : (δ 0 ≡ holds (header_bytes P T N)) × (δ 2 ≡ holds (header_bytes P T N))
    anchors : (says P (δ 4) ≡ anchor f m) × (says P (δ 6) ≡ anchor f m)
    shows : Shows P T X h δ f m rs s

  down-first : (w : Write) → To P T X (first_homes T) w → (σ τ : Disk) → Struck w.to w.bytes σ τ → Side P (second_homes P T) σ → Down P T N X h σ → Down P T N X h τ
  down-first w (i, l, a, b) σ τ x k d = down-first-home P T N X h i l (struck-as a b x) k d

  down-second : (w : Write) → To P T X (second_homes P T) w → (σ τ : Disk) → Struck w.to w.bytes σ τ → Side P (first_homes T) σ → Down P T N X h σ → Down P T N X h τ
  down-second w (i, l, a, b) σ τ x k d = down-second-home P T N X h i l (struck-as a b x) k d

  mid-put : (w : Write) → Homeward P T X w → (σ τ : Disk) → Put w.to w.bytes σ τ → Down P T N X h τ → Mid σ → Mid τ
  mid-put w (inl (i, l, a, b)) σ τ p d k = record {
    down = d;
    headers = (p.away 0 (omega arith) ∙ k.headers.0, p.away 2 (omega arith) ∙ k.headers.1);
    anchors = (ap (says P) (p.away 4 (omega arith)) ∙ k.anchors.0, ap (says P) (p.away 6 (omega arith)) ∙ k.anchors.1);
    shows = shows-struck P T X h (struck-as a b (struck-whole p)) (mild-first P T X i l (k.down.calm i l)) f m rs s k.shows;
  }
  mid-put w (inr (i, l, a, b)) σ τ p d k = record {
    down = d;
    headers = (p.away 0 (omega arith) ∙ k.headers.0, p.away 2 (omega arith) ∙ k.headers.1);
    anchors = (ap (says P) (p.away 4 (omega arith)) ∙ k.anchors.0, ap (says P) (p.away 6 (omega arith)) ∙ k.anchors.1);
    shows = shows-struck P T X h (struck-as a b (struck-whole p)) (mild-second P T X i l (k.down.calm i l)) f m rs s k.shows;
  }

  -- mending one side while the other is whole
  abbrev With : ℕ → Disk → Type 0
  With base δ = Mid δ × Side P base δ

  side-put : (base : ℕ) (w : Write) → Homeward P T X w → (σ τ : Disk) → Put w.to w.bytes σ τ → Side P base σ → Side P base τ
  side-put base w x σ τ p k i l = readable-put P T X (base + i) w x σ τ p (k i l)

  keeps-first : (w : Write) → To P T X (first_homes T) w → Keeps (With (second_homes P T)) w
  keeps-first w x σ τ p (k, o) = (mid-put w (inl x) σ τ p (down-first w x σ τ (struck-whole p) o k.down) k, side-put (second_homes P T) w (inl x) σ τ p o)

  keeps-second : (w : Write) → To P T X (second_homes P T) w → Keeps (With (first_homes T)) w
  keeps-second w x σ τ p (k, o) = (mid-put w (inr x) σ τ p (down-second w x σ τ (struck-whole p) o k.down) k, side-put (first_homes T) w (inr x) σ τ p o)

  breaks-first : (w : Write) → To P T X (first_homes T) w → Breaks (With (second_homes P T)) (Down P T N X h) w
  breaks-first w x σ τ p (k, o) = down-first w x σ τ p o k.down

  breaks-second : (w : Write) → To P T X (second_homes P T) w → Breaks (With (first_homes T)) (Down P T N X h) w
  breaks-second w x σ τ p (k, o) = down-second w x σ τ p o k.down

  -- redoing, both sides whole
  abbrev Mended : Disk → Type 0
  Mended δ = Mid δ × Side P (first_homes T) δ × Side P (second_homes P T) δ

  keeps-both : (w : Write) → Homeward P T X w → Keeps Mended w
  keeps-both w (inl x) σ τ p (k, a, b) = (mid-put w (inl x) σ τ p (down-first w x σ τ (struck-whole p) b k.down) k, side-put (first_homes T) w (inl x) σ τ p a, side-put (second_homes P T) w (inl x) σ τ p b)
  keeps-both w (inr x) σ τ p (k, a, b) = (mid-put w (inr x) σ τ p (down-second w x σ τ (struck-whole p) a k.down) k, side-put (first_homes T) w (inr x) σ τ p a, side-put (second_homes P T) w (inr x) σ τ p b)

  breaks-both : (w : Write) → Homeward P T X w → Breaks Mended (Down P T N X h) w
  breaks-both w (inl x) σ τ p (k, a, b) = down-first w x σ τ p b k.down
  breaks-both w (inr x) σ τ p (k, a, b) = down-second w x σ τ p a k.down

  -- the headers, then the anchors
  record Early (δ : Disk) : Type 0 where
    down : Down P T N X h δ
    shows : Shows P T X h δ f m rs s

  early-put : (u : ℕ) (v : List ℕ) → u < 7 → Calm (word_of P v) → (σ τ : Disk) → Put u v σ τ → Down P T N X h τ → Early σ → Early τ
  early-put u v l c σ τ p d k = record {
    down = d;
    shows = shows-struck P T X h (struck-whole p) (mild-low P T X u v l c) f m rs s k.shows;
  }

  abbrev D : Disk → Type 0
  D = Down P T N X h

  abbrev HeadersThrough : Disk → Disk → Type 0
  HeadersThrough σ τ = Early τ × (τ 0 ≡ holds (header_bytes P T N)) × (τ 2 ≡ holds (header_bytes P T N)) × ((u : ℕ) → 3 ≤ u → τ u ≡ σ u)

  headers-from : (σ : Disk) (ws : List Write) → HeaderWrites P T N σ ws → Early σ → From σ ws D (HeadersThrough σ)
  headers-from σ ws (headers-right a g b w) k =
      from-as D (HeadersThrough σ) σ ws [] w (from-none D (HeadersThrough σ) σ (k, header-read P T N (σ 0) k.down.headers.one a, header-read P T N (σ 2) k.down.headers.two b, λ u l. refl))
  headers-from σ ws (header-wrong a b w) k =
      let there = header-read P T N (σ 2) k.down.headers.two b in
      from-as D (HeadersThrough σ) σ ws _ w (from-one D (HeadersThrough σ) σ 0 (header_bytes P T N)
      (λ τ x. down-header-0 P T N X h x (λ e. not-lost e there) k.down)
      (λ τ p. (early-put 0 (header_bytes P T N) (omega arith) (header-calm P T N) σ τ p (down-header-0 P T N X h (struck-whole p) (λ e. not-lost e there) k.down) k, p.here, p.away 2 (omega arith) ∙ there, λ u l. p.away u (omega arith))))
  headers-from σ ws (header-again-wrong a b w) k =
      let there = header-read P T N (σ 0) k.down.headers.one a in
      from-as D (HeadersThrough σ) σ ws _ w (from-one D (HeadersThrough σ) σ 2 (header_bytes P T N)
      (λ τ x. down-header-2 P T N X h x (λ e. not-lost e there) k.down)
      (λ τ p. (early-put 2 (header_bytes P T N) (omega arith) (header-calm P T N) σ τ p (down-header-2 P T N X h (struck-whole p) (λ e. not-lost e there) k.down) k, p.away 0 (omega arith) ∙ there, p.here, λ u l. p.away u (omega arith))))

  abbrev AnchorsThrough : Disk → Disk → Type 0
  AnchorsThrough σ τ = Mid τ × ((u : ℕ) → 8 ≤ u → τ u ≡ σ u)

  anchors-from : (σ : Disk) (ws : List Write) → AnchorWrites P σ f m ws → Early σ → σ 0 ≡ holds (header_bytes P T N) → σ 2 ≡ holds (header_bytes P T N) → From σ ws D (AnchorsThrough σ)
  anchors-from σ ws (anchors-right a b w) k x y = from-as D (AnchorsThrough σ) σ ws [] w
      (from-none D (AnchorsThrough σ) σ (record { down = k.down; headers = (x, y); anchors = (a, b); shows = k.shows }, λ u l. refl))
  anchors-from σ ws (anchor-wrong a b w) k x y = from-as D (AnchorsThrough σ) σ ws _ w (from-one D (AnchorsThrough σ) σ 4 (anchor_bytes f m)
      (λ τ c. down-anchor-4 P T N X h f m num c (anchor-read P b) (rs, s, k.shows) k.down)
      (λ τ p. (
        record {
          down = down-anchor-4 P T N X h f m num (struck-whole p) (anchor-read P b) (rs, s, k.shows) k.down;
          headers = (p.away 0 (omega arith) ∙ x, p.away 2 (omega arith) ∙ y);
          anchors = (ap (says P) p.here ∙ says-anchor P f m num, ap (says P) (p.away 6 (omega arith)) ∙ b);
          shows = shows-struck P T X h (struck-whole p) (mild-low P T X 4 (anchor_bytes f m) (omega arith) (anchor-calm P f m num)) f m rs s k.shows;
        },
        λ u l. p.away u (omega arith),
      )))
  anchors-from σ ws (anchor-again-wrong a b w) k x y = from-as D (AnchorsThrough σ) σ ws _ w (from-one D (AnchorsThrough σ) σ 6 (anchor_bytes f m)
      (λ τ c. down-anchor-6 P T N X h f m num c (anchor-read P a) (rs, s, k.shows) k.down)
      (λ τ p. (
        record {
          down = down-anchor-6 P T N X h f m num (struck-whole p) (anchor-read P a) (rs, s, k.shows) k.down;
          headers = (p.away 0 (omega arith) ∙ x, p.away 2 (omega arith) ∙ y);
          anchors = (ap (says P) (p.away 4 (omega arith)) ∙ a, ap (says P) p.here ∙ says-anchor P f m num);
          shows = shows-struck P T X h (struck-whole p) (mild-low P T X 6 (anchor_bytes f m) (omega arith) (anchor-calm P f m num)) f m rs s k.shows;
        },
        λ u l. p.away u (omega arith),
      )))

  -- mending: one side only has a loss
  gives-to : (base i : ℕ) (w : Write) → To P T X base w → Gives (base + i) (X i) w
  gives-to base i w (j, k, e, v) q = let z : j ≡ i = omega arith in v ∙ ap X z

  sided : (base : ℕ) → 8 ≤ base → (σ ρ τ : Disk) → ((u : ℕ) → 8 ≤ u → ρ u ≡ σ u) → AllByRecursion (Homeward P T X) (mend σ X base P) → Through (mend σ X base P) ρ τ → Side P base τ
  sided base l σ ρ τ same home d i j e =
      let ws = mend σ X base P in
      elim (lost-cases (σ (base + i)) (base + i) (X i)) [
        | inl (a, b) ↦ (let x : τ (base + i) ≡ holds (X i) = given-set (base + i) (X i) ws (All-weaker (To P T X base) (Gives (base + i) (X i)) (gives-to base i) ws (mend-to P T X σ base P (omega arith))) ρ τ (mend-among P T X σ base P i j a) d in
            not-lost e x)
        | inr (a, b) ↦ readable-through P T X (base + i) ws home ρ τ d (λ q. a (sym (same (base + i) (omega arith)) ∙ q)) e
      ]

  -- σ is what recovery read
  mend-from : (σ ρ : Disk) → ((u : ℕ) → 8 ≤ u → ρ u ≡ σ u) → Side P (first_homes T) σ ⊎ Side P (second_homes P T) σ → Mid ρ → From ρ (mend σ X (first_homes T) P ++ mend σ X (second_homes P T) P) D Mended
  mend-from σ ρ same (inl a) k =
      let ws = mend σ X (second_homes P T) P in
      let to = mend-to P T X σ (second_homes P T) P (omega arith) in
      from-as D Mended ρ _ ws (ap (λ v. v ++ ws) (mend-none P T X σ (first_homes T) P (omega arith) a))
      (from-with D Mended (With (first_homes T)) ρ ws (from-all D (With (first_homes T)) (To P T X (second_homes P T)) keeps-second breaks-second ρ ws to (k, λ i l e. a i l (sym (same (first_homes T + i) (omega arith)) ∙ e)))
      (λ τ d z. (z.0, z.1, sided (second_homes P T) (omega arith) σ ρ τ same (All-weaker (To P T X (second_homes P T)) (Homeward P T X) (λ w x. inr x) ws to) d)))
  mend-from σ ρ same (inr b) k =
      let ws = mend σ X (first_homes T) P in
      let to = mend-to P T X σ (first_homes T) P (omega arith) in
      from-as D Mended ρ _ ws (ap (λ v. ws ++ v) (mend-none P T X σ (second_homes P T) P (omega arith) b) ∙ append-nil ws)
      (from-with D Mended (With (second_homes P T)) ρ ws (from-all D (With (second_homes P T)) (To P T X (first_homes T)) keeps-first breaks-first ρ ws to (k, λ i l e. b i l (sym (same (second_homes P T + i) (omega arith)) ∙ e)))
      (λ τ d z. (z.0, sided (first_homes T) (omega arith) σ ρ τ same (All-weaker (To P T X (first_homes T)) (Homeward P T X) (λ w x. inl x) ws to) d, z.1)))

  -- the last anchors
  abbrev Homes : Disk → Type 0
  Homes δ = (i : ℕ) → i < P → (δ (first_homes T + i) ≡ holds (X i)) × (δ (second_homes P T + i) ≡ holds (X i))

  fresh : (δ : Disk) → Homes δ → Marks P δ (s + 1) → Within h (s + 1) → Sound P T X h δ Zero (s + 1)
  fresh δ homes k l =
      let none : NoEnd P δ (s + 1) = (λ u n e. omega (arith, k.of-ends u (s + 1) n e)) in (
        [],
        s + 1,
        record {
          found = (refl, absent-no-end P T δ Zero (start T Zero) (s + 1) none, λ _. absent-no-end P T δ (next_of Zero) (start T (next_of Zero)) (s + 1) none);
          pictured = λ i j. (inr (homes i j).0, inr (homes i j).1);
          marks = record { of-heads = λ u n ns e. omega (arith, k.of-heads u n ns e); of-ends = λ u n c e. omega (arith, k.of-ends u n c e) };
          within = l;
        },
      )

  redo-from : (ρ : Disk) → Mended ρ → From ρ (redo rs X (first_homes T) (second_homes P T) P) D (λ δ. Mid δ × Homes δ)
  redo-from ρ k =
      let ws = redo rs X (first_homes T) (second_homes P T) P in
      from-with D (λ δ. Mid δ × Homes δ) Mended ρ ws (from-all D Mended (Homeward P T X) keeps-both breaks-both ρ ws (both-home P T X (λ j. has (newest rs j)) P (omega arith)) k)
      (λ τ d z. (z.0, λ i j. redone P T X rs ρ τ d i j (newest rs i) refl (k.0.shows.pictured i j) (k.1 i j) (k.2 i j)))

  -- with the first new anchor written
  last-from : (σ : Disk) → Within h (s + 1) → Mid σ × Homes σ → From σ (both_anchors Zero (s + 1)) D (Up P T N X Zero (s + 1) [])
  last-from σ l (k, homes) =
      let z = fresh σ homes k.shows.marks l in
      let quiet = anchor-calm P Zero (s + 1) lasts in
      let sa = says-anchor P Zero (s + 1) lasts in
      let U : Disk → Type 0 = Up P T N X Zero (s + 1) [] in
      from-then D U (λ ρ. Put 4 (anchor_bytes Zero (s + 1)) σ ρ) σ (write 4 (anchor_bytes Zero (s + 1)) ∷ []) (write 6 (anchor_bytes Zero (s + 1)) ∷ [])
      (from-one D (λ ρ. Put 4 (anchor_bytes Zero (s + 1)) σ ρ) σ 4 (anchor_bytes Zero (s + 1)) (λ τ x. down-anchor-4 P T N X h Zero (s + 1) lasts x (anchor-read P k.anchors.1) z k.down) (λ τ p. p))
      (λ ρ p. from-one D U ρ 6 (anchor_bytes Zero (s + 1))
      (λ τ x. down-anchor-6 P T N X h Zero (s + 1) lasts x (anchor-read P (ap (says P) p.here ∙ sa)) (sound-struck P T X h (struck-whole p) (mild-low P T X 4 (anchor_bytes Zero (s + 1)) (omega arith) quiet) Zero (s + 1) z)
      (down-anchor-4 P T N X h Zero (s + 1) lasts (struck-whole p) (anchor-read P k.anchors.1) z k.down))
      (λ τ q. (let high : (u : ℕ) → 8 ≤ u → τ u ≡ σ u = (λ u j. q.away u (omega arith) ∙ p.away u (omega arith)) in
      let marked : Marks P τ (s + 1) = marks-struck P (struck-whole q) quiet (marks-struck P (struck-whole p) quiet k.shows.marks) in
      record {
        good = k.down.good;
        headers = (q.away 0 (omega arith) ∙ p.away 0 (omega arith) ∙ k.headers.0, q.away 2 (omega arith) ∙ p.away 2 (omega arith) ∙ k.headers.1);
        anchors = (ap (says P) (q.away 4 (omega arith) ∙ p.here) ∙ sa, ap (says P) q.here ∙ sa);
        calm = k.down.calm;
        small = lasts;
        core = record { laid = tt; whole = tt; named = tt; pictured = λ i j. (inr (high (first_homes T + i) (omega arith) ∙ (homes i j).0), inr (high (second_homes P T + i) (omega arith) ∙ (homes i j).1)) };
        marks = record { of-heads = λ u n ns x. omega (arith, marked.of-heads u n ns x); of-ends = λ u n c x. omega (arith, marked.of-ends u n c x) };
        sides = (λ i j x. not-lost x (high (first_homes T + i) (omega arith) ∙ (homes i j).0), λ i j x. not-lost x (high (second_homes P T + i) (omega arith) ∙ (homes i j).1));
      })))

-- All of recovery's writes, and a cut in any of them.
anchor-writes-same : (P : ℕ) (σ τ : Disk) (f : Third) (m : ℕ) (ws : List Write) → τ 4 ≡ σ 4 → τ 6 ≡ σ 6 → AnchorWrites P σ f m ws → AnchorWrites P τ f m ws
anchor-writes-same P σ τ f m ws x y (anchors-right a b w) = anchors-right (ap (says P) x ∙ a) (ap (says P) y ∙ b) w
anchor-writes-same P σ τ f m ws x y (anchor-wrong a b w) = anchor-wrong (λ g n e. a g n (ap (says P) (sym x) ∙ e)) (ap (says P) y ∙ b) w
anchor-writes-same P σ τ f m ws x y (anchor-again-wrong a b w) = anchor-again-wrong (ap (says P) x ∙ a) (λ e. b (ap (says P) (sym y) ∙ e)) w

recover-from : (P T N : ℕ) (X : Images) (h : Span) (s : ℕ) (σ : Disk) (ws : List Write) → Down P T N X h σ → Plan P T N σ X s ws → Within h (s + 1) → From σ ws (Down P T N X h) (Up P T N X Zero (s + 1) [])
recover-from P T N X h s σ ws d p l =
    let f = p.first in let m = p.number in let rs = p.log in let num = p.anchor-small in let lasts = p.numbers-last in
    let z = chosen P T N X h σ f m p.anchor-part d p.anchors in
    let only = search-is-one P T σ f f (start T f) m s z.1 rs z.0 p.found z.2.found in
    let early : Early P T N X h f m rs s num lasts σ = record {
      down = d;
      shows = subst (λ (k : ℕ). Shows P T X h σ f m rs k) (sym only.1) (subst (λ (qs : List Rec). Shows P T X h σ f m qs z.1) (sym only.0) z.2);
    } in
    let D = Down P T N X h in
    let U = Up P T N X Zero (s + 1) [] in
    from-as D U σ ws _ p.writes
    (from-then D U (HeadersThrough P T N X h f m rs s num lasts σ) σ _ _ (headers-from P T N X h f m rs s num lasts σ p.header-part p.headers early)
    (λ ρ k. from-then D U (AnchorsThrough P T N X h f m rs s num lasts ρ) ρ _ _
    (anchors-from P T N X h f m rs s num lasts ρ p.anchor-part (anchor-writes-same P σ ρ f m p.anchor-part (k.3 4 (omega arith)) (k.3 6 (omega arith)) p.anchors) k.0 k.1 k.2)
    (λ ρ₂ k₂. from-then D U (Mended P T N X h f m rs s num lasts) ρ₂ _ _
    (mend-from P T N X h f m rs s num lasts σ ρ₂ (λ u j. k₂.1 u j ∙ k.3 u (omega arith)) d.sides k₂.0)
    (λ ρ₃ k₃. from-then D U (λ δ. Mid P T N X h f m rs s num lasts δ × Homes P T N X h f m rs s num lasts δ) ρ₃ _ _ (redo-from P T N X h f m rs s num lasts ρ₃ k₃)
    (λ ρ₄ k₄. last-from P T N X h f m rs s num lasts ρ₄ l k₄)))))

pub plan-safe : PlanSafe
plan-safe P T N W X h s σ ws d p =
    let r = reads-settled P T N W X h s σ ws d p in
    let g = one_more h in
    let wide = wider-down P T N W h g σ (omega arith, omega arith) d in
    let z = recover-from P T N X g s σ ws ((homes-only P T N W X σ r.0).0 g wide) p (omega (arith, r.1.0), omega (arith, r.1.1)) in
    record { cut = λ τ t. (homes-only P T N X W τ (λ i l. sym (r.0 i l))).0 g (z.cut τ t); done = z.done }
