-- What a format writes, and where.
--     last_ones                 the anchors, and last the headers
--     home_writes               the homes, and then these
--     each-home, each-write     what is so of each of these, and of each write
--     format-lies               all lie inside
--     among-format              each sector inside is written
--     image-calm                an image that may be logged is neither a head nor an end
--     format-quiet              nor is anything that a format writes
use Rattle.std.proofs.Common.{◌≡◌, ℕ, ◌+◌, ◌*◌, ◌-◌, ◌<◌, ◌≤◌, List, [], ◌∷◌, ◌++◌, length, get_or, refl, inl, inr, subst, arith}
use Rattle.std.specs.List.{AllByRecursion}
use Rattle.std.proofs.ByRecursion.{All-append, All-get_or}
use Rattle.std.proofs.lemmas.Bool.{cases_eq, cases_lt}
use Rattle.disk.specs.WriteLists.{Write, run_of}
use Rattle.geometry.specs.Places.{first_homes, second_homes}
use Rattle.geometry.specs.declared.third.Third.TheVariants.{Zero}
use Rattle.journal.proofs.SameReads.{inside-first, inside-log, inside-low, inside-second}
use Rattle.journal.proofs.StandsLast.{Among, Quiet, all-run, all-zeros, among-back, among-front, among-run, among-zeros}
use Rattle.journal.proofs.LoggableCalm.{loggable-calm}
use Rattle.journal.specs.Calls.{Loggable}
use Rattle.journal.specs.Formats.{format_writes, zero_run, zeros}
use Rattle.journal.specs.Recoveries.{FormatLies}
use Rattle.thirds.proofs.Words.{anchor-calm, header-calm}
use Rattle.thirds.specs.Cuts.{write}
use Rattle.thirds.specs.Disks.{Inside}
use Rattle.thirds.specs.Recovery.{both_anchors}
use Rattle.thirds.specs.Words.{Calm, header_bytes, word_of}

module _ (T N : ℕ) (images : List (List ℕ)) where
  abbrev P : ℕ
  P = length images

  abbrev pub last_ones : List Write
  last_ones = both_anchors Zero 1 ++ (write 0 (header_bytes P T N) ∷ write 2 (header_bytes P T N) ∷ [])

  abbrev pub home_writes : List Write
  home_writes = run_of (first_homes T) images ++ (run_of (second_homes P T) images ++ last_ones)

  pub each-home : (Q : Write → Type 0)
      → ((i : ℕ) → i < P → Q (write (first_homes T + i) (get_or images i []))) → ((i : ℕ) → i < P → Q (write (second_homes P T + i) (get_or images i [])))
      → AllByRecursion Q last_ones → AllByRecursion Q home_writes
  each-home Q a b c =
      All-append Q (run_of (first_homes T) images) (run_of (second_homes P T) images ++ last_ones) (all-run Q (first_homes T) images a)
      (All-append Q (run_of (second_homes P T) images) last_ones (all-run Q (second_homes P T) images b) c)

  each-write : (Q : Write → Type 0) → Q (write 0 zeros) → Q (write 2 zeros) → ((i : ℕ) → i < 4 + 3 * T → Q (write (4 + i) zeros))
      → AllByRecursion Q home_writes → AllByRecursion Q (format_writes P T N images)
  each-write Q a b c d = (a, (b, All-append Q (zero_run 4 (4 + 3 * T)) home_writes (all-zeros Q 4 (4 + 3 * T) c) d))

  lies : AllByRecursion (λ w. Inside P T w.to) (format_writes P T N images)
  lies =
      let zero-in = inside-low P T 0 (inl refl) in
      let two-in = inside-low P T 2 (inr (inl refl)) in
      let four-in = inside-low P T 4 (inr (inr (inl refl))) in
      let six-in = inside-low P T 6 (inr (inr (inr refl))) in
      each-write (λ w. Inside P T w.to) zero-in two-in (λ i l. inside-log P T (4 + i) (omega arith) (omega arith))
      (each-home (λ w. Inside P T w.to) (inside-first P T) (inside-second P T) (four-in, (six-in, (zero-in, (two-in, tt)))))

  pub among-format : (u : ℕ) → Inside P T u → Among u (format_writes P T N images)
  among-format u h = elim (cases_lt u 4) [
    | inl below ↦ elim (cases_eq u 0) [ inl e ↦ inl e | inr n ↦ inr (inl (omega (arith, h.1, h.2))) ]
    | inr more ↦ inr (inr (elim (cases_lt u (8 + 3 * T)) [
      | inl log ↦ among-front u (zero_run 4 (4 + 3 * T)) home_writes (subst (λ (n : ℕ). Among n (zero_run 4 (4 + 3 * T))) (minus 4 u more) (among-zeros 4 (4 + 3 * T) (u - 4) (omega arith)))
      | inr home ↦ among-back u (zero_run 4 (4 + 3 * T)) home_writes (elim (cases_lt u (second_homes P T)) [
        | inl first ↦ among-front u (run_of (first_homes T) images) (run_of (second_homes P T) images ++ last_ones)
            (subst (λ (n : ℕ). Among n (run_of (first_homes T) images)) (minus (first_homes T) u home) (among-run (first_homes T) images (u - first_homes T) (omega (arith, h.3))))
        | inr second ↦ among-back u (run_of (first_homes T) images) (run_of (second_homes P T) images ++ last_ones) (among-front u (run_of (second_homes P T) images) last_ones
            (subst (λ (n : ℕ). Among n (run_of (second_homes P T) images)) (minus (second_homes P T) u second) (among-run (second_homes P T) images (u - second_homes P T) (omega (arith, h.0)))))
      ])
    ]))
  ]
    where
      minus : (a b : ℕ) → a ≤ b → a + (b - a) ≡ b
      minus a b l = omega arith

  zeros-calm : Calm (word_of P zeros)
  unfolding word_of zeros
  zeros-calm = tt

  pub image-calm : AllByRecursion Loggable images → (i : ℕ) → i < P → Calm (word_of P (get_or images i []))
  image-calm a i l = loggable-calm P (get_or images i []) (All-get_or Loggable images i [] l a)

  pub format-quiet : AllByRecursion Loggable images → AllByRecursion (Quiet P) (format_writes P T N images)
  format-quiet a =
      let anchors = anchor-calm P Zero 1 (omega arith) in
      let headers = header-calm P T N in
      each-write (Quiet P) zeros-calm zeros-calm (λ i l. zeros-calm) (each-home (Quiet P) (image-calm a) (image-calm a) (anchors, (anchors, (headers, (headers, tt)))))

pub format-lies : FormatLies
format-lies T N images = lies T N images
