-- Memory after a force is tied to the records that are live then.
--     now-as-changed      the images now are those as last forced, changed by the pages of the record
--     tied-after          so it is where the records that are kept are those of a table like the one before
use Rattle.std.proofs.Common.{◌≡◌, ℕ, ◌+◌, ◌<◌, Bool, true, false, cond, List, [], ◌∷◌, ◌++◌, length, map, Some, None, sym, refl, ap, ◌∙◌, subst, arith}
use Rattle.std.proofs.lemmas.Bool.{cond_both}
use Rattle.std.proofs.lemmas.List.{length-map, length_push}
use Rattle.forcing.specs.Force.{record_of, third_in}
use Rattle.forcing.specs.Places.{LogAfter, first_in}
use Rattle.forcing.specs.declared.place.LogPlace.{LogPlace}
use Rattle.frames.specs.Frames.{changed_pages, forced_of, now_of, settled}
use Rattle.frames.specs.declared.frame.Frame.{Frame}
use Rattle.geometry.specs.declared.third.Third.{Third}
use Rattle.journal.specs.Ties.{FirstNumbers, Tied}
use Rattle.journal.proofs.ChangedPages.{pages-image}
use Rattle.journal.proofs.FirstRecords.{final-place-push, final-third-push}
use Rattle.journal.proofs.Holders.{holder-push}
use Rattle.journal.proofs.SettledFrames.{Alike, changed_in, settled-forced, settled-now, settled-third}
use Rattle.thirds.specs.Words.{Calm, Images, word_of}
use Rattle.thirds.specs.Records.{Rec, start}
use Rattle.thirds.specs.Homes.{holder}
use Rattle.thirds.specs.Forces.{Changes, changed}

changed-if : (b : Bool) (x y : List ℕ) → changed (cond b (Some x) None) y ≡ cond b x y
changed-if true x y = refl
changed-if false x y = refl

module _ (P T : ℕ) (X : Images) (f : Third) (m : ℕ) (rs : List Rec) (log : LogPlace) (frames : List Frame) (tied : Tied P T X f m rs log frames) where
  abbrev made : Rec
  made = record_of T log frames

  -- where a page did not change its image is the one forced
  now-else-forced : (i : ℕ) → i < P → cond (changed_in frames i) (now_of frames i) (forced_of frames i) ≡ now_of frames i
  now-else-forced i l = cond_both (changed_in frames i) (now_of frames i) (forced_of frames i) (λ x. x ≡ now_of frames i) (λ e. refl) (λ e. sym (tied.same i l e))

  pub now-as-changed : Changes P X (changed_pages frames) (now_of frames)
  now-as-changed i l =
      sym (ap (λ o. changed o (X i)) (pages-image frames i)
      ∙ changed-if (changed_in frames i) (now_of frames i) (X i)
      ∙ ap (cond (changed_in frames i) (now_of frames i)) (sym (tied.forced i l))
      ∙ now-else-forced i l)

  pub tied-after : (f' : Third) (m' : ℕ) (kept : List Rec) (gs : List Frame) (log' : LogPlace)
      → m' + length kept ≡ m + length rs → Alike frames gs → ((i : ℕ) → i < P → third_in gs i ≡ holder kept i)
      → LogAfter T log (length (changed_pages frames)) log' → length log'.firsts ≡ 3 → log'.anchored ≡ f' → first_in f' log'.firsts ≡ m' → FirstNumbers (kept ++ made ∷ []) log'.firsts
      → Tied P T (now_of frames) f' m' (kept ++ made ∷ []) log' (map (settled made.third) gs) × ((i : ℕ) → i < P → now_of (map (settled made.third) gs) i ≡ now_of frames i)
  tied-after f' m' kept gs log' count alike thirds moved three anchored first firsts = (
    record {
      anchored = anchored;
      three = three;
      first = first;
      firsts = firsts;
      third = moved.third ∙ sym (final-third-push f' kept made);
      place = moved.place ∙ sym (final-place-push (start T f') kept made);
      next = omega (arith, moved.next, tied.next, count, length_push kept made);
      long = length-map gs (settled made.third) ∙ alike.long ∙ tied.long;
      thirds = λ i l. settled-third made.third gs i (in-gs i l)
          ∙ ap (λ b. cond b (Some made.third) (third_in gs i)) (alike.changed i (in-frames i l))
          ∙ ap (cond (changed_in frames i) (Some made.third)) (thirds i l)
          ∙ sym (holder-push kept made i (changed_in frames i) (now_of frames i) (pages-image frames i));
      forced = forced-after;
      same = λ i l e. now-after i l ∙ sym (forced-after i l);
      calm = λ i l. subst (λ (x : List ℕ). Calm (word_of P x)) (sym (now-after i l)) (tied.calm i l);
    },
    now-after,
  )
    where
      in-frames : (i : ℕ) → i < P → i < length frames
      in-frames i l = omega (arith, tied.long)

      in-gs : (i : ℕ) → i < P → i < length gs
      in-gs i l = omega (arith, tied.long, alike.long)

      now-after : (i : ℕ) → i < P → now_of (map (settled made.third) gs) i ≡ now_of frames i
      now-after i l = settled-now made.third gs i (in-gs i l) ∙ alike.now i (in-frames i l)

      forced-after : (i : ℕ) → i < P → forced_of (map (settled made.third) gs) i ≡ now_of frames i
      forced-after i l =
          settled-forced made.third gs i (in-gs i l)
          ∙ ap (λ b. cond b (now_of gs i) (forced_of gs i)) (alike.changed i (in-frames i l))
          ∙ ap (λ x. cond (changed_in frames i) x (forced_of gs i)) (alike.now i (in-frames i l))
          ∙ ap (cond (changed_in frames i) (now_of frames i)) (alike.forced i (in-frames i l))
          ∙ now-else-forced i l
