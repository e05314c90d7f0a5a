-- What is written of a volume, one part after the other.
--     stopped-header, stopped-anchor, stopped-mending, stopped-redoing       a part is stopped, those before it being done
--     volume-written                                                         the anchors are written, all before them being done
use Rattle.std.proofs.Common.{◌≡◌, ℕ, zero, suc, ◌+◌, ◌<◌, ◌≤◌, Bool, cond, List, [], ◌∷◌, ◌++◌, length, get_or, take, refl, ap, ap₂, ◌∙◌, subst, arith}
use Rattle.std.proofs.lemmas.List.{length-take-le, get_or-take}
use Rattle.disk.specs.Faults.{Answer}
use Rattle.disk.specs.Sectors.{DiskState}
use Rattle.disk.specs.WriteLists.{Write, Done, Stopped, Wrote}
use Rattle.disk.specs.declared.faults.Fault.{Fault}
use Rattle.forcing.proofs.Wrote.{stopped-early, stopped-late, wrote-append}
use Rattle.frames.specs.Frames.{none_held, forced_of}
use Rattle.frames.specs.declared.frame.Frame.{Frame}
use Rattle.geometry.specs.Places.{first_homes, second_homes}
use Rattle.geometry.specs.declared.third.Third.TheVariants.{Zero}
use Rattle.layout.specs.Anchors.{encode_anchor}
use Rattle.layout.specs.Headers.{encode_header}
use Rattle.recovering.specs.Copies.{written_of}
use Rattle.recovering.specs.Volumes.{Seen, LostAre, seen_writes}
use Rattle.recovering.specs.declared.volume.SeenVolume.{SeenVolume}
use Rattle.thirds.specs.Cuts.{write}
use Rattle.thirds.specs.Homes.{lost, mend, both_homes, redo, holder}
use Rattle.thirds.specs.Recovery.{both_anchors}
use Rattle.thirds.specs.Words.{Disk, Images}

-- The same images give the same writes.
mend-same : (σ : Disk) (X Y : Images) (base n : ℕ) → ((i : ℕ) → i < n → X i ≡ Y i) → mend σ X base n ≡ mend σ Y base n
mend-same σ X Y base zero same = refl
mend-same σ X Y base (suc n) same =
    ap₂ (λ (ws vs : List Write). ws ++ vs) (mend-same σ X Y base n (λ i l. same i (omega arith))) (ap (lost (σ (base + n)) (base + n)) (same n (omega arith)))

both-same : (test : ℕ → Bool) (X Y : Images) (a b n : ℕ) → ((i : ℕ) → i < n → X i ≡ Y i) → both_homes test X a b n ≡ both_homes test Y a b n
both-same test X Y a b zero same = refl
both-same test X Y a b (suc n) same =
    ap₂ (λ (ws vs : List Write). ws ++ vs) (both-same test X Y a b n (λ i l. same i (omega arith)))
    (ap (λ (x : List ℕ). cond (test n) (write (a + n) x ∷ write (b + n) x ∷ []) []) (same n (omega arith)))

-- a and b are where the homes of the two sides begin.
module _ (σ : Disk) (N : ℕ) (v : SeenVolume) (frames : List Frame) (it : Seen σ N v frames) (few : v.geometry.pages ≤ length frames)
    (a b : ℕ) (at : a ≡ first_homes v.geometry.third) (again : b ≡ second_homes v.geometry.pages v.geometry.third) where
  abbrev pages : List Frame
  pages = take v.geometry.pages frames

  abbrev header-part : List Write
  header-part = written_of v.header.bad (encode_header v.header.value)

  abbrev anchor-part : List Write
  anchor-part = written_of v.anchor.bad (encode_anchor v.anchor.value)

  abbrev mending : List Write
  mending = mend σ (forced_of frames) (first_homes v.geometry.third) v.geometry.pages ++ mend σ (forced_of frames) (second_homes v.geometry.pages v.geometry.third) v.geometry.pages

  abbrev redoing : List Write
  redoing = redo it.log (forced_of frames) (first_homes v.geometry.third) (second_homes v.geometry.pages v.geometry.third) v.geometry.pages

  abbrev last : List Write
  last = both_anchors Zero (v.missing + 1)

  abbrev all : List Write
  all = seen_writes σ v it.log (forced_of frames)

  long : length pages ≡ v.geometry.pages
  long = length-take-le v.geometry.pages frames few

  forced : (i : ℕ) → i < v.geometry.pages → forced_of pages i ≡ forced_of frames i
  forced i l = ap (λ (f : Frame). f.forced) (get_or-take v.geometry.pages frames i none_held l)

  -- What is asked of the homes' writes, and what they are.
  marks : LostAre σ v.lost a b (length pages)
  marks i l = rw (at, again) (it.first i (omega (arith, long)), it.second i (omega (arith, long)))

  thirds : (i : ℕ) → i < length pages → (get_or pages i none_held).third ≡ holder it.log i
  thirds i l = let l' : i < v.geometry.pages = omega (arith, long) in ap (λ (f : Frame). f.third) (get_or-take v.geometry.pages frames i none_held l') ∙ it.thirds i l'

  mending-is : mend σ (forced_of pages) a (length pages) ++ mend σ (forced_of pages) b (length pages) ≡ mending
  mending-is = rw (long, at, again) (ap₂ (λ (ws vs : List Write). ws ++ vs) (mend-same σ _ _ _ _ forced) (mend-same σ _ _ _ _ forced))

  redoing-is : redo it.log (forced_of pages) a b (length pages) ≡ redoing
  redoing-is = rw (long, at, again) (both-same _ _ _ _ _ _ forced)

  module _ (d : DiskState) where
    pub stopped-header : (x : Fault) (e : DiskState) → Stopped header-part d x e → Stopped all d x e
    stopped-header x e s = stopped-early header-part _ d x e s

    module _ (m : DiskState) (one : Done header-part d m) where
      pub stopped-anchor : (x : Fault) (e : DiskState) → Stopped anchor-part m x e → Stopped all d x e
      stopped-anchor x e s = stopped-late header-part _ d m x e one (stopped-early anchor-part _ m x e s)

      module _ (n : DiskState) (two : Done anchor-part m n) where
        pub stopped-mending : (x : Fault) (e : DiskState)
            → (LostAre σ v.lost a b (length pages) → Stopped (mend σ (forced_of pages) a (length pages) ++ mend σ (forced_of pages) b (length pages)) n x e)
            → Stopped all d x e
        stopped-mending x e s =
            let stopped = subst (λ (ws : List Write). Stopped ws n x e) mending-is (s marks) in
            stopped-late header-part _ d m x e one (stopped-late anchor-part _ m n x e two (stopped-early mending (redoing ++ last) n x e stopped))

        module _ (o : DiskState) (three : LostAre σ v.lost a b (length pages) → Done (mend σ (forced_of pages) a (length pages) ++ mend σ (forced_of pages) b (length pages)) n o) where
          mended : Done mending n o
          mended = subst (λ (ws : List Write). Done ws n o) mending-is (three marks)

          pub stopped-redoing : (x : Fault) (e : DiskState)
              → (((i : ℕ) → i < length pages → (get_or pages i none_held).third ≡ holder it.log i) → Stopped (redo it.log (forced_of pages) a b (length pages)) o x e)
              → Stopped all d x e
          stopped-redoing x e s =
              let stopped = subst (λ (ws : List Write). Stopped ws o x e) redoing-is (s thirds) in
              stopped-late header-part _ d m x e one (stopped-late anchor-part _ m n x e two (stopped-late mending _ n o x e mended (stopped-early redoing last o x e stopped)))

          pub volume-written : (p : DiskState) → (((i : ℕ) → i < length pages → (get_or pages i none_held).third ≡ holder it.log i) → Done (redo it.log (forced_of pages) a b (length pages)) o p)
              → (next : ℕ) → next ≡ v.missing + 1 → (r : Answer) (e : DiskState) → Wrote (both_anchors Zero next) p r e
              → Wrote all d r e
          volume-written p four next is r e s =
              let redone = subst (λ (ws : List Write). Done ws o p) redoing-is (four thirds) in
              let anchors = subst (λ (k : ℕ). Wrote (both_anchors Zero k) p r e) is s in
              wrote-append header-part _ d m e r one (wrote-append anchor-part _ m n e r two (wrote-append mending _ n o e r mended (wrote-append redoing last o p e r redone anchors)))
