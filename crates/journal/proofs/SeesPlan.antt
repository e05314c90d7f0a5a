-- Recovery reads the plan of every volume that can be recovered.
--     one-log            the records that are found are those that the anchor shows
--     recovery-sees      the numbers, the images, the missing number and the writes
use Rattle.std.proofs.Common.{◌≡◌, ℕ, ◌+◌, ◌<◌, List, ◌++◌, Some, None, Option, sym, refl, ap, ◌∙◌, subst, inl, inr, arith}
use Rattle.disk.specs.Sectors.{Sector, count}
use Rattle.disk.specs.WriteLists.{Write}
use Rattle.frames.specs.Frames.{forced_of}
use Rattle.frames.specs.declared.frame.Frame.{Frame}
use Rattle.geometry.specs.Places.{first_homes, second_homes}
use Rattle.geometry.specs.declared.third.Third.{Third}
use Rattle.geometry.specs.declared.third.Third.TheVariants.{Zero}
use Rattle.journal.proofs.SameReads.{anchors-same, headers-same, image-same, log-same, mend-same}
use Rattle.journal.proofs.SeenNumbers.{number-small, numbers-seen}
use Rattle.journal.specs.Recoveries.{RecoverySees}
use Rattle.layout.specs.Anchors.{encode_anchor}
use Rattle.layout.specs.Headers.{encode_header}
use Rattle.recovering.specs.Copies.{written_of}
use Rattle.recovering.specs.Volumes.{Seen, seen_writes}
use Rattle.recovering.specs.declared.volume.SeenVolume.{SeenVolume}
use Rattle.thirds.proofs.Disks.{system-is}
use Rattle.thirds.proofs.SearchFinds.{search-is-one}
use Rattle.thirds.proofs.Settled.{chosen}
use Rattle.thirds.specs.Disks.{Inside, system}
use Rattle.thirds.specs.Homes.{Pictured, ReadImage, mend, newest, redo}
use Rattle.thirds.specs.Records.{Rec, start}
use Rattle.thirds.specs.Recovery.{AnchorWrites, HeaderWrites, both_anchors}
use Rattle.thirds.specs.Search.{Log}
use Rattle.thirds.specs.Volumes.{Down, Span, Within}
use Rattle.thirds.specs.Words.{Disk, Images, on}

-- What the anchor that counts shows, for the records that were found.
pub one-log : (P T N : ℕ) (W : Images) (h : Span) (σ : Disk) (f : Third) (m s : ℕ) (ws : List Write) (log : List Rec) → Down P T N W h σ → AnchorWrites P σ f m ws → Log P T σ f f (start T f) m log s
    → ((i : ℕ) → i < P → Pictured (newest log i) (σ (first_homes T + i)) (σ (second_homes P T + i)) (W i)) × Within h s
one-log P T N W h σ f m s ws log d a found =
    let (rs, n, z) = chosen P T N W h σ f m ws d a in
    let only = search-is-one P T σ f f (start T f) m s n log rs found z.found in (
      λ i l. subst (λ (qs : List Rec). Pictured (newest qs i) (σ (first_homes T + i)) (σ (second_homes P T + i)) (W i)) (sym only.0) (z.pictured i l),
      (omega (arith, only.1, z.within), omega (arith, only.1, z.within)),
    )

read-right : (o : Option (List ℕ)) (a b : Sector) (x w : List ℕ) → ReadImage o a b x → Pictured o a b w → x ≡ w
read-right (Some y) a b x w r p = r ∙ p
read-right None a b x w (inl r) (inl p, q) = cc
read-right None a b x w (inl r) (inr p, q) = cc
read-right None a b x w (inr (r, z)) (p, inl q) = cc
read-right None a b x w (inr (r, z)) (p, inr q) = cc

-- What was read, with the volume's own numbers.
record Read (σ : Disk) (N : ℕ) (v : SeenVolume) (frames : List Frame) (log : List Rec) (P T : ℕ) : Type 0 where
  headers : HeaderWrites P T N σ (written_of v.header.bad (encode_header v.header.value))
  anchors : AnchorWrites P σ v.anchor.value.third v.anchor.value.group (written_of v.anchor.bad (encode_anchor v.anchor.value))
  found : Log P T σ v.anchor.value.third v.anchor.value.third (start T v.anchor.value.third) v.anchor.value.group log v.missing
  images : (i : ℕ) → i < P → ReadImage (newest log i) (σ (first_homes T + i)) (σ (second_homes P T + i)) (forced_of frames i)
  writes : seen_writes σ v log (forced_of frames) ≡
      written_of v.header.bad (encode_header v.header.value) ++ (written_of v.anchor.bad (encode_anchor v.anchor.value)
      ++ ((mend σ (forced_of frames) (first_homes T) P ++ mend σ (forced_of frames) (second_homes P T) P)
      ++ (redo log (forced_of frames) (first_homes T) (second_homes P T) P ++ both_anchors Zero (v.missing + 1))))

read-seen : (σ : Disk) (N : ℕ) (v : SeenVolume) (frames : List Frame) (s : Seen σ N v frames) → Read σ N v frames s.log v.geometry.pages v.geometry.third
read-seen σ N v frames s = record { headers = s.headers; anchors = s.anchors; found = s.found; images = s.images; writes = refl }

pub recovery-sees : RecoverySees
recovery-sees P T W h d down v frames s =
    let σ = on d.sectors in
    let τ = system P T d.sectors in
    let same : (u : ℕ) → Inside P T u → τ u ≡ σ u = (λ u i. system-is P T u d.sectors i) in
    let N = count d in
    let X = forced_of frames in
    let log = s.log in
    let headers = headers-same P T σ τ same N v.geometry.pages v.geometry.third _ s.headers in
    let numbers = numbers-seen P T N v.geometry.pages v.geometry.third W h τ _ down headers in
    let r = subst (λ (p : ℕ). Read σ N v frames log p T) numbers.0
    (subst (λ (t : ℕ). Read σ N v frames log v.geometry.pages t) numbers.1 (read-seen σ N v frames s)) in
    let anchors = anchors-same P T σ τ same v.anchor.value.third v.anchor.value.group _ r.anchors in
    let found = log-same P T σ τ same v.anchor.value.third v.anchor.value.group v.missing log r.found in
    let images : (i : ℕ) → i < P → ReadImage (newest log i) (τ (first_homes T + i)) (τ (second_homes P T + i)) (X i) =
    (λ i l. image-same P T σ τ same (newest log i) (X i) i l (r.images i l)) in
    let shown = one-log P T N W h τ v.anchor.value.third v.anchor.value.group v.missing _ log down anchors found in
    record {
      pages = numbers.0;
      third = numbers.1;
      images = λ i l. read-right (newest log i) (τ (first_homes T + i)) (τ (second_homes P T + i)) (X i) (W i) (images i l) (shown.0 i l);
      within = shown.1;
      plan = λ lasts. record {
        numbers-last = lasts;
        first = v.anchor.value.third;
        number = v.anchor.value.group;
        anchor-small = number-small P T N W h τ v.anchor.value.third v.anchor.value.group _ down anchors;
        log = log;
        header-part = written_of v.header.bad (encode_header v.header.value);
        anchor-part = written_of v.anchor.bad (encode_anchor v.anchor.value);
        headers = headers-same P T σ τ same N P T _ r.headers;
        anchors = anchors;
        found = found;
        images = images;
        writes = r.writes
            ∙ ap (λ (ws : List Write). written_of v.header.bad (encode_header v.header.value) ++ (written_of v.anchor.bad (encode_anchor v.anchor.value)
            ++ (ws ++ (redo log X (first_homes T) (second_homes P T) P ++ both_anchors Zero (v.missing + 1))))) (mend-same P T σ τ same X);
      };
    }
