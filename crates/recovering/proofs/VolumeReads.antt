-- What recovery has read, put together.
--     pages-seen           log and homes, read one after the other
--     pages-broken         a page that has no image then
--     log-off              why the log could not be read
--     homes-off            why the homes could not
--     volume-off           why a read of a volume answered 9
--     volume-lacks         there is no anchor
--     volume-refused       the pages could not be read
--     volume-seen          all was read
use Rattle.std.proofs.Common.{◌≡◌, ℕ, ◌<◌, ◌≤◌, true, false, List, ◌++◌, length, get_or, Some, None, Option, Ok, Err, sym, refl, ap, ◌∙◌, subst, inl, inr, arith}
use Rattle.std.proofs.lemmas.List.{get_or_append_left}
use Rattle.disk.specs.Faults.{refusal_of}
use Rattle.disk.specs.Rules.{read-was-off, read-failed}
use Rattle.disk.specs.Sectors.{Sector, unreadable, holds, DiskState, count}
use Rattle.disk.specs.declared.faults.Fault.{Fault}
use Rattle.disk.specs.declared.faults.Fault.TheVariants.{PowerOff, Unreadable, NoSuchSector}
use Rattle.frames.specs.Frames.{none_held}
use Rattle.frames.specs.declared.frame.Frame.{Frame}
use Rattle.geometry.specs.declared.third.Third.{Third}
use Rattle.layout.specs.Anchors.{encode_anchor}
use Rattle.layout.specs.Headers.{encode_header}
use Rattle.layout.specs.declared.anchor.Anchor.{Anchor}
use Rattle.layout.specs.declared.header.Header.{Header}
use Rattle.recovering.proofs.Held.{some_third, newest-held}
use Rattle.recovering.specs.Copies.{written_of}
use Rattle.recovering.specs.HomeReads.{recorded, AllRead, FirstWithNone, HomesRead}
use Rattle.recovering.specs.Volumes.{PagesSeen, PagesRead, FirstUnread, Lacks, VolumeSeen}
use Rattle.recovering.specs.declared.homes.LostHomes.{LostHomes}
use Rattle.recovering.specs.declared.twins.Twin.{Twin}
use Rattle.recovering.specs.declared.volume.SeenVolume.{SeenVolume}
use Rattle.refusal.specs.declared.Refusal.{Refusal}
use Rattle.refusal.specs.declared.Refusal.TheVariants as refusal
use Rattle.refusal.specs.declared.Refusal.TheVariants.{RegisterBroken}
use Rattle.searching.specs.Looks.{ReadBetween}
use Rattle.searching.specs.LogReads.{kept, TakesIn, LogRead}
use Rattle.thirds.specs.Homes.{newest, holder, has, ReadImage}
use Rattle.thirds.specs.Recovery.{HeaderWrites, NoAnchor, AnchorWrites}
use Rattle.thirds.specs.Records.{start, Rec}
use Rattle.thirds.specs.Search.{Log}
use Rattle.thirds.specs.Words.{on}

-- What a frame that no record filled before holds after the log was read.
kept-recorded : (n : Option (List ℕ)) (h : Option Third) (f : Frame) → has n ≡ some_third h → f.third ≡ None → recorded (kept n h f) ≡ n
kept-recorded None h f e none = rw none refl
kept-recorded (Some x) (Some k) f e none = refl
kept-recorded (Some x) None f e none = cc

kept-third : (n : Option (List ℕ)) (h : Option Third) (f : Frame) → has n ≡ some_third h → f.third ≡ None → (kept n h f).third ≡ h
kept-third None None f e none = none
kept-third None (Some k) f e none = cc
kept-third (Some x) h f e none = refl

module _ (P T : ℕ) (d : DiskState) (f : Third) (m s : ℕ) (log : List Rec) (blank filled : List Frame)
    (long : length blank ≡ P) (blanks : (i : ℕ) → i < P → (get_or blank i none_held).third ≡ None)
    (found : Log P T (on d.sectors) f f (start T f) m log s) (taken : TakesIn log blank filled) where
  is-recorded : (i : ℕ) → i < P → recorded (get_or filled i none_held) ≡ newest log i
  is-recorded i l = ap recorded (taken.each i (omega arith)) ∙ kept-recorded (newest log i) (holder log i) (get_or blank i none_held) (newest-held log i) (blanks i l)

  is-held : (i : ℕ) → i < P → (get_or filled i none_held).third ≡ holder log i
  is-held i l = ap (λ (x : Frame). x.third) (taken.each i (omega arith)) ∙ kept-third (newest log i) (holder log i) (get_or blank i none_held) (newest-held log i) (blanks i l)

  pub pages-seen : (d1 : DiskState) (lost : LostHomes) (later : List Frame) → d1 ≡ d → AllRead P T d1 filled lost later → PagesSeen P T (on d.sectors) f m s lost later
  pages-seen d1 lost later is all = let read = subst (λ (z : DiskState). AllRead P T z filled lost later) is all in record {
    log = log;
    found = found;
    images = λ i l. (let r = read.each i l in rw (← is-recorded i l) r.image);
    thirds = λ i l. (read.each i l).third ∙ is-held i l;
    same = λ i l. ((read.each i l).now, (read.each i l).same);
    first = read.first;
    second = read.second;
  }

  there : (o : Option (List ℕ)) (a b : Sector) → (o ≡ None → a ≡ unreadable → b ≡ unreadable → ⊥) → (x : List ℕ) × ReadImage o a b x
  there (Some y) a b none = (y, refl)
  there None (holds x) b none = (x, inl refl)
  there None unreadable (holds x) none = (x, inr (refl, refl))
  there None unreadable unreadable none = absurd (none refl refl refl)

  nowhere : (o : Option (List ℕ)) (a b : Sector) (x : List ℕ) → o ≡ None → a ≡ unreadable → b ≡ unreadable → ReadImage o a b x → ⊥
  nowhere (Some y) a b x e p q r = cc
  nowhere None a b x e p q (inl r) = let z : holds x ≡ unreadable = sym r ∙ p in cc
  nowhere None a b x e p q (inr r) = let z : holds x ≡ unreadable = sym r.1 ∙ q in cc

  pub pages-broken : (page : ℕ) → FirstWithNone P T d filled page → FirstUnread P T (on d.sectors) log page
  pages-broken page broken = record {
    none = λ x r. nowhere _ _ _ x (sym (is-recorded page broken.page-exists) ∙ broken.none.0) broken.none.1 broken.none.2 r;
    before = λ i l. there _ _ _ (λ e p q. broken.before i l (is-recorded i (omega (arith, broken.page-exists)) ∙ e, p, q));
  }

pub log-off : (P T : ℕ) (f : Third) (m : ℕ) (d : DiskState) (frames : List Frame) (x : Fault) (e : DiskState) (later all : List Frame) → 1 ≤ P → LogRead P T f m d frames (Err x) e later
    → PagesRead P T f m d (Err (refusal_of x)) e all
log-off P T f m d frames (PowerOff p) e later all l r = (r.0.0, r.0.1, omega (arith, r.0.2), r.0.3)
log-off P T f m d frames (Unreadable p) e later all l r = absurd r.0.3
log-off P T f m d frames NoSuchSector e later all l r = absurd r.0.3

pub homes-off : (P T : ℕ) (f : Third) (m s : ℕ) (d : DiskState) (log : List Rec) (blank filled : List Frame)
    → length blank ≡ P → ((i : ℕ) → i < P → (get_or blank i none_held).third ≡ None)
    → Log P T (on d.sectors) f f (start T f) m log s → TakesIn log blank filled
    → (d1 : DiskState) (x : Refusal) (e : DiskState) (later : List Frame) → d1 ≡ d → HomesRead P T d1 filled (Err x) e later
    → PagesRead P T f m d (Err x) e later
homes-off P T f m s d log blank filled long blanks found taken d1 x e later is r = by-refusal x (subst (λ (z : DiskState). HomesRead P T z filled (Err x) e later) is r)
  where
    by-refusal : (x : Refusal) → HomesRead P T d filled (Err x) e later → PagesRead P T f m d (Err x) e later
    by-refusal (RegisterBroken page) r = (r.0, r.1.page-exists, (log, s, found, pages-broken P T d f m s log blank filled long blanks found taken page r.1))
    by-refusal (refusal.PowerOff p) r = (r.0.0, omega (arith, r.0.1), omega (arith, r.0.2), r.0.3)
    by-refusal x r = absurd r

module _ (d d1 : DiskState) (power : d1.power ≡ true) (same : d1.sectors ≡ d.sectors) where
  pub volume-off : (lo hi : ℕ) (x : Fault) (e : DiskState) (frames : List Frame) → hi ≤ 6 → ReadBetween lo hi d1 x e → VolumeSeen d (Err (refusal_of x)) e frames
  volume-off lo hi (PowerOff p) e frames low r = elim r.3.1 [
    | read-was-off off is ↦ (let z : true ≡ false = sym power ∙ off in cc)
    | read-failed was bytes at off is ↦ (off, is ∙ same, inl (omega (arith, low, r.1, r.3.0)))
  ]
  volume-off lo hi (Unreadable p) e frames low r = absurd r.3
  volume-off lo hi NoSuchSector e frames low r = absurd r.3

  module _ (P T : ℕ) (t : Twin Header) (p : P ≡ t.value.pages) (q : T ≡ t.value.third) (n : t.value.sectors ≡ count d1)
      (w : HeaderWrites t.value.pages t.value.third t.value.sectors (on d1.sectors) (written_of t.bad (encode_header t.value))) where
    volume-headers : HeaderWrites P T (count d) (on d.sectors) (written_of t.bad (encode_header t.value))
    volume-headers = rw (p, q, ← same, ← n) w

    pub volume-lacks : NoAnchor P (on d1.sectors 4) → NoAnchor P (on d1.sectors 6) → Lacks (on d.sectors) (count d)
    volume-lacks a b = inr (P, T, written_of t.bad (encode_header t.value), volume-headers, rw (← same) a, rw (← same) b)

    module _ (a : Twin Anchor) (v : AnchorWrites P (on d1.sectors) a.value.third a.value.group (written_of a.bad (encode_anchor a.value))) where
      anchors : AnchorWrites P (on d.sectors) a.value.third a.value.group (written_of a.bad (encode_anchor a.value))
      anchors = rw (← same) v

      by-refusal : (x : Refusal) (e : DiskState) (frames later : List Frame) → PagesRead P T a.value.third a.value.group d1 (Err x) e later → VolumeSeen d (Err x) e frames
      by-refusal (RegisterBroken page) e frames later r =
          let unread = rw same at r.2.3 in (
            ap (λ (z : DiskState). z.power) r.0 ∙ power,
            ap (λ (z : DiskState). z.sectors) r.0 ∙ same,
            record {
              pages = P;
              third = T;
              headers = (written_of t.bad (encode_header t.value), volume-headers);
              first = a.value.third;
              number = a.value.group;
              anchors = (written_of a.bad (encode_anchor a.value), anchors);
              log = r.2.0;
              missing = r.2.1;
              found = rw (← same) r.2.2;
              exists = r.1;
              none = unread.none;
              before = unread.before;
            },
          )
      by-refusal (refusal.PowerOff p) e frames later r = elim r.3.1 [
        | read-was-off off is ↦ (let z : true ≡ false = sym power ∙ off in cc)
        | read-failed was bytes at off is ↦ (off, is ∙ same, inr (P, T, written_of t.bad (encode_header t.value), volume-headers, omega (arith, r.0), omega (arith, r.1)))
      ]
      by-refusal x e frames later r = absurd r

      pub volume-refused : (d3 : DiskState) (x : Refusal) (e : DiskState) (frames later : List Frame) → d3 ≡ d1 → PagesRead P T a.value.third a.value.group d3 (Err x) e later → VolumeSeen d (Err x) e frames
      volume-refused d3 x e frames later is r = by-refusal x e frames later (subst (λ (z : DiskState). PagesRead P T a.value.third a.value.group z (Err x) e later) is r)

pub volume-seen : (d d1 : DiskState) → d1.power ≡ true → d1.sectors ≡ d.sectors
    → (v : SeenVolume) → v.geometry.pages ≡ v.header.value.pages → v.geometry.third ≡ v.header.value.third → v.geometry.sectors ≡ v.header.value.sectors
    → v.header.value.sectors ≡ count d1
    → HeaderWrites v.header.value.pages v.header.value.third v.header.value.sectors (on d1.sectors) (written_of v.header.bad (encode_header v.header.value))
    → AnchorWrites v.geometry.pages (on d1.sectors) v.anchor.value.third v.anchor.value.group (written_of v.anchor.bad (encode_anchor v.anchor.value))
    → (d3 e : DiskState) → d3 ≡ d1 → e ≡ d3
    → (later rest : List Frame) → length later ≡ v.geometry.pages
    → PagesSeen v.geometry.pages v.geometry.third (on d3.sectors) v.anchor.value.third v.anchor.value.group v.missing v.lost later
    → VolumeSeen d (Ok v) e (later ++ rest)
volume-seen d d1 power same v p q s n w a d3 e was now later rest long seen =
    let is = now ∙ was in
    let σ-is = ap (λ (z : DiskState). z.sectors) was ∙ same in
    let it = subst (λ (l : List Sector). PagesSeen v.geometry.pages v.geometry.third (on l) v.anchor.value.third v.anchor.value.group v.missing v.lost later) σ-is seen in
    let front : (i : ℕ) → i < v.geometry.pages → get_or (later ++ rest) i none_held ≡ get_or later i none_held = λ i l. get_or_append_left later rest none_held i (omega arith) in
    let count-is = n ∙ ap length same in (
      ap (λ (z : DiskState). z.power) is ∙ power,
      ap (λ (z : DiskState). z.sectors) is ∙ same,
      record {
        log = it.log;
        sectors = count-is;
        numbers = (p, q, s ∙ count-is);
        headers = volume-headers d d1 power same v.geometry.pages v.geometry.third v.header p q n w;
        anchors = rw (← same) a;
        found = it.found;
        images = λ i l. (let bytes = ap (λ (x : Frame). x.forced) (front i l) in rw bytes (it.images i l));
        thirds = λ i l. ap (λ (x : Frame). x.third) (front i l) ∙ it.thirds i l;
        same = λ i l.
            (ap (λ (x : Frame). x.now) (front i l) ∙ (it.same i l).0 ∙ sym (ap (λ (x : Frame). x.forced) (front i l)), ap (λ (x : Frame). x.changed) (front i l) ∙ (it.same i l).1);
        first = it.first;
        second = it.second;
      },
    )
