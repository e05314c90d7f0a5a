-- Recovery refuses a volume that can be recovered for no reason but that the power failed.
--     never-none         a header and an anchor are there
--     each-image         and each page has an image
--     recovery-finds     so no other refusal is ever answered
use Rattle.std.proofs.Common.{◌≡◌, ℕ, ◌+◌, ◌<◌, false, ◌⊎◌, List, Some, None, Option, Err, sym, refl, ap, ◌∙◌, subst, inl, inr}
use Rattle.disk.specs.Sectors.{Sector, count, unreadable}
use Rattle.disk.specs.WriteLists.{Write}
use Rattle.geometry.specs.Places.{first_homes, second_homes}
use Rattle.geometry.specs.declared.third.Third.{Third}
use Rattle.journal.proofs.SameReads.{anchors-same, headers-same, image-back, inside-low, log-same, no-anchor-same}
use Rattle.journal.proofs.SeenNumbers.{numbers-seen}
use Rattle.journal.proofs.SeesPlan.{one-log}
use Rattle.journal.specs.Recoveries.{RecoveryFinds}
use Rattle.recovering.specs.Volumes.{Lacks, NoPage, VolumeSeen}
use Rattle.refusal.specs.declared.Refusal.{Refusal}
use Rattle.refusal.specs.declared.Refusal.TheVariants.{VolumeDown, BadName, TooLong, VersionAbove, RegisterFull, NoRun, NoSuchFile, BufferShort, PowerOff, Unreadable, LeaderDiffers, NoVolume, RegisterBroken, NumbersUsedUp, BadNumbers, NoSuchSector, VolumeUp}
use Rattle.thirds.proofs.Disks.{system-is}
use Rattle.thirds.proofs.Plans.{never-lacks}
use Rattle.thirds.specs.Disks.{Inside, system}
use Rattle.thirds.specs.Homes.{Pictured, ReadImage, newest}
use Rattle.thirds.specs.Records.{Rec, start}
use Rattle.thirds.specs.Recovery.{AnchorWrites, NoAnchor}
use Rattle.thirds.specs.Search.{Log}
use Rattle.thirds.specs.Volumes.{Down, Span, header_in}
use Rattle.thirds.specs.Words.{Disk, Images, on}

image-there : (o : Option (List ℕ)) (a b : Sector) (x : List ℕ) → Pictured o a b x → (a ≡ unreadable → ⊥) ⊎ (b ≡ unreadable → ⊥) → ReadImage o a b x
image-there (Some y) a b x p e = sym p
image-there None a b x (inr p, q) e = inl p
image-there None a b x (inl p, inr q) e = inr (p, q)
image-there None a b x (inl p, inl q) (inl n) = absurd (n p)
image-there None a b x (inl p, inl q) (inr n) = absurd (n q)

module _ (P T N : ℕ) (W : Images) (h : Span) (σ τ : Disk) (same : (s : ℕ) → Inside P T s → τ s ≡ σ s) (down : Down P T N W h τ) where
  none-read : NoAnchor P (σ 4) → NoAnchor P (σ 6) → ⊥
  none-read a b = (never-lacks P T N W h τ down).some-anchor
      (no-anchor-same P (same 4 (inside-low P T 4 (inr (inr (inl refl))))) a)
      (no-anchor-same P (same 6 (inside-low P T 6 (inr (inr (inr refl))))) b)

  pub never-none : Lacks σ N → ⊥
  never-none (inl (a, b)) = (never-lacks P T N W h τ down).some-header
      (ap (header_in N) (same 0 (inside-low P T 0 (inl refl))) ∙ a)
      (ap (header_in N) (same 2 (inside-low P T 2 (inr (inl refl)))) ∙ b)
  never-none (inr (p, t, ws, headers, a, b)) =
      let numbers = numbers-seen P T N p t W h τ ws down (headers-same P T σ τ same N p t ws headers) in
      none-read (subst (λ (n : ℕ). NoAnchor n (σ 4)) numbers.0 a) (subst (λ (n : ℕ). NoAnchor n (σ 6)) numbers.0 b)

  -- what was read from the anchor that counts
  record Lost (page : ℕ) (f : Third) (m s : ℕ) (log : List Rec) (p t : ℕ) : Type 0 where
    anchors : (ws : List Write) × AnchorWrites p σ f m ws
    found : Log p t σ f f (start t f) m log s
    exists : page < p
    none : (x : List ℕ) → ReadImage (newest log page) (σ (first_homes t + page)) (σ (second_homes p t + page)) x → ⊥

  never-lost : (page : ℕ) (f : Third) (m s : ℕ) (log : List Rec) → Lost page f m s log P T → ⊥
  never-lost page f m s log l =
      let shown = one-log P T N W h τ f m s l.anchors.0 log down (anchors-same P T σ τ same f m l.anchors.0 l.anchors.1) (log-same P T σ τ same f m s log l.found) in
      l.none (W page) (image-back P T σ τ same (newest log page) (W page) page l.exists
      (image-there (newest log page) (τ (first_homes T + page)) (τ (second_homes P T + page)) (W page) (shown.0 page l.exists)
      (elim down.sides [ inl a ↦ inl (a page l.exists) | inr b ↦ inr (b page l.exists) ])))

  pub each-image : (page : ℕ) → NoPage σ N page → ⊥
  each-image page n =
      let numbers = numbers-seen P T N n.pages n.third W h τ n.headers.0 down (headers-same P T σ τ same N n.pages n.third n.headers.0 n.headers.1) in
      let lost : Lost page n.first n.number n.missing n.log n.pages n.third = record { anchors = n.anchors; found = n.found; exists = n.exists; none = n.none } in
      never-lost page n.first n.number n.missing n.log
      (subst (λ (p : ℕ). Lost page n.first n.number n.missing n.log p T) numbers.0 (subst (λ (t : ℕ). Lost page n.first n.number n.missing n.log n.pages t) numbers.1 lost))

pub recovery-finds : RecoveryFinds
recovery-finds P T W h d e x frames down = by x
  where
    same : (u : ℕ) → Inside P T u → system P T d.sectors u ≡ on d.sectors u
    same u i = system-is P T u d.sectors i

    by : (y : Refusal) → VolumeSeen d (Err y) e frames → ((p : ℕ) × (y ≡ PowerOff p)) × (e.power ≡ false) × (e.sectors ≡ d.sectors)
    by (PowerOff s) z = ((s, refl), z.0, z.1)
    by NoVolume z = absurd (never-none P T (count d) W h (on d.sectors) (system P T d.sectors) same down z.2)
    by (RegisterBroken page) z = absurd (each-image P T (count d) W h (on d.sectors) (system P T d.sectors) same down page z.2)
    by VolumeDown z = absurd z
    by BadName z = absurd z
    by TooLong z = absurd z
    by VersionAbove z = absurd z
    by RegisterFull z = absurd z
    by NoRun z = absurd z
    by NoSuchFile z = absurd z
    by BufferShort z = absurd z
    by (Unreadable s) z = absurd z
    by (LeaderDiffers s) z = absurd z
    by NumbersUsedUp z = absurd z
    by BadNumbers z = absurd z
    by NoSuchSector z = absurd z
    by VolumeUp z = absurd z
