-- A marking disk over a sound disk is a sound disk.
use Rattle.std.specs.Prelude.{◌≡◌, ℕ, ◌<◌, List, length, Option, Some, None, slice_index_or}
use Rattle.std.proofs.Common.{arith, sym, ◌∙◌, refl, ⊎_elim}
use Rattle.std.proofs.lemmas.List.{length-set, get_or-set_other}
use Rattle.std.proofs.lemmas.Grind.{get_or-set_at}
use Rattle.std.proofs.lemmas.Bool.{cases_eq}
use Rattle.disk.specs.Sectors.{Sector, unreadable, holds, DiskState, Sound}
use Rattle.marking.specs.Marks.{hide}
use Rattle.marking.specs.Phases.{lost_in, seen}
use Rattle.marking.specs.declared.lost.Lost.{Lost}
use Rattle.failing.specs.declared.phase.Phase.{Phase}

pub length_hide : (mark : Option ℕ) (l : List Sector) → length (hide mark l) ≡ length l
length_hide None l = refl
length_hide (Some s) l = length-set l s unreadable

-- A sector that can be read is not marked.
pub hide-holds : (mark : Option ℕ) (l : List Sector) (s : ℕ) (bytes : List ℕ) → s < length l
    → slice_index_or (hide mark l) s unreadable ≡ holds bytes
    → slice_index_or l s unreadable ≡ holds bytes
hide-holds None l s bytes within is = is
hide-holds (Some t) l s bytes within is =
    ⊎_elim
    (λ (e : s ≡ t).
    let there : t < length l = omega arith in
    let gone = get_or-set_at l t s unreadable unreadable e there in
    let odd : unreadable ≡ holds bytes = sym gone ∙ is in
    cc)
    (λ ne. sym (get_or-set_other l t s unreadable unreadable ne) ∙ is)
    (cases_eq s t)

pub marking-sound : (phase : Phase Lost) (d : DiskState) → Sound d → Sound (seen phase d)
marking-sound phase d sound =
    let lost = lost_in phase in
    let long = length_hide lost.neighbour (hide lost.own d.sectors) ∙ length_hide lost.own d.sectors in
    record {
      few = omega (arith, sound.few, long);
      whole = λ s bytes at.
          let within : s < length d.sectors = omega (arith, at.exists, long) in
          let inner : s < length (hide lost.own d.sectors) = omega (arith, length_hide lost.own d.sectors) in
          sound.whole s bytes (record { exists = within; is = hide-holds lost.own d.sectors s bytes within (hide-holds lost.neighbour (hide lost.own d.sectors) s bytes inner at.is) });
    }
