use Rattle.std.proofs.Common.{◌+◌, ◌-◌, List, ℕ, set, sym, ap, ◌∙◌, subst, arith}
use Rattle.disk.specs.Sectors.{Bytes}
use borrow.Rule.Slice.PartMut.{put_mid}
use Rattle.image.specs.Images.{sector_in}
use Rattle.image.specs.ImageSound.{length-sectors}
use Rattle.image.proofs.OneSector.{Beside, one-changed, same-layers}
use Rattle.image.proofs.Stored.{put_mid-written, written-beside, written-is}
use Rattle.image.proofs.ImageDisk.write.Goals as goal

pub returns : goal.returns
returns c =
    let b = c.args.self.now.bytes.now in
    let s = c.args.sector in
    let at = c.in_ok-at.at in
    let n = length-sectors b in
    let on = c.in_ok-at.ensures.0 in
    let w = c.in_ok-at.ensures.1 in
    let ys = c.args.bytes.now in
    let whole : Bytes ys = record { long = c.told-bytes; small = c.fits-bytes } in
    let is = ap (λ l. put_mid (at + 1) (at + 513 - (at + 1)) (set b at 0) l) c.copy_from_slice.ensures.after
    ∙ put_mid-written b ys s whole w at (at + 513 - (at + 1)) c.in_ok-at.ensures.2 (omega arith) in
    let beside = subst (λ (l : List ℕ). Beside b l s) (sym is) (written-beside b ys s whole w) in
    record {
      rule = (on, omega arith, on, one-changed b _ s beside _ w (ap (λ l. sector_in l s) is ∙ written-is b ys s whole w));
      same = same-layers b _ s beside c.args.self.now.bytes.ghost_name w;
      bytes = is;
    }
