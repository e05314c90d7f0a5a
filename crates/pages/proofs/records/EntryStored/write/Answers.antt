use Rattle.std.proofs.Common.{◌≡◌, ◌++◌, ◌-◌, length, drop, ap, ◌∙◌, ap₂, arith, length-append, length-take}
use borrow.Rule.Slice.PartMut.{put_mid}
use Rattle.pages.proofs.Cursor.{next, last}
use Rattle.pages.proofs.records.EntryStored.write.Goals as goal

pub returns : goal.returns
returns c =
    let key = c.copy_from_slice.new.self in
    let start = c.copy_from_slice-2.new.self in
    let size = c.copy_from_slice-3.new.self in
    let zeros = c.copy_from_slice-4.new.self in
    let rest = drop 22 c.args.buf.now in
    let is_start = c.copy_from_slice-2.ensures.after ∙ c.to_be_bytes.ensures in
    let is_size = c.copy_from_slice-3.ensures.after ∙ c.to_be_bytes-2.ensures in
    let l : length key ≡ 22 = omega (arith, c.copy_from_slice.ensures.len, length-take 22 c.args.buf.now, c.requires) in
    let m : length (key ++ start) ≡ 26 = omega (arith, length-append key start, l, ap length is_start) in
    let n : length ((key ++ start) ++ size) ≡ 30 = omega (arith, length-append (key ++ start) size, m, ap length is_size) in
    let two = ap (λ xs. put_mid 26 4 xs size) (next key rest start 22 4 l) ∙ next (key ++ start) (drop 4 rest) size 26 4 m in
    ap (λ xs. put_mid 30 (length xs - 30) xs zeros) two ∙ last ((key ++ start) ++ size) (drop 4 (drop 4 rest)) zeros 30 n
    ∙ ap₂ ◌++◌ (ap₂ ◌++◌ (ap₂ ◌++◌ c.copy_from_slice.ensures.after is_start) is_size) c.copy_from_slice-4.ensures.after
