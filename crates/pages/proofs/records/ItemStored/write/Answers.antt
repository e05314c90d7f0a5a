use Rattle.std.proofs.Common.{◌≡◌, ◌++◌, length, drop, ◌∙◌, ap₂, arith, length-take}
use Rattle.pages.proofs.Cursor.{last}
use Rattle.pages.proofs.records.ItemStored.write.Goals as goal

pub returns : goal.returns
returns c =
    let key = c.copy_from_slice.new.self in
    let number = c.copy_from_slice-2.new.self in
    let l : length key ≡ 22 = omega (arith, c.copy_from_slice.ensures.len, length-take 22 c.args.buf.now, c.requires) in
    last key (drop 22 c.args.buf.now) number 22 l ∙ ap₂ ◌++◌ c.copy_from_slice.ensures.after (c.copy_from_slice-2.ensures.after ∙ c.to_be_bytes.ensures)
