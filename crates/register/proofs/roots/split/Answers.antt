use Rattle.std.proofs.Common.{◌+◌, ◌-◌, length, get_or, take, drop, ap, ◌∙◌, arith}
use Rattle.std.proofs.lemmas.List.{take_all, length-drop}
use Rattle.rows.specs.Lists.{put_at}
use Rattle.tree.specs.Tree.{lowest}
use Rattle.pages.specs.Writes.{wrote}
use Rattle.register.specs.Images.{item, no_entry, split_writes, pages_of}
use Rattle.register.proofs.RootPages.{split-made}
use Rattle.register.proofs.roots.split.Goals as goal

pub returns : goal.returns
returns g c =
    let s = c.args.seat in
    let q = c.lowest_free-page.result in
    let out = c.as_slice-entries.result.now in
    let read = c.as_slice-entries.ensures.records in
    let w = g.P.Paged.written in
    split-made w c.args.pages.now c.write_records.new.pages c.write_records-2.new.pages c.write_records-3.new.pages s.items c.as_slice-2.result.now s.leaf (take 8 out) (take 8 (drop 8 out)) s.at s.page q
    c.write_records.ensures (ap (take 8) read) c.write_records-2.ensures (take_all 8 (drop 8 out) (simp length-drop (omega (arith, ap length read))) ∙ ap (drop 8) read) c.write_records-3.ensures
    (c.as_slice-2.ensures.records ∙ c.put_in.ensures ∙ ap (λ es. put_at s.items (s.at + 1) (item (get_or es 8 no_entry).key q)) read)
    ∙ ap (λ q. wrote w (split_writes s.at s.page q s.items s.leaf) c.args.pages.now) (c.lowest_free-page.ensures ∙ ap (λ is. lowest (length c.args.pages.now - 1) 1 (pages_of is)) c.as_slice.ensures.records)
