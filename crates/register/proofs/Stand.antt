-- What the register's calls rest on: pages against the plain list of entries.
--     put-stands, take-stands      what a change writes leaves a register, with one entry more or one fewer
--     fresh-stands                 the pages of a fresh volume are a register with no entries
use Rattle.std.proofs.Common.{◌≡◌, ℕ, ◌≤◌, true, false, List, [], length, Some, None, ap}
use Rattle.names.specs.Names.{is_byte_key}
use Rattle.names.specs.Orders.{before}
use Rattle.rows.specs.Lists.{insert, remove, look_up}
use Rattle.tree.specs.Tree.{entries}
use Rattle.pages.specs.Records.{EntryFit}
use Rattle.pages.specs.Writes.{imaged}
use Rattle.pages.specs.declared.records.Entry.{Entry}
use Rattle.register.specs.Images.{key_of, entries_of, is_full, put_writes, take_writes}
use Rattle.register.specs.Registers.{IsRegister}
use Rattle.register.specs.Fresh.{fresh_pages}
use Rattle.register.proofs.Trees.{tree-register}
use Rattle.register.proofs.Homes.{home-known}
use Rattle.register.proofs.PutRegister.{put-register}
use Rattle.register.proofs.TakeRegister.{take-register}
use Rattle.register.proofs.FreshPages.{fresh_tree, length-fresh, fresh-held, fresh-good}

pub put-stands : (P : ℕ) (e : Entry) (images : List (List ℕ)) → IsRegister P images → EntryFit e → is_byte_key e.key ≡ true
    → look_up key_of before e.key (entries_of images) ≡ None → is_full P images e.key ≡ false
    → IsRegister P (imaged (put_writes P e images) images) × (entries_of (imaged (put_writes P e images) images) ≡ insert key_of before e (entries_of images))
put-stands P e images r fit good fresh room = put-register P e images (home-known P images e.key r fit.0) r fit good fresh room

pub take-stands : (P : ℕ) (k : List ℕ) (x : Entry) (images : List (List ℕ)) → IsRegister P images → length k ≡ 22 → look_up key_of before k (entries_of images) ≡ Some x
    → IsRegister P (imaged (take_writes k images) images) × (entries_of (imaged (take_writes k images) images) ≡ remove key_of before k (entries_of images))
take-stands P k x images r long there = take-register P k images (home-known P images k r long) x there r

pub fresh-stands : (P : ℕ) → 2 ≤ P → P ≤ 21 → IsRegister P (fresh_pages P) × (entries_of (fresh_pages P) ≡ [])
fresh-stands P least most =
    let h = tree-register P (fresh_pages P) fresh_tree least most (length-fresh P) (fresh-held P least) (fresh-good P least) in
    (h.0, ap entries h.1)
