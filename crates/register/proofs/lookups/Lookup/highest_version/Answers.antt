use Rattle.std.proofs.Common.{◌≡◌, map, length, sym, ap, ◌∙◌, rules, arith}
use Rattle.std.proofs.lemmas.Bool.Decides.{nat_tests}
use Rattle.names.specs.declared.name.Name.{Name}
use Rattle.register.specs.Calls.{NextFree}
use Rattle.register.specs.Images.{entries_of}
use Rattle.register.specs.Names.{highest_version_of}
use Rattle.register.proofs.NewestNames.{version_or, number_or, version-is, at-number, highest-stands, highest-most, fresh-version}
use Rattle.register.proofs.lookups.Lookup.highest_version.Goals as goal

name-long : (name : Name) → length name.bytes ≡ 20
name-long name = let good = name.good in grind (arith, nat_tests)

pub returns : goal.returns
returns g c =
    let name = c.args.name.now in
    let images = map g.P.Paged.image c.args.self.now.pages.now in
    let h = highest_version_of name.bytes (entries_of images) in
    let is : h ≡ number_or c.and_then.result =
    version-is h c.newest.result c.and_then.result _ (highest-stands (length c.args.self.now.pages.now) name.bytes images c.args.self.now.kept ∙ ap version_or (sym c.newest.ensures)) (highest-most name.bytes (entries_of images) c.args.self.now.kept.keys)
    c.and_then.ensures (λ e p. search rules) in
    record {
      value = at-number (λ n. h ≡ n) c.and_then.result is;
      next = at-number (λ n. NextFree name.bytes n (entries_of images)) c.and_then.result (fresh-version name.bytes (number_or c.and_then.result) (entries_of images) (name-long name) is);
    }
