use Rattle.std.proofs.Common.{map}
use Rattle.register.specs.Images.{entries_of}
use Rattle.register.proofs.Onward.{all-from}
use Rattle.register.proofs.lookups.Lookup.entries.Goals as goal

pub returns-clause-all : goal.returns-clause-all
returns-clause-all g c = all-from c.lowest-last.result.bytes (entries_of (map g.P.Paged.image c.args.self.now.pages.now)) c.lowest-last.ensures.below c.args.self.now.kept.keys
