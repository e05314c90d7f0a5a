use Rattle.std.proofs.Common.{rules}
use Rattle.layout.specs.Tags.{Carries}
use Rattle.layout.proofs.TagsDiffer.{alone}
use Rattle.layout.proofs.tagged.tag_of.Goals as goal

pub returns-clause-alone : goal.returns-clause-alone
returns-clause-alone c =
    let carries : Carries c.args.count c.args.pages c.args.sector.now c.or_else-4.result = search rules in
    alone _ _ _ _ carries
