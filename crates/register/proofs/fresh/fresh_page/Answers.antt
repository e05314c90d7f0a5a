use Rattle.std.proofs.Common.{arith}
use Rattle.register.specs.Images.{zero_key}
use Rattle.register.specs.Fresh.{fresh_page}
use Rattle.register.proofs.FreshImages.{other-fresh}
use Rattle.register.proofs.fresh.fresh_page.Goals as goal

pub returns-then-page-eq0 : goal.returns-then-page-eq0
unfolding fresh_page zero_key
returns-then-page-eq0 c = rw c.if-page-eq0.true c.write_page.ensures

pub returns-then-page-eq1 : goal.returns-then-page-eq1
unfolding fresh_page
returns-then-page-eq1 c = rw c.if-page-eq1.true c.write_page-then-page-eq1.ensures

pub returns-else-page-eq1 : goal.returns-else-page-eq1
returns-else-page-eq1 c = other-fresh c.args.page (omega arith)
