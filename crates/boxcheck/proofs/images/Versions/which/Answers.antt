use Rattle.boxcheck.proofs.SameImages.{images-differ}
use Rattle.boxcheck.proofs.images.Versions.which.Goals as goal

pub returns-else-eq-2 : goal.returns-else-eq-2
returns-else-eq-2 c = (images-differ c.args.images.now c.args.self.now.settled c.if-eq.ensures, images-differ c.args.images.now c.args.self.now.pending c.if-eq-2.ensures)
