use Rattle.std.proofs.Common.{arith}
use Rattle.window.specs.WindowSound.{window-length}
use Rattle.window.proofs.Window.place.Goals as goal

pub overflow-add-result : goal.overflow-add-result
overflow-add-result g c =
    let w = c.args.self.now in
    omega (arith, window-length w.first w.length (g.D.Disk.state w.below).sectors, (g.D.Disk.sound w.below).few)
