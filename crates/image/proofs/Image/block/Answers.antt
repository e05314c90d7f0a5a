use Rattle.std.proofs.Common.{◌≡◌, ◌+◌, ◌-◌, take, drop, ap, arith}
use Rattle.image.proofs.Image.block.Goals as goal

pub returns-clause-is : goal.returns-clause-is
returns-clause-is c =
    let size : c.args.at + 512 - c.args.at ≡ 512 = omega arith in
    ap (λ n. take n (drop c.args.at c.args.self.now.bytes.now)) size
