-- A length rounded up to sectors is the least number of sectors that hold it.
use Rattle.std.proofs.Common.{ℕ, arith}
use Rattle.geometry.specs.Sizes.{data_sectors, HoldsJust}

pub holds-just : (bytes : ℕ) → HoldsJust bytes (data_sectors bytes)
holds-just bytes = record { enough = omega arith; needed = λ m h. omega arith }
