use Rattle.std.proofs.Common.{arith}
use Rattle.medium.proofs.Held.{size}
use Rattle.medium.proofs.flat.FlatMedium.size.Goals as goal

pub returns : goal.returns
returns c = rw size (omega arith)
