use Rattle.std.proofs.Common.{◌<◌, length, arith}
use Rattle.medium.specs.Cells.{flat_cells}
use Rattle.medium.proofs.Held.{size, at}
use Rattle.medium.proofs.flat.FlatMedium.fetch.Goals as goal

pub bounds-self-at : goal.bounds-self-at
bounds-self-at c = omega (arith, size c.args.self.now.bytes.now)

pub returns : goal.returns
returns c =
    let h : c.args.at < length (flat_cells c.args.self.now.bytes.now) = omega arith in
    (h, at _ _ h)
