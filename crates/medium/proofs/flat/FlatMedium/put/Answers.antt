use Rattle.std.proofs.Common.{◌<◌, length, refl, arith}
use Rattle.medium.specs.Cells.{flat_cells}
use Rattle.medium.proofs.Held.{size, at, byte_not_lost, written, beyond}
use Rattle.medium.proofs.flat.FlatMedium.put.Goals as goal

pub bounds-self-at : goal.bounds-self-at
bounds-self-at c = omega (arith, size c.args.self.now.bytes.now)

pub returns : goal.returns
returns c =
    let bs = c.args.self.now.bytes.now in
    let h : c.args.at < length (flat_cells bs) = omega arith in
    record { put = (h, byte_not_lost _ _ (at bs _ h), written bs _ _ h); kept = record { lent = refl; beyond = beyond bs _ _ h } }
