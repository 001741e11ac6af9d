use Rattle.std.proofs.Common.{rules}
use Rattle.volume.proofs.Chunks.{found}
use Rattle.volume.proofs.block.block_at.Goals as goal

pub returns : goal.returns
returns c = found c.args.bytes.now c.args.k _ c.get.result _ c.counted.ensures.items c.counted.ensures.count c.get.ensures.lookup (search rules)
