use Rattle.std.proofs.Common.{rules}
use Rattle.volume.proofs.Verdicts.{judged}
use Rattle.volume.proofs.block.is_readable.Goals as goal

pub returns : goal.returns
returns c = judged c.args.bytes.now c.args.k c.block_at.result _ c.block_at.ensures (search rules)
