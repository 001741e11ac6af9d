use Rattle.std.proofs.Common.{◌≡◌, ◌/◌, length, take, ◌∙◌, ap₂, arith}
use Rattle.volume.specs.Blocks.{blocks}
use Rattle.volume.proofs.Chunks.{front}
use Rattle.volume.proofs.block.counted.Goals as goal

pub returns-clause-items : goal.returns-clause-items
returns-clause-items c =
    let bs = c.args.bytes.now in
    let n : c.min.result ≡ blocks bs = omega (arith, c.as_chunks.ensures.front_len) in
    ap₂ take n c.as_chunks.ensures.front ∙ front (blocks bs) (length bs / 512) bs (omega arith)
