use Rattle.std.proofs.Common.{◌≡◌, ◌+◌, ◌*◌, ◌≤◌, drop}
use Rattle.volume.specs.Blocks.{weighed}
use Rattle.volume.proofs.block.weigh.Given as goal

abbrev pub invariant-loop-i : goal.invariant-loop-i
invariant-loop-i l = (l.sum + weighed l.i (drop l.i l.bytes) ≡ 1 + weighed 0 l.bytes) × (l.sum ≤ 1 + 129540 * l.i)
