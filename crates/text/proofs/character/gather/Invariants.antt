use Rattle.std.proofs.Common.{◌≡◌, length}
use Rattle.text.specs.Stands.{Holds}
use Rattle.text.proofs.character.gather.Given as goal

abbrev pub invariant-loop-i : goal.invariant-loop-i
invariant-loop-i g l = (length l.bytes.items ≡ l.i) × Holds (g.M.Medium.cells l.m) l.at l.bytes.items
