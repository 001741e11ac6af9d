use Rattle.std.proofs.Common.{ℕ, ◌<◌, ◌≤◌, false}
use Rattle.packet.specs.Finds.{HoldsByte}
use Rattle.packet.proofs.first.next_byte.Given as goal

abbrev pub invariant-loop-at : goal.invariant-loop-at
invariant-loop-at g l = (j : ℕ) → l.from ≤ j → j < l.at → HoldsByte (g.M.Medium.cells l.m) j l.b false
