use Rattle.std.proofs.Common.{◌+◌, ◌-◌}
use Rattle.packet.specs.Finds.{Passed}
use Rattle.packet.proofs.body.first_trailer.Given as goal

abbrev pub invariant-loop-at : goal.invariant-loop-at
invariant-loop-at g l = Passed g.C.TextCode.enc (l.text) l.start (l.place + 16384) l.at

abbrev pub decreases-loop-at : goal.decreases-loop-at
decreases-loop-at g l = l.limit - l.at
