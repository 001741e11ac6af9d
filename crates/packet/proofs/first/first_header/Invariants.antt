use Rattle.std.proofs.Common.{ℕ, ◌-◌, ◌<◌, length, None}
use Rattle.packet.specs.Parts.{Ends}
use Rattle.packet.specs.Texts.{Header}
use Rattle.packet.proofs.first.first_header.Given as goal

abbrev pub invariant-loop-at : goal.invariant-loop-at
invariant-loop-at g l = (j : ℕ) → j < l.from → Ends g.C.TextCode.enc (l.text) (Header g.C.TextCode.unit) j None

abbrev pub decreases-loop-at : goal.decreases-loop-at
decreases-loop-at g l = length (l.text) - l.from
