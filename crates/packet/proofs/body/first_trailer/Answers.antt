use Rattle.std.proofs.Common.{refl, inl, inr, arith}
use Rattle.packet.specs.Finds.{begun, more}
use Rattle.packet.proofs.Bodies.{no_room}
use Rattle.packet.proofs.body.first_trailer.Goals as goal

pub loop-at-init : goal.loop-at-init
loop-at-init g c = begun

pub loop-at-preserved : goal.loop-at-preserved
loop-at-preserved g c = more c.loop-at.at c.in_ok-at.at c.loop-at.invariant c.in_default.ensures c.in_ok-at.ensures

pub returns-else-at-size : goal.returns-else-at-size
returns-else-at-size g c =
    record { inside = tt; first = (refl, c.loop-at.at, c.loop-at.invariant, no_room g.C.TextCode.enc g.C.TextCode.unit g.C.TextCode.laws c.args.text.now _ c.loop-at.at (inl (omega arith)), inl (omega arith)) }

pub returns-after-loop-at : goal.returns-after-loop-at
returns-after-loop-at g c =
    record { inside = tt; first = (refl, c.loop-at.at, c.loop-at.invariant, no_room g.C.TextCode.enc g.C.TextCode.unit g.C.TextCode.laws c.args.text.now _ c.loop-at.at (inr (omega arith)), inr (inl (omega arith))) }
