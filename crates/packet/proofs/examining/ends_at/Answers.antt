use Rattle.packet.proofs.Again.{ends-at}
use Rattle.packet.proofs.examining.ends_at.Goals as goal

pub returns-in_err-ending : goal.returns-in_err-ending
returns-in_err-ending g c = rw c.from_residual.ensures (λ w x. c.in_err-ending.ensures w x.0 x.1 x.2)

pub returns : goal.returns
returns g c =
    ends-at g.C.TextCode.enc g.C.TextCode.unit g.C.TextCode.laws c.args.text.now c.args.at c.args.end c.in_ok-ending.ending c.then_some.result c.in_ok-ending.ensures c.then_some.ensures
