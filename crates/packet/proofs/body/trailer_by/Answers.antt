use Rattle.std.proofs.Common.{◌≡◌, None, MatchOption, nat_le, rules}
use Rattle.std.specs.Bool.{then_some}
use Rattle.packet.proofs.Bodies.{trailer-by}
use Rattle.packet.proofs.body.trailer_by.Goals as goal

pub returns : goal.returns
returns g c =
    let e : MatchOption c.trailer_at.result (c.filter.result ≡ None) (λ x. c.filter.result ≡ then_some (nat_le x.end c.args.limit) x) = search rules in
    trailer-by g.C.TextCode.enc g.C.TextCode.unit g.C.TextCode.laws c.args.text.now c.args.at c.args.limit c.trailer_at.result c.filter.result c.trailer_at.ensures e
