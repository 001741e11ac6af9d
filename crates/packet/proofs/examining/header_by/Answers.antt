use Rattle.std.proofs.Common.{◌≡◌, None, MatchOption, nat_le, rules}
use Rattle.std.specs.Bool.{then_some}
use Rattle.packet.proofs.Again.{header-by}
use Rattle.packet.proofs.examining.header_by.Goals as goal

pub returns : goal.returns
returns g c =
    let e : MatchOption c.header_at.result (c.filter.result ≡ None) (λ x. c.filter.result ≡ then_some (nat_le x c.args.end) x) = search rules in
    header-by g.C.TextCode.enc g.C.TextCode.unit g.C.TextCode.laws c.args.text.now c.args.place c.args.end c.header_at.result c.filter.result c.header_at.ensures e
