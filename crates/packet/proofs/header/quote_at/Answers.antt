use Rattle.std.proofs.Common.{◌≡◌, None, MatchOption, ◌==◌, ◌||◌, rules}
use Rattle.std.specs.Bool.{then_some}
use Rattle.packet.proofs.Parsing as parse
use Rattle.packet.proofs.header.quote_at.Goals as goal

pub returns : goal.returns
returns g c =
    let taken : MatchOption c.step.result (c.filter.result ≡ None) (λ x. c.filter.result ≡ then_some ((x.0 == 34) || (x.0 == 39)) x) = search rules in
    parse.quote-from_step (parse.reading _ _ g.C.TextCode.laws c.args.text.now) c.args.at c.step.result c.filter.result c.step.ensures taken
