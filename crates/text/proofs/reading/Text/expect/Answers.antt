use Rattle.text.proofs.Standing.{expected}
use Rattle.text.proofs.reading.Text.expect.Goals as goal

pub returns : goal.returns
returns g c =
    expected g.C.TextCode.enc g.C.TextCode.unit g.C.TextCode.laws c.args.self.now c.args.at c.in_ok-c.c c.in_ok-c.behind c.args.wanted c.then_some.result c.in_ok-c.ensures c.then_some.ensures
