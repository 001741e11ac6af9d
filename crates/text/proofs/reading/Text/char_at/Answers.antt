use Rattle.std.proofs.Common.{◌≡◌, length, subst, Ok, Err, MatchResult, rules}
use Rattle.text.specs.Gathers.{Ended}
use Rattle.text.specs.Stands.{Holds}
use Rattle.text.proofs.Gathering.{answered}
use Rattle.text.proofs.reading.Text.char_at.Goals as goal

pub returns-clause-char : goal.returns-clause-char
returns-clause-char g c =
    let f = c.gather-bytes.result.refusal in
    let bs = c.gather-bytes.result.bytes.items in
    let e : MatchResult c.decode.result (λ x. c.map_err.result ≡ Ok x) (λ _. c.map_err.result ≡ Err f) = search rules in
    let gathered = c.gather-bytes.ensures in
    answered g.C.TextCode.enc c.args.self.now c.args.at bs g.C.TextCode.unit f c.decode.result c.map_err.result g.C.TextCode.laws
    (subst (λ cs. Holds cs c.args.at bs) c.self.view_is gathered.held)
    (subst (λ cs. Ended cs c.args.at (length bs) f) c.self.view_is gathered.ended)
    (search rules) e
