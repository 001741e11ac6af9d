use Rattle.std.proofs.Common.{None}
use Rattle.packet.specs.Parts.{Naming}
use Rattle.packet.proofs.Parsing as parse
use Rattle.packet.proofs.header.marked_at.Goals as goal

pub returns-in_err-marked : goal.returns-in_err-marked
returns-in_err-marked g c =
    let read = parse.reading _ _ g.C.TextCode.laws c.args.text.now in
    rw c.from_residual.ensures (parse.without_mark read c.args.quote c.args.at c.in_err-marked.ensures)

pub returns-in_err-closed : goal.returns-in_err-closed
returns-in_err-closed g c =
    let read = parse.reading _ _ g.C.TextCode.laws c.args.text.now in
    rw c.from_residual-in_err-closed.ensures
    (parse.after_mark read c.args.quote c.args.at c.in_ok-marked.marked None c.requires c.in_ok-marked.ensures
    (parse.without_one read c.args.quote Naming c.in_ok-marked.marked c.in_err-closed.ensures))

pub returns : goal.returns
returns g c =
    let read = parse.reading _ _ g.C.TextCode.laws c.args.text.now in
    let r = c.id_at.result in
    parse.after_mark read c.args.quote c.args.at c.in_ok-marked.marked r c.requires c.in_ok-marked.ensures
    (parse.after_one read c.args.quote Naming c.in_ok-marked.marked c.in_ok-closed.closed r c.in_ok-closed.ensures c.id_at.ensures)
