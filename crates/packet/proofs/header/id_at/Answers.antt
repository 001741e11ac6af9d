use Rattle.std.proofs.Common.{false, [], ◌∷◌, None, codes}
use Rattle.packet.specs.Texts.{packet_id}
use Rattle.packet.specs.Parts.{Closing, Named, Quoting, Then}
use Rattle.packet.proofs.Parsing as parse
use Rattle.packet.proofs.header.id_at.Goals as goal

pub returns-in_err-named : goal.returns-in_err-named
returns-in_err-named g c =
    let read = parse.reading _ _ g.C.TextCode.laws c.args.text.now in
    rw c.from_residual.ensures (parse.without read (codes " id=") (Quoting Named) c.args.at c.in_err-named.ensures)

pub returns-in_err-quote : goal.returns-in_err-quote
returns-in_err-quote g c =
    let read = parse.reading _ _ g.C.TextCode.laws c.args.text.now in
    rw c.from_residual-in_err-quote.ensures
    (parse.after read (codes " id=") (Quoting Named) c.args.at c.in_ok-named.named None c.in_ok-named.ensures
    (parse.unquoted read Named c.in_ok-named.named c.in_err-quote.ensures))

pub returns-in_err-behind : goal.returns-in_err-behind
returns-in_err-behind g c =
    let read = parse.reading _ _ g.C.TextCode.laws c.args.text.now in
    let q = c.in_ok-quote.quote in
    rw c.from_residual-in_err-behind.ensures
    (parse.after read (codes " id=") (Quoting Named) c.args.at c.in_ok-named.named None c.in_ok-named.ensures
    (parse.quoted read Named c.in_ok-named.named q c.in_ok-quote.inside None c.in_ok-quote.ensures
    (parse.without read packet_id (Then (q ∷ []) (Closing 129 false)) c.in_ok-quote.inside c.in_err-behind.ensures)))

pub returns-in_err-closed : goal.returns-in_err-closed
returns-in_err-closed g c =
    let read = parse.reading _ _ g.C.TextCode.laws c.args.text.now in
    let q = c.in_ok-quote.quote in
    rw c.from_residual-in_err-closed.ensures
    (parse.after read (codes " id=") (Quoting Named) c.args.at c.in_ok-named.named None c.in_ok-named.ensures
    (parse.quoted read Named c.in_ok-named.named q c.in_ok-quote.inside None c.in_ok-quote.ensures
    (parse.after read packet_id (Then (q ∷ []) (Closing 129 false)) c.in_ok-quote.inside c.in_ok-behind.behind None c.in_ok-behind.ensures
    (parse.without_one read q (Closing 129 false) c.in_ok-behind.behind c.in_err-closed.ensures))))

pub returns : goal.returns
returns g c =
    let read = parse.reading _ _ g.C.TextCode.laws c.args.text.now in
    let q = c.in_ok-quote.quote in
    let r = c.close_at.result in
    parse.after read (codes " id=") (Quoting Named) c.args.at c.in_ok-named.named r c.in_ok-named.ensures
    (parse.quoted read Named c.in_ok-named.named q c.in_ok-quote.inside r c.in_ok-quote.ensures
    (parse.after read packet_id (Then (q ∷ []) (Closing 129 false)) c.in_ok-quote.inside c.in_ok-behind.behind r c.in_ok-behind.ensures
    (parse.after_one read q (Closing 129 false) c.in_ok-behind.behind c.in_ok-closed.closed r c.in_ok-closed.ensures c.close_at.ensures)))
