use Rattle.packet.proofs.Parsing.{reading}
use Rattle.packet.proofs.Trailings as trailer
use Rattle.packet.proofs.trailer.trailer_at.Goals as goal

pub returns-in_err-begin : goal.returns-in_err-begin
returns-in_err-begin g c =
    rw c.from_residual.ensures (trailer.without_begin (reading _ _ g.C.TextCode.laws c.args.text.now) c.args.at c.in_err-begin.ensures)

pub returns-in_err-quote : goal.returns-in_err-quote
returns-in_err-quote g c =
    rw c.from_residual-in_err-quote.ensures
    (trailer.without_quote (reading _ _ g.C.TextCode.laws c.args.text.now) c.args.at c.in_ok-begin.begin c.in_ok-begin.ensures c.in_err-quote.ensures)

pub returns-in_err-letter : goal.returns-in_err-letter
returns-in_err-letter g c =
    rw c.from_residual-in_err-letter.ensures
    (trailer.without_letter (reading _ _ g.C.TextCode.laws c.args.text.now) c.args.at c.in_ok-begin.begin c.in_ok-begin.ensures
    c.in_ok-quote.quote c.in_ok-quote.inside c.in_ok-quote.ensures c.in_err-letter.ensures)

pub returns-in_err-writable : goal.returns-in_err-writable
returns-in_err-writable g c =
    rw c.from_residual-in_err-writable.ensures
    (trailer.another_letter (reading _ _ g.C.TextCode.laws c.args.text.now) c.args.at c.in_ok-begin.begin c.in_ok-begin.ensures
    c.in_ok-quote.quote c.in_ok-quote.inside c.in_ok-quote.ensures c.in_ok-letter.letter c.in_ok-letter.behind c.in_ok-letter.ensures c.in_err-writable.ensures)

pub returns-in_err-closed : goal.returns-in_err-closed
returns-in_err-closed g c =
    rw c.from_residual-in_err-closed.ensures
    (trailer.without_closing (reading _ _ g.C.TextCode.laws c.args.text.now) c.args.at c.in_ok-begin.begin c.in_ok-begin.ensures
    c.in_ok-quote.quote c.in_ok-quote.inside c.in_ok-quote.ensures c.in_ok-letter.letter c.in_ok-letter.behind c.in_ok-letter.ensures
    c.in_ok-writable.writable c.in_ok-writable.ensures c.in_err-closed.ensures)

pub returns-in_err-end : goal.returns-in_err-end
returns-in_err-end g c =
    rw c.from_residual-in_err-end.ensures
    (trailer.without_end (reading _ _ g.C.TextCode.laws c.args.text.now) c.args.at c.in_ok-begin.begin c.in_ok-begin.ensures
    c.in_ok-quote.quote c.in_ok-quote.inside c.in_ok-quote.ensures c.in_ok-letter.letter c.in_ok-letter.behind c.in_ok-letter.ensures
    c.in_ok-writable.writable c.in_ok-writable.ensures c.in_ok-closed.closed c.in_ok-closed.ensures c.in_err-end.ensures)

pub returns : goal.returns
returns g c =
    trailer.whole (reading _ _ g.C.TextCode.laws c.args.text.now) c.args.at c.in_ok-begin.begin c.in_ok-begin.ensures
    c.in_ok-quote.quote c.in_ok-quote.inside c.in_ok-quote.ensures c.in_ok-letter.letter c.in_ok-letter.behind c.in_ok-letter.ensures
    c.in_ok-writable.writable c.in_ok-writable.ensures c.in_ok-closed.closed c.in_ok-closed.ensures c.in_ok-end.end c.in_ok-end.ensures
