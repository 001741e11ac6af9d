use Rattle.std.proofs.Common.{None, codes}
use Rattle.packet.specs.Texts.{Header}
use Rattle.packet.specs.Parts.{Heading, Marked, Quoting}
use Rattle.packet.proofs.Headings.{header-from, header-to}
use Rattle.packet.proofs.Parsing as parse
use Rattle.packet.proofs.header.header_at.Goals as goal

pub returns-in_err-begin : goal.returns-in_err-begin
returns-in_err-begin g c =
    let read = parse.reading _ _ g.C.TextCode.laws c.args.text.now in
    let unit = g.C.TextCode.unit in
    rw c.from_residual.ensures
    (parse.renamed read (Heading unit) (Header unit) c.args.at None (header-from unit) (header-to unit)
    (parse.without read (codes "<?xpacket begin=") (Quoting (Marked unit)) c.args.at c.in_err-begin.ensures))

pub returns-in_err-quote : goal.returns-in_err-quote
returns-in_err-quote g c =
    let read = parse.reading _ _ g.C.TextCode.laws c.args.text.now in
    let unit = g.C.TextCode.unit in
    rw c.from_residual-in_err-quote.ensures
    (parse.renamed read (Heading unit) (Header unit) c.args.at None (header-from unit) (header-to unit)
    (parse.after read (codes "<?xpacket begin=") (Quoting (Marked unit)) c.args.at c.in_ok-begin.begin None c.in_ok-begin.ensures
    (parse.unquoted read (Marked unit) c.in_ok-begin.begin c.in_err-quote.ensures)))

pub returns : goal.returns
returns g c =
    let read = parse.reading _ _ g.C.TextCode.laws c.args.text.now in
    let unit = g.C.TextCode.unit in
    let r = c.marked_at.result in
    parse.renamed read (Heading unit) (Header unit) c.args.at r (header-from unit) (header-to unit)
    (parse.after read (codes "<?xpacket begin=") (Quoting (Marked unit)) c.args.at c.in_ok-begin.begin r c.in_ok-begin.ensures
    (parse.quoted read (Marked unit) c.in_ok-begin.begin c.in_ok-quote.quote c.in_ok-quote.inside r c.in_ok-quote.ensures c.marked_at.ensures))
