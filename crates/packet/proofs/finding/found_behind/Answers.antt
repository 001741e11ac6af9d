use Rattle.std.proofs.Common.{◌≡◌, ◌+◌, ◌-◌, Ok, subst, arith}
use Rattle.std.proofs.lemmas.Result.{err_from_is_err_and}
use Rattle.packet.specs.Finds.{FirstTrailer}
use Rattle.packet.proofs.Bodies.{refused, spans, the_first}
use Rattle.packet.proofs.finding.found_behind.Goals as goal

pub returns-in_err-writable : goal.returns-in_err-writable
returns-in_err-writable g c =
    let cs = c.args.text.now in
    let h = the_first g.C.TextCode.enc g.C.TextCode.unit g.C.TextCode.laws cs g.C.TextCode.unit c.in_ok-place.place c.in_ok-place.start c.args.header c.requires.first c.in_ok-place.ensures.ok_part in
    let p = err_from_is_err_and c.from_residual-in_err-writable.result c.from_residual-in_err-writable.ensures.1 in
    rw (p.1, p.2)
    (refused g.C.TextCode.enc g.C.TextCode.unit g.C.TextCode.laws cs g.C.TextCode.unit c.in_ok-place.place c.in_ok-place.start _ h c.in_err-writable.ensures.first)

pub overflow_sub-extent : goal.overflow_sub-extent
overflow_sub-extent g c =
    let cs = c.args.text.now in
    let h = the_first g.C.TextCode.enc g.C.TextCode.unit g.C.TextCode.laws cs g.C.TextCode.unit c.in_ok-place.place c.in_ok-place.start c.args.header c.requires.first c.in_ok-place.ensures.ok_part in
    (spans g.C.TextCode.enc g.C.TextCode.unit g.C.TextCode.laws cs g.C.TextCode.unit c.in_ok-place.place c.in_ok-place.start c.in_ok-writable.field-0.writable c.in_ok-writable.field-0.end h c.in_ok-writable.ensures.first).0

pub returns : goal.returns
returns g c =
    let cs = c.args.text.now in
    let h = the_first g.C.TextCode.enc g.C.TextCode.unit g.C.TextCode.laws cs g.C.TextCode.unit c.in_ok-place.place c.in_ok-place.start c.args.header c.requires.first c.in_ok-place.ensures.ok_part in
    let t = c.in_ok-writable.ensures.first in
    let l = t.3 in
    let s = spans g.C.TextCode.enc g.C.TextCode.unit g.C.TextCode.laws cs g.C.TextCode.unit c.in_ok-place.place c.in_ok-place.start c.in_ok-writable.field-0.writable c.in_ok-writable.field-0.end h t in
    let e : c.in_ok-writable.field-0.end ≡ c.in_ok-place.place + (c.in_ok-writable.field-0.end - c.in_ok-place.place) = omega arith in
    (c.in_ok-place.start, h, subst (λ n. FirstTrailer g.C.TextCode.enc cs c.in_ok-place.place c.in_ok-place.start (Ok (record { writable = c.in_ok-writable.field-0.writable; end = n }))) e t, omega arith)
