use Rattle.std.proofs.Common.{◌≡◌, None, refl, arith}
use Rattle.std.proofs.lemmas.Result.{err_from_is_err_and}
use Rattle.code.specs.Utf16.{enc16}
use Rattle.code.proofs.Exits.{answered, none_made, not_scalar}
use Rattle.code.proofs.Forms16.{one_found, two-found, one-cut, two-cut, two-other}
use Rattle.code.proofs.utf16.Utf16TextCode.decode.Goals as goal

pub returns-in_default : goal.returns-in_default
returns-in_default g c = (refl, one-cut _ g.O.ByteOrder.order _ (omega arith))

pub returns-in-Ok : goal.returns-in-Ok
returns-in-Ok g c =
    answered (enc16 g.O.ByteOrder.pair) c.args.bytes.now _ _ _ c.in-Ok.ensures
    (one_found _ g.O.ByteOrder.order _ _ (c.join.result, c.in-len2-up.len_at_least, c.join.ensures, c.from-lead.ensures, omega arith))

pub returns-in_default-bytes : goal.returns-in_default-bytes
returns-in_default-bytes g c =
    (refl, two-cut _ g.O.ByteOrder.order _ c.from-lead.result (c.join.result, c.in-len2-up.len_at_least, c.join.ensures, c.from-lead.ensures, omega arith) (not_scalar _ _ c.in_default-character.ensures) (omega arith))

pub returns-in_err-v : goal.returns-in_err-v
returns-in_err-v g c =
    let r = err_from_is_err_and c.from_residual.result c.from_residual.ensures.1 in
    let n : c.of_pair.result ≡ None = c.in_err-v.ensures.ok_part in
    rw (r.1, r.2) (none_made (enc16 g.O.ByteOrder.pair) c.args.bytes.now _ _ n c.in_err-v.ensures.value (
    two-other _ g.O.ByteOrder.order _ c.from-lead.result c.from-trail.result
    (c.join.result, c.in-len2-up.len_at_least, c.join.ensures, c.from-lead.ensures, omega arith)
    (c.join-2.result, c.in-len4-up.len_at_least, c.join-2.ensures, c.from-trail.ensures, omega arith)
    (not_scalar _ _ c.in_default-character.ensures) (rw n at c.of_pair.ensures)
    ))

pub returns : goal.returns
returns g c =
    answered (enc16 g.O.ByteOrder.pair) c.args.bytes.now _ _ _ c.in_ok-character.ensures
    (two-found _ g.O.ByteOrder.order _ c.from-lead.result c.from-trail.result _
    (c.join.result, c.in-len2-up.len_at_least, c.join.ensures, c.from-lead.ensures, omega arith)
    (c.join-2.result, c.in-len4-up.len_at_least, c.join-2.ensures, c.from-trail.ensures, omega arith)
    (rw c.in_ok-v.ensures.ok_part at c.of_pair.ensures))
