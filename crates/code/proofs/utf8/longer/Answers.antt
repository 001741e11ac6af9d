use Rattle.std.proofs.Common.{refl, arith}
use Rattle.std.proofs.lemmas.Result.{err_from_is_err_and}
use Rattle.code.specs.Utf8.{enc8}
use Rattle.code.proofs.Exits.{answered, no_scalar, no_tail, none_made}
use Rattle.code.proofs.Forms8.{longer_cut, longer_found, longer_only, longer_short, part_none}
use Rattle.code.proofs.utf8.longer.Goals as goal

pub returns-in_err-b-items : goal.returns-in_err-b-items
returns-in_err-b-items c =
    let r = err_from_is_err_and c.from_residual.result c.from_residual.ensures.1 in
    let n = c.in_err-b-items.ensures.ok_part in
    rw (r.1, r.2) (none_made enc8 c.args.bytes.now _ _ n c.in_err-b-items.ensures.value (longer_short _ _ _ _ c.requires (part_none _ _ _ c.get.ensures.lookup n (omega arith))))

pub returns-in_err-v : goal.returns-in_err-v
returns-in_err-v c =
    let r = err_from_is_err_and c.from_residual-in_err-v.result c.from_residual-in_err-v.ensures.1 in
    rw (r.1, r.2) (no_tail _ _ _ c.in_err-v.ensures (longer_cut _ _ _ _ _ _ c.requires c.loop-b.invariant.0 c.loop-b-test.true))

pub returns-then-v-least : goal.returns-then-v-least
returns-then-v-least c = (refl, λ w s b. let o = longer_only _ _ _ _ _ _ c.requires c.loop-b.invariant.1 (omega arith) w b in omega arith)

pub returns-in_err-character : goal.returns-in_err-character
returns-in_err-character c =
    let r = err_from_is_err_and c.from_residual-in_err-character.result c.from_residual-in_err-character.ensures.1 in
    rw (r.1, r.2) (no_scalar enc8 _ _ _ c.in_err-character.ensures (λ w b. (longer_only _ _ _ _ _ _ c.requires c.loop-b.invariant.1 (omega arith) w b).0))

pub returns : goal.returns
returns c = answered enc8 _ _ _ _ c.in_ok-character.ensures (longer_found _ _ _ _ _ _ c.requires c.loop-b.invariant.1 (omega arith) c.if-v-least.false)
