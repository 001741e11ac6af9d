use Rattle.std.proofs.Common.{Some, None, get_or, sym, subst, arith}
use Rattle.text.specs.Stands.{Expected, Holds}
use Rattle.text.proofs.Standing.{at_index, word_more}
use Rattle.text.proofs.reading.Text.word_at.Goals as goal

pub returns-in_err-behind : goal.returns-in_err-behind
returns-in_err-behind g c =
    let cs = c.args.self.now in
    let w = c.args.word.now in
    let i = c.loop-c.c-index in
    let none = subst (λ x. Expected g.C.TextCode.enc cs c.loop-c.behind x None) c.from.ensures c.in_err-behind.ensures in
    rw c.from_residual.ensures
    (λ p. let r = at_index _ _ g.C.TextCode.laws cs c.args.at w i (omega arith) p in none r.0 (subst (λ n. Holds cs n (g.C.TextCode.enc (get_or w i 0))) (sym c.loop-c.invariant.1) r.1))

pub loop-c-preserved : goal.loop-c-preserved
loop-c-preserved g c =
    let cs = c.args.self.now in
    let e = c.in_ok-behind.behind in
    let some = subst (λ x. Expected g.C.TextCode.enc cs c.loop-c.behind x (Some e)) c.from.ensures c.in_ok-behind.ensures in
    word_more _ _ g.C.TextCode.laws cs c.args.at c.args.word.now c.loop-c.c-index c.loop-c.behind e (omega arith) c.loop-c.invariant.0 c.loop-c.invariant.1 some.0 some.1 some.2
