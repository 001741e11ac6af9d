use Rattle.std.proofs.Common.{◌≡◌, ℕ, ◌≤◌, Bool, true, false, ◌≢◌, ⊎_elim, arith}
use Rattle.packet.proofs.Parsing as parse
use Rattle.packet.proofs.header.+close_at.Goals as goal

not-both : (b : Bool) → b ≡ false → b ≡ true → ⊥
not-both b p q = let z : ◌≡◌ {A = ℕ} 0 1 = cc in omega arith

pub returns-in_err-c : goal.returns-in_err-c
returns-in_err-c g t c =
    let read = parse.reading _ _ g.C.TextCode.laws c.args.text.now in
    rw c.from_residual.ensures (parse.close_none read c.args.left c.args.question c.args.at c.in_err-c.ensures)

pub returns-then-c-eq62 : goal.returns-then-c-eq62
returns-then-c-eq62 g t c =
    let read = parse.reading _ _ g.C.TextCode.laws c.args.text.now in
    parse.close_here read c.args.left c.args.question c.args.at c.in_ok-c.c c.in_ok-c.behind c.if-question.true c.if-c-eq62.true c.in_ok-c.ensures

pub returns-then-left-eq0 : goal.returns-then-left-eq0
returns-then-left-eq0 g t c =
    let read = parse.reading _ _ g.C.TextCode.laws c.args.text.now in
    let far : c.args.question ≡ true → c.in_ok-c.c ≡ 62 → ⊥ = λ pt ce.
    ⊎_elim (λ w. w.1 ce) (λ w. not-both c.args.question w pt) c.else-question.either in
    let bad : 1 ≤ c.args.left → c.in_ok-c.c ≢ 60 → ⊥ = λ some ne.
    ⊎_elim (λ w. omega arith) (λ w. ne w.1) c.then-left-eq0.either in
    parse.close_stop read c.args.left c.args.question c.args.at c.in_ok-c.c c.in_ok-c.behind far bad c.in_ok-c.ensures

pub returns : goal.returns
returns g t c =
    let read = parse.reading _ _ g.C.TextCode.laws c.args.text.now in
    let far : c.args.question ≡ true → c.in_ok-c.c ≡ 62 → ⊥ = λ pt ce.
    ⊎_elim (λ w. w.1 ce) (λ w. not-both c.args.question w pt) c.else-question.either in
    parse.close_more read c.args.left c.args.question c.args.at c.in_ok-c.c c.in_ok-c.behind c.close_at.result far (omega arith) c.if-c-eq60.false c.in_ok-c.ensures c.close_at.ensures
