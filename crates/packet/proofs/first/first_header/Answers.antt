use Rattle.std.proofs.Common.{◌≡◌, ℕ, ◌+◌, None, subst, ⊎_elim, arith}
use Rattle.std.proofs.lemmas.Bool.{cases_lt}
use Rattle.packet.specs.Parts.{Ends}
use Rattle.packet.specs.Texts.{Header}
use Rattle.packet.proofs.Leads.{skipped}
use Rattle.packet.proofs.first.first_header.Goals as goal

pub returns-in-Some-header_at-clause-first : goal.returns-in-Some-header_at-clause-first
returns-in-Some-header_at-clause-first g c = (
  c.in-Some-header_at.ensures,
  skipped g.C.TextCode.enc g.C.TextCode.unit g.C.TextCode.laws c.args.text.now _ _ _ _ c.medium-medium.ensures c.lead_byte-lead.ensures c.loop-at.invariant c.in-Some.ensures.3,
)

pub loop-at-preserved : goal.loop-at-preserved
loop-at-preserved g c = λ j h.
    let k = c.in-Some.at in
    ⊎_elim
    (skipped g.C.TextCode.enc g.C.TextCode.unit g.C.TextCode.laws c.args.text.now _ _ _ _ c.medium-medium.ensures c.lead_byte-lead.ensures c.loop-at.invariant c.in-Some.ensures.3 j)
    (λ l. let same : k ≡ j = omega arith in subst (λ (n : ℕ). Ends g.C.TextCode.enc c.args.text.now (Header g.C.TextCode.unit) n None) same c.in_default-header_at.ensures)
    (cases_lt j k)

pub returns-clause-first : goal.returns-clause-first
returns-clause-first g c = λ j.
    skipped g.C.TextCode.enc g.C.TextCode.unit g.C.TextCode.laws c.args.text.now _ _ _ (j + 1) c.medium-medium.ensures c.lead_byte-lead.ensures c.loop-at.invariant (λ i l h. c.in_default.ensures i l) j (omega arith)
