use Rattle.std.proofs.Common.{inl, inr, ap, ◌∙◌}
use Rattle.std.proofs.lemmas.Result.{IfOk-weaker}
use Rattle.fault.specs.Text.{text_of_refusal}
use Rattle.location.proofs.locate_text.Goals as goal

pub returns-in-Ok : goal.returns-in-Ok
returns-in-Ok c =
    IfOk-weaker _ _ _ (λ s e. inl (c.in-Ok.found, rw c.new-medium.ensures.holds at c.in-Ok.ensures, e)) c.found_text.ensures

pub returns-in-Err : goal.returns-in-Err
returns-in-Err c =
    IfOk-weaker _ _ _ (λ s e. inr (c.in-Err.fault, rw c.new-medium.ensures.holds at c.in-Err.ensures, e ∙ ap text_of_refusal c.report.ensures)) c.refusal_text.ensures
