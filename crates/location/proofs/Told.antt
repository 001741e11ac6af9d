-- A refusal is told in one line.
use Rattle.std.proofs.Common.{◌≡◌, [], ◌∷◌, ◌++◌, ap, ◌∙◌, decimal}
use Rattle.std.proofs.lemmas.List.{append_assoc}
use Rattle.fault.specs.Text.{text_of_refusal, text_of_report, word_of}
use Rattle.fault.specs.declared.Report.{Report}

pub one_line : (r : Report) → text_of_report r ++ (10 ∷ []) ≡ text_of_refusal r
one_line r = append_assoc (word_of r.layer) _ _ ∙ ap (λ x. word_of r.layer ++ (32 ∷ x)) (append_assoc (decimal r.number) _ _)
