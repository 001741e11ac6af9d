use Rattle.std.proofs.Common.{◌≡◌, ◌++◌, string_bytes}
use Rattle.survey.specs.Text.{head_text, lost_lines}
use Rattle.survey.proofs.survey_text.Given as goal

abbrev pub invariant-loop-k : goal.invariant-loop-k
invariant-loop-k l = string_bytes l.text ≡ head_text l.bytes ++ lost_lines l.bytes l.k
