-- What is said of a refusal.
use Rattle.std.specs.Prelude.{List, [], ◌∷◌, ◌++◌, ℕ, codes, decimal}
use Rattle.fault.specs.declared.Layer.{Layer}
use Rattle.fault.specs.declared.Layer.TheVariants.{Medium, Code, Packet, Markup, Model, Tree}
use Rattle.fault.specs.declared.Report.{Report}

abbrev pub word_of : Layer → List ℕ
word_of Medium = codes "medium"
word_of Code = codes "code"
word_of Packet = codes "packet"
word_of Markup = codes "markup"
word_of Model = codes "model"
word_of Tree = codes "tree"

-- layer, number and place
abbrev pub text_of_report : Report → List ℕ
text_of_report r = word_of r.layer ++ (32 ∷ (decimal r.number ++ (32 ∷ decimal r.place)))

-- the same as one line
abbrev pub text_of_refusal : Report → List ℕ
text_of_refusal r = word_of r.layer ++ (32 ∷ (decimal r.number ++ (32 ∷ (decimal r.place ++ (10 ∷ [])))))
