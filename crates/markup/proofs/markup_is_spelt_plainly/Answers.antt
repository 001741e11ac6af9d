use Rattle.markup.specs.Elements.{markup_text}
use Rattle.markup.proofs.Tame.{tame_none}
use Rattle.markup.proofs.Tags.{tame_markup, xml_markup}
use Rattle.markup.proofs.markup_is_spelt_plainly.Goals as goal

pub returns : goal.returns
returns c = record { no_instruction = λ m h. tame_none (markup_text m) (tame_markup m h); xml = xml_markup }
