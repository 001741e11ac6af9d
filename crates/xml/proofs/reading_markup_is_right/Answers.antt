use Rattle.xml.proofs.Right.{right}
use Rattle.xml.proofs.reading_markup_is_right.Goals as goal

pub returns : goal.returns
returns c = right
