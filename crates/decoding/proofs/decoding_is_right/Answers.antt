use Rattle.decoding.proofs.Passing.{decodes_right}
use Rattle.decoding.proofs.decoding_is_right.Goals as goal

pub returns : goal.returns
returns c = decodes_right
