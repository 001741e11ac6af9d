use Rattle.canonical.proofs.Numbered.{distinct, foreign}
use Rattle.canonical.proofs.promises.prefixes_are_distinct.Goals as goal

pub returns : goal.returns
returns c = record { apart = distinct; foreign = foreign }
