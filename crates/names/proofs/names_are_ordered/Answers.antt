use Rattle.names.proofs.Ordering.{name-irreflexive, name-transitive, name-total}
use Rattle.names.proofs.names_are_ordered.Goals as goal

pub returns : goal.returns
returns c = record { irreflexive = name-irreflexive; transitive = name-transitive; total = name-total }
