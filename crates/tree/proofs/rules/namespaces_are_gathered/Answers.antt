use Rattle.tree.proofs.Gathering.{namespaces_ascending, namespaces_all, namespaces_only}
use Rattle.tree.proofs.rules.namespaces_are_gathered.Goals as goal

pub returns : goal.returns
returns c = record { order = namespaces_ascending; all = namespaces_all; only = namespaces_only }
