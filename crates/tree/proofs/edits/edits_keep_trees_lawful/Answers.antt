use Rattle.tree.proofs.Setting.{after-set, after-make}
use Rattle.tree.proofs.Removing.{after-remove}
use Rattle.tree.proofs.edits.edits_keep_trees_lawful.Goals as goal

pub returns : goal.returns
returns c = record { set = after-set; make = after-make; remove = after-remove }
