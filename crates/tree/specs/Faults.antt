-- The refusals of calls with a path, by number and place. The place is a step of the path, or 0.
use Rattle.fault.specs.declared.Layer.TheVariants.{Tree}
use Rattle.fault.specs.declared.Report.{Report}
use Rattle.tree.specs.declared.failure.TreeFault.{TreeFault}
use Rattle.tree.specs.declared.failure.TreeFault.TheVariants.{Nowhere, Unsuited, Occupied, Unlawful, Forbidden, Limit}

abbrev pub told_tree : TreeFault → Report
told_tree (Forbidden s) = record { layer = Tree; number = 5; place = s }
told_tree (Unlawful s) = record { layer = Tree; number = 8; place = s }
told_tree Limit = record { layer = Tree; number = 11; place = 0 }
told_tree (Nowhere s) = record { layer = Tree; number = 14; place = s }
told_tree (Unsuited s) = record { layer = Tree; number = 15; place = s }
told_tree (Occupied s) = record { layer = Tree; number = 16; place = s }
