-- The refusals of this layer, by number and place.
use Rattle.fault.specs.declared.Layer.TheVariants.{Medium}
use Rattle.fault.specs.declared.Report.{Report}
use Rattle.medium.specs.declared.failure.MediumFault.{MediumFault}
use Rattle.medium.specs.declared.failure.MediumFault.TheVariants.{OutOfRange, Lost}

abbrev pub told_medium : MediumFault → Report
told_medium (OutOfRange p) = record { layer = Medium; number = 1; place = p }
told_medium (Lost p) = record { layer = Medium; number = 2; place = p }
