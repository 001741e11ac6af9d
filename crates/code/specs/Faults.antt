-- The refusals of this layer, by number and place.
use Rattle.fault.specs.declared.Layer.TheVariants.{Code}
use Rattle.fault.specs.declared.Report.{Report}
use Rattle.medium.specs.Faults.{told_medium}
use Rattle.code.specs.declared.failure.CodeFault.{CodeFault}
use Rattle.code.specs.declared.failure.CodeFault.TheVariants.{Unread, NoCharacter}

abbrev pub told_code : CodeFault → Report
told_code (Unread e) = told_medium e
told_code (NoCharacter p) = record { layer = Code; number = 5; place = p }
