-- The refusal of this layer, by number and place.
use Rattle.fault.specs.declared.Layer.TheVariants.{Packet}
use Rattle.fault.specs.declared.Report.{Report}
use Rattle.canonical.specs.declared.failure.TooLong.{TooLong}

abbrev pub told_too_long : TooLong → Report
told_too_long f = record { layer = Packet; number = 13; place = f.place }
