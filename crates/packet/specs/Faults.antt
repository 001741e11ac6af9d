-- The refusals of this layer, by number and place.
use Rattle.fault.specs.declared.Layer.TheVariants.{Packet}
use Rattle.fault.specs.declared.Report.{Report}
use Rattle.code.specs.Faults.{told_code}
use Rattle.packet.specs.declared.failure.PacketFault.{PacketFault}
use Rattle.packet.specs.declared.failure.PacketFault.TheVariants.{Unreadable, NoHeader, NoTrailer}

abbrev pub told_packet : PacketFault → Report
told_packet (Unreadable e) = told_code e
told_packet (NoHeader p) = record { layer = Packet; number = 3; place = p }
told_packet (NoTrailer p) = record { layer = Packet; number = 4; place = p }
