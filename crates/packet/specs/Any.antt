-- What finding a packet in any code answers.
use Rattle.std.specs.Prelude.{◌≡◌, ℕ, ◌<◌, ◌≤◌, List, Some, None, Err, Option}
use Rattle.medium.specs.Cells.{Cell}
use Rattle.code.specs.Utf8.{enc8}
use Rattle.code.specs.Utf16.{big_pair, enc16, little_pair}
use Rattle.packet.specs.Texts.{Header}
use Rattle.packet.specs.Parts.{Ends}
use Rattle.packet.specs.Finds.{FirstHeader, FirstTrailer, PacketAt}
use Rattle.packet.specs.declared.failure.PacketFault.{PacketFault}
use Rattle.packet.specs.declared.failure.PacketFault.TheVariants.{Unreadable, NoHeader, NoTrailer}
use Rattle.packet.specs.declared.any.AnyFound.{AnyFound}
use Rattle.packet.specs.declared.any.AnyFound.TheVariants.{InUtf8, InUtf16Be, InUtf16Le}

-- the codes
pub data Code : Type 0 where
  utf8 : Code
  utf16be : Code
  utf16le : Code

abbrev pub enc_of : Code → ℕ → List ℕ
enc_of utf8 = enc8
enc_of utf16be = enc16 big_pair
enc_of utf16le = enc16 little_pair

abbrev pub unit_of : Code → ℕ
unit_of utf8 = 1
unit_of utf16be = 2
unit_of utf16le = 2

-- the header at a is not above the one at b, where one that is not there is above all
abbrev pub NotAbove : Option (ℕ × ℕ) → Option (ℕ × ℕ) → Type 0
NotAbove (Some x) (Some y) = x.0 ≤ y.0
NotAbove (Some x) None = Unit {0}
NotAbove None (Some y) = ⊥
NotAbove None None = Unit {0}

-- no header stands below the place, in any code
abbrev pub NoneBelow : List Cell → ℕ → Type 0
NoneBelow cs place = (d : Code) (j : ℕ) → j < place → Ends (enc_of d) cs (Header (unit_of d)) j None

abbrev pub FoundAny : List Cell → AnyFound → Type 0
FoundAny cs (InUtf8 f) = PacketAt (enc_of utf8) cs (unit_of utf8) f.extent.place f.extent.len f.writable × NoneBelow cs f.extent.place
FoundAny cs (InUtf16Be f) = PacketAt (enc_of utf16be) cs (unit_of utf16be) f.extent.place f.extent.len f.writable × NoneBelow cs f.extent.place
FoundAny cs (InUtf16Le f) = PacketAt (enc_of utf16le) cs (unit_of utf16le) f.extent.place f.extent.len f.writable × NoneBelow cs f.extent.place

-- the lowest header has no trailer in reach, or something that cannot be read comes first
abbrev pub Broken : List Cell → PacketFault → Type 0
Broken cs f =
    (c : Code) × (place : ℕ) × (start : ℕ) × FirstHeader (enc_of c) cs (unit_of c) (Some (place, start)) × NoneBelow cs place × FirstTrailer (enc_of c) cs place start (Err f)

abbrev pub NoneInAny : List Cell → PacketFault → Type 0
NoneInAny cs (NoHeader p) = (p ≡ 0) × ((d : Code) → FirstHeader (enc_of d) cs (unit_of d) None)
NoneInAny cs (Unreadable f) = Broken cs (Unreadable f)
NoneInAny cs (NoTrailer p) = Broken cs (NoTrailer p)
