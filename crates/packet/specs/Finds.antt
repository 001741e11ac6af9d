-- What finding a packet answers.
use Rattle.std.specs.Prelude.{◌≡◌, ℕ, ◌+◌, ◌<◌, ◌≤◌, Bool, true, false, ◌≢◌, ◌⊎◌, List, length, Some, None, Ok, Err, Option, Result, slice_index_or}
use Rattle.medium.specs.Cells.{Cell, byte, lost}
use Rattle.code.specs.Codes.{Laws, Scalar}
use Rattle.text.specs.Stands.{CharAt, Holds, Stands, bytes_of}
use Rattle.packet.specs.Texts.{Header, Trailer}
use Rattle.packet.specs.Parts.{Ends}
use Rattle.packet.specs.declared.failure.PacketFault.{PacketFault}
use Rattle.packet.specs.declared.failure.PacketFault.TheVariants.{Unreadable, NoHeader, NoTrailer}
use Rattle.packet.specs.declared.trailer.Ending.{Ending}

-- the letter of a trailer: may the packet be written?
abbrev pub mode_of : Bool → ℕ
mode_of true = 119
mode_of false = 114

-- what the letter c of a trailer says, or it is none
abbrev pub LetterOf : ℕ → Option Bool → Type 0
LetterOf c (Some w) = c ≡ mode_of w
LetterOf c None = (w : Bool) → c ≢ mode_of w

-- whether the cell at k holds the byte b
abbrev pub HoldsByte : List Cell → ℕ → ℕ → Bool → Type 0
HoldsByte cs k b true = slice_index_or cs k lost ≡ byte b
HoldsByte cs k b false = slice_index_or cs k lost ≢ byte b

-- the first place from `from` on whose cell holds the byte b, or there is none
abbrev pub NextByte : List Cell → ℕ → ℕ → Option ℕ → Type 0
NextByte cs from b (Some k) = (from ≤ k) × (k < length cs) × HoldsByte cs k b true × ((j : ℕ) → from ≤ j → j < k → HoldsByte cs j b false)
NextByte cs from b None = (j : ℕ) → from ≤ j → HoldsByte cs j b false

module _ (enc : ℕ → List ℕ) (cs : List Cell) where
  -- the lowest place at which a header stands, and the place behind that header
  abbrev pub FirstHeader : ℕ → Option (ℕ × ℕ) → Type 0
  FirstHeader unit (Some x) = Ends enc cs (Header unit) x.0 (Some x.1) × ((j : ℕ) → j < x.0 → Ends enc cs (Header unit) j None)
  FirstHeader unit None = (j : ℕ) → Ends enc cs (Header unit) j None

  -- the trailer at k: whether the packet may be written, and the place behind it
  abbrev pub TrailerAt : ℕ → Option Ending → Type 0
  TrailerAt k (Some x) = Ends enc cs (Trailer (mode_of x.writable)) k (Some x.end)
  TrailerAt k None = (w : Bool) → Ends enc cs (Trailer (mode_of w)) k None

  -- no trailer that ends by the limit stands at k
  abbrev pub NoTrailerBy : ℕ → ℕ → Type 0
  NoTrailerBy limit k = (w : Bool) (t : List ℕ) → Trailer (mode_of w) t → Stands enc cs k t → k + length (bytes_of enc t) ≤ limit → ⊥

  -- the trailer at k, if it ends by the limit
  abbrev pub TrailerBy : ℕ → ℕ → Option Ending → Type 0
  TrailerBy limit k (Some x) = Ends enc cs (Trailer (mode_of x.writable)) k (Some x.end) × (x.end ≤ limit)
  TrailerBy limit k None = NoTrailerBy limit k

  -- one character on from k, by the limit
  abbrev pub OneOn : ℕ → ℕ → ℕ → Type 0
  OneOn limit k e = (v : ℕ) × Scalar v × Holds cs k (enc v) × (e ≡ k + length (enc v)) × (e ≤ limit)

  -- from start to q, character by character, and no trailer stands at any of them
  pub data Passed (start limit : ℕ) : ℕ → Type 0 where
    begun : Passed start limit start
    more : (q e : ℕ) → Passed start limit q → NoTrailerBy limit q → OneOn limit q e → Passed start limit e

  -- at q the medium ends, or the limit is reached, or the character there would pass it
  abbrev pub Over : ℕ → ℕ → Type 0
  Over limit q = (length cs ≤ q) ⊎ ((limit ≤ q) ⊎ ((v : ℕ) × Scalar v × Holds cs q (enc v) × (limit < q + length (enc v))))

  -- the place behind the character at q, in a packet whose header stands at place, or what ends the reading there
  abbrev pub CharacterBy : ℕ → ℕ → ℕ → Result ℕ PacketFault → Type 0
  CharacterBy place limit q (Ok e) = OneOn limit q e
  CharacterBy place limit q (Err (Unreadable f)) = CharAt enc cs q (Err f)
  CharacterBy place limit q (Err (NoHeader p)) = ⊥
  CharacterBy place limit q (Err (NoTrailer p)) =
      (p ≡ place) × ((v : ℕ) × Scalar v × Holds cs q (enc v) × (limit < q + length (enc v)))

  -- the first trailer behind start, of a packet whose header stands at place
  abbrev pub FirstTrailer : ℕ → ℕ → Result Ending PacketFault → Type 0
  FirstTrailer place start (Ok x) =
      (q : ℕ) × Passed start (place + 16384) q × Ends enc cs (Trailer (mode_of x.writable)) q (Some x.end) × (x.end ≤ place + 16384)
  FirstTrailer place start (Err (Unreadable f)) =
      (q : ℕ) × Passed start (place + 16384) q × NoTrailerBy (place + 16384) q × (q < length cs) × (q < place + 16384) × CharAt enc cs q (Err f)
  FirstTrailer place start (Err (NoHeader p)) = ⊥
  FirstTrailer place start (Err (NoTrailer p)) =
      (p ≡ place) × (q : ℕ) × Passed start (place + 16384) q × NoTrailerBy (place + 16384) q × Over (place + 16384) q

  -- the packet that is found: the lowest header, and the first trailer behind it
  abbrev pub PacketAt : ℕ → ℕ → ℕ → Bool → Type 0
  PacketAt unit place len w =
      (start : ℕ) × FirstHeader unit (Some (place, start)) × FirstTrailer place start (Ok (record { writable = w; end = place + len })) × (len ≤ 16384)

  -- why none is found
  abbrev pub NoPacket : ℕ → PacketFault → Type 0
  NoPacket unit (NoHeader p) = (p ≡ 0) × FirstHeader unit None
  NoPacket unit (Unreadable f) = (place : ℕ) × (start : ℕ) × FirstHeader unit (Some (place, start)) × FirstTrailer place start (Err (Unreadable f))
  NoPacket unit (NoTrailer p) = (place : ℕ) × (start : ℕ) × FirstHeader unit (Some (place, start)) × FirstTrailer place start (Err (NoTrailer p))

  -- what find answers, in numbers: place, length and whether the packet may be written
  abbrev pub Finds : ℕ → Result (ℕ × ℕ × Bool) PacketFault → Type 0
  Finds unit (Ok x) = PacketAt unit x.0 x.1 x.2
  Finds unit (Err f) = NoPacket unit f

-- in every medium and every lawful code find has one answer
abbrev pub OneAnswer : Type 0
OneAnswer =
    (enc : ℕ → List ℕ) (unit : ℕ) → Laws enc unit → (cs : List Cell) (r s : Result (ℕ × ℕ × Bool) PacketFault) → Finds enc cs unit r → Finds enc cs unit s → r ≡ s
