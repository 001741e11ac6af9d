-- Header and trailer of a packet looked at again.
use Rattle.std.specs.Prelude.{◌≡◌, ℕ, ◌+◌, ◌≤◌, Bool, List, Some, None, Ok, Err, Option, Result}
use Rattle.medium.specs.Cells.{Cell}
use Rattle.packet.specs.Texts.{Header, Trailer}
use Rattle.packet.specs.Parts.{Ends}
use Rattle.packet.specs.Finds.{mode_of}
use Rattle.packet.specs.declared.failure.PacketFault.{PacketFault}
use Rattle.packet.specs.declared.failure.PacketFault.TheVariants.{Unreadable, NoHeader, NoTrailer}

module _ (enc : ℕ → List ℕ) (cs : List Cell) where
  -- the header at k, if it ends by the limit
  abbrev pub HeaderBy : ℕ → ℕ → ℕ → Option ℕ → Type 0
  HeaderBy unit limit k (Some e) = Ends enc cs (Header unit) k (Some e) × (e ≤ limit)
  HeaderBy unit limit k None = (e : ℕ) → Ends enc cs (Header unit) k (Some e) → e ≤ limit → ⊥

  -- the trailer at k, if it ends at the place `end`
  abbrev pub EndsAt : ℕ → ℕ → Option Bool → Type 0
  EndsAt end k (Some w) = Ends enc cs (Trailer (mode_of w)) k (Some end)
  EndsAt end k None = (w : Bool) → Ends enc cs (Trailer (mode_of w)) k (Some end) → ⊥

  -- the trailer that ends at the place `end` and begins behind start: whether it lets the packet be written
  abbrev pub TrailerEnding : ℕ → ℕ → Option Bool → Type 0
  TrailerEnding start end (Some w) = (q : ℕ) × (start ≤ q) × Ends enc cs (Trailer (mode_of w)) q (Some end)
  TrailerEnding start end None = (w : Bool) (q : ℕ) → start ≤ q → Ends enc cs (Trailer (mode_of w)) q (Some end) → ⊥

  -- a header stands at the place and ends within the packet, and behind it a trailer ends where the packet does
  abbrev pub Examined : ℕ → ℕ → ℕ → Result Bool PacketFault → Type 0
  Examined unit place len (Ok w) =
      (start : ℕ) × Ends enc cs (Header unit) place (Some start) × (start ≤ place + len) × TrailerEnding start (place + len) (Some w)
  Examined unit place len (Err (Unreadable f)) = ⊥
  Examined unit place len (Err (NoHeader p)) = (p ≡ place) × ((e : ℕ) → Ends enc cs (Header unit) place (Some e) → e ≤ place + len → ⊥)
  Examined unit place len (Err (NoTrailer p)) =
      (p ≡ place) × (start : ℕ) × Ends enc cs (Header unit) place (Some start) × (start ≤ place + len) × TrailerEnding start (place + len) None
