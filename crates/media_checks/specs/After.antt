-- A byte that is put through a window and then fetched from the medium underneath.
use Rattle.std.specs.Prelude.{◌≡◌, ℕ, ◌+◌, List, Ok, Err, Result, slice_set}
use Rattle.medium.specs.Cells.{Cell, byte}
use Rattle.medium.specs.Access.{Refuses}
use Rattle.medium.specs.declared.failure.MediumFault.{MediumFault}

-- the byte comes back, and one cell of the medium has changed; or the window refuses, and none has
abbrev pub PutFetched : List Cell → List Cell → ℕ → ℕ → ℕ → List Cell → Result ℕ MediumFault → Type 0
PutFetched cs seen from k b ds (Ok x) = (x ≡ b) × (ds ≡ slice_set cs (from + k) (byte b))
PutFetched cs seen from k b ds (Err e) = Refuses seen k e × (ds ≡ cs)
