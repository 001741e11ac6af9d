-- What fetch and put answer, and when they refuse.
use Rattle.std.specs.Prelude.{◌≡◌, ℕ, ◌<◌, ◌≤◌, ◌≢◌, List, length, Ok, Err, Result, slice_index_or, slice_set}
use Rattle.medium.specs.Cells.{Cell, byte, lost}
use Rattle.medium.specs.declared.failure.MediumFault.{MediumFault}
use Rattle.medium.specs.declared.failure.MediumFault.TheVariants.{OutOfRange, Lost}

-- why there is no byte at the place k. No place has both faults, and one with neither has a byte
abbrev pub Refuses : List Cell → ℕ → MediumFault → Type 0
Refuses cs k (OutOfRange p) = (p ≡ k) × (length cs ≤ k)
Refuses cs k (Lost p) = (p ≡ k) × (k < length cs) × (slice_index_or cs k lost ≡ lost)

-- fetch at k
abbrev pub Fetched : List Cell → ℕ → Result ℕ MediumFault → Type 0
Fetched cs k (Ok b) = (k < length cs) × (slice_index_or cs k lost ≡ byte b)
Fetched cs k (Err e) = Refuses cs k e

-- put of b at k turns the cells cs into ds: that one cell and no other, or nothing where it is refused
abbrev pub Put : List Cell → ℕ → ℕ → List Cell → Result (Unit {0}) MediumFault → Type 0
Put cs k b ds (Ok u) = (k < length cs) × (slice_index_or cs k lost ≢ lost) × (ds ≡ slice_set cs k (byte b))
Put cs k b ds (Err e) = Refuses cs k e × (ds ≡ cs)

-- what a put leaves of whatever the medium stands on: x in the place k and nothing else, or all as it was where it is refused
abbrev pub Replaced : {A : Type 0} → List A → ℕ → A → List A → Result (Unit {0}) MediumFault → Type 0
Replaced xs k x ys (Ok u) = ys ≡ slice_set xs k x
Replaced xs k x ys (Err e) = ys ≡ xs
