-- Characters and texts as they stand in cells.
use Rattle.std.specs.Prelude.{◌≡◌, ℕ, ◌+◌, ◌<◌, ◌≤◌, ◌≢◌, List, [], ◌∷◌, ◌++◌, length, take, drop, Some, None, Ok, Err, Option, Result, slice_index_or}
use Rattle.code.specs.Codes.{Scalar}
use Rattle.code.specs.declared.failure.CodeFault.{CodeFault}
use Rattle.code.specs.declared.failure.CodeFault.TheVariants.{Unread, NoCharacter}
use Rattle.medium.specs.Cells.{Cell, held, lost}
use Rattle.medium.specs.declared.failure.MediumFault.TheVariants.{OutOfRange, Lost}

-- the cells from the place k on hold these bytes
abbrev pub Holds : List Cell → ℕ → List ℕ → Type 0
Holds cs k bs = take (length bs) (drop k cs) ≡ held bs

-- p is the first lost one of the four cells from k on
abbrev pub Cut : List Cell → ℕ → ℕ → Type 0
Cut cs k p =
    (k ≤ p) × (p < k + 4) × (p < length cs) × (slice_index_or cs p lost ≡ lost) × ((q : ℕ) → k ≤ q → q < p → slice_index_or cs q lost ≢ lost)

-- a text of scalar values
abbrev pub Scalars : List ℕ → Type 0
Scalars [] = Unit {0}
Scalars (v ∷ vs) = Scalar v × Scalars vs

module _ (enc : ℕ → List ℕ) where
  -- the bytes of a text: those of its characters in a row
  abbrev pub bytes_of : List ℕ → List ℕ
  bytes_of [] = []
  bytes_of (v ∷ vs) = enc v ++ bytes_of vs

  -- the text stands at k
  abbrev pub Stands : List Cell → ℕ → List ℕ → Type 0
  Stands cs k vs = Scalars vs × Holds cs k (bytes_of vs)

  -- no character stands at k
  abbrev pub NoChar : List Cell → ℕ → Type 0
  NoChar cs k = (v : ℕ) → Scalar v → Holds cs k (enc v) → ⊥

  -- the character at k and the count of its bytes. Where there is none, the fault is that of a lost cell among the four from k
  -- on, or else that no character begins there
  abbrev pub CharAt : List Cell → ℕ → Result (ℕ × ℕ) CodeFault → Type 0
  CharAt cs k (Ok c) = Scalar c.0 × Holds cs k (enc c.0) × (c.1 ≡ length (enc c.0))
  CharAt cs k (Err (Unread (OutOfRange p))) = ⊥
  CharAt cs k (Err (Unread (Lost p))) = NoChar cs k × Cut cs k p
  CharAt cs k (Err (NoCharacter p)) = NoChar cs k × (p ≡ k) × ((q : ℕ) → Cut cs k q → ⊥)

  -- the character at k, and the place behind it
  abbrev pub Stepped : List Cell → ℕ → Option (ℕ × ℕ) → Type 0
  Stepped cs k (Some c) = Scalar c.0 × Holds cs k (enc c.0) × (c.1 ≡ k + length (enc c.0))
  Stepped cs k None = NoChar cs k

  -- the place behind the character v, if it stands at k
  abbrev pub Expected : List Cell → ℕ → ℕ → Option ℕ → Type 0
  Expected cs k v (Some e) = Scalar v × Holds cs k (enc v) × (e ≡ k + length (enc v))
  Expected cs k v None = Scalar v → Holds cs k (enc v) → ⊥

  -- the place behind a text, if it stands at k
  abbrev pub WordAt : List Cell → ℕ → List ℕ → Option ℕ → Type 0
  WordAt cs k vs (Some e) = Stands cs k vs × (e ≡ k + length (bytes_of vs))
  WordAt cs k vs None = Stands cs k vs → ⊥
