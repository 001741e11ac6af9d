-- Why no more than so many bytes were got.
use Rattle.std.specs.Prelude.{◌≡◌, ℕ, ◌+◌, ◌<◌, ◌≤◌, List, length, slice_index_or}
use Rattle.code.specs.declared.failure.CodeFault.{CodeFault}
use Rattle.code.specs.declared.failure.CodeFault.TheVariants.{Unread, NoCharacter}
use Rattle.medium.specs.Cells.{Cell, lost}
use Rattle.medium.specs.declared.failure.MediumFault.TheVariants.{OutOfRange, Lost}

-- after n bytes from k on, fewer than four, the next cell is lost, and the fault is its; or the n bytes are four or the last
abbrev pub Ended : List Cell → ℕ → ℕ → CodeFault → Type 0
Ended cs k n (Unread (OutOfRange p)) = ⊥
Ended cs k n (Unread (Lost p)) = (p ≡ k + n) × (n < 4) × (p < length cs) × (slice_index_or cs p lost ≡ lost)
Ended cs k n (NoCharacter p) = (p ≡ k) × (n < 4 → length cs ≤ k + n)
