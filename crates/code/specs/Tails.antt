-- Reading the lead byte and the tail bytes, 10xxxxxx, of UTF-8.
use Rattle.std.specs.Prelude.{◌≡◌, ℕ, ◌+◌, ◌<◌, ◌≤◌, ◌⊎◌, List, Ok, Err, Result, slice_index}
use Rattle.code.specs.declared.failure.CodeFault.{CodeFault}
use Rattle.code.specs.declared.failure.CodeFault.TheVariants.{Unread, NoCharacter}

-- b is the tail byte of the six bits x, or none
abbrev pub TailBits : ℕ → Result ℕ CodeFault → Type 0
TailBits b (Ok x) = (x < 64) × (b ≡ 128 + x)
TailBits b (Err (NoCharacter p)) = (p ≡ 0) × (128 ≤ b → 192 ≤ b)
TailBits b (Err (Unread e)) = ⊥

-- the lead byte `from` with the bits x, for which it has room
abbrev pub Lead : List ℕ → ℕ → ℕ → ℕ → Type 0
Lead bs from room x = (slice_index bs 0 ≡ from + x) × (x < room)

-- the lead byte of n bytes, 110xxxxx, 1110xxxx or 11110xxx, which holds the bits x; the numbers below the least have a shorter form
abbrev pub Longer : List ℕ → ℕ → ℕ → ℕ → Type 0
Longer bs x n least =
    (Lead bs 192 32 x × (n ≡ 2) × (least ≡ 128)) ⊎
    ((Lead bs 224 16 x × (n ≡ 3) × (least ≡ 2048)) ⊎
    (Lead bs 240 16 x × (n ≡ 4) × (least ≡ 65536)))
