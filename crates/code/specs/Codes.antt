-- What a text code is, and what its calls answer.
use Rattle.std.specs.Prelude.{◌≡◌, ℕ, ◌*◌, ◌<◌, ◌≤◌, List, length, take, Ok, Err, Result, slice_index}
use Rattle.arrayvec.specs.ArrayVec.{ArrayVec}
use Rattle.code.specs.declared.failure.CodeFault.{CodeFault}
use Rattle.code.specs.declared.failure.CodeFault.TheVariants.{Unread, NoCharacter}

-- a scalar value: at most hexadecimal 10FFFF, and, where it is at least D800, at least E000
abbrev pub Scalar : ℕ → Type 0
Scalar v = (v < 1114112) × (55296 ≤ v → 57344 ≤ v)

-- the bytes of v come first in bs
abbrev pub Begins : (ℕ → List ℕ) → ℕ → List ℕ → Type 0
Begins enc v bs = take (length (enc v)) bs ≡ enc v

pub record Laws (enc : ℕ → List ℕ) (unit : ℕ) : Type 0 where
  -- one to four bytes
  pub some : (v : ℕ) → Scalar v → 1 ≤ length (enc v)
  pub few : (v : ℕ) → Scalar v → length (enc v) ≤ 4
  pub bytes : (v : ℕ) → Scalar v → (i : ℕ) → slice_index (enc v) i < 256
  -- the bytes of no scalar value begin those of another
  pub apart : (v w : ℕ) → Scalar v → Scalar w → Begins enc v (enc w) → v ≡ w
  -- U+0020 and U+000A have the length of the unit, and every length is a multiple of it
  pub space : length (enc 32) ≡ unit
  pub newline : length (enc 10) ≡ unit
  pub whole : (v : ℕ) → Scalar v → (n : ℕ) × (length (enc v) ≡ n * unit)

-- the bytes of v, or v is no scalar value
abbrev pub Encoded : (ℕ → List ℕ) → ℕ → Result (ArrayVec ℕ) CodeFault → Type 0
Encoded enc v (Ok b) = Scalar v × (b.items ≡ enc v)
Encoded enc v (Err (NoCharacter p)) = (p ≡ 0) × (Scalar v → ⊥)
Encoded enc v (Err (Unread e)) = ⊥

-- the scalar value whose bytes come first in bs, with their count, or there is none
abbrev pub Decoded : (ℕ → List ℕ) → List ℕ → Result (ℕ × ℕ) CodeFault → Type 0
Decoded enc bs (Ok p) = Scalar p.0 × Begins enc p.0 bs × (p.1 ≡ length (enc p.0))
Decoded enc bs (Err (NoCharacter p)) = (p ≡ 0) × ((v : ℕ) → Scalar v → Begins enc v bs → ⊥)
Decoded enc bs (Err (Unread e)) = ⊥

-- v itself, if it is a scalar value
abbrev pub Tested : ℕ → Result ℕ CodeFault → Type 0
Tested v (Ok c) = Scalar v × (c ≡ v)
Tested v (Err (NoCharacter p)) = (p ≡ 0) × (Scalar v → ⊥)
Tested v (Err (Unread e)) = ⊥
