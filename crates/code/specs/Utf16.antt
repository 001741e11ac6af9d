-- UTF-16: one or two units of sixteen bits, each of them two bytes.
use Rattle.std.specs.Prelude.{◌≡◌, ℕ, ◌+◌, ◌-◌, ◌/◌, ◌%◌, ◌<◌, ◌≤◌, cond, List, [], ◌∷◌, ◌++◌, length, Some, None, Option, nat_lt, slice_index}

-- the two bytes of a unit, the most significant first
abbrev pub big_pair : ℕ → List ℕ
big_pair u = (u / 256) ∷ (u % 256) ∷ []

-- and the least significant first
abbrev pub little_pair : ℕ → List ℕ
little_pair u = (u % 256) ∷ (u / 256) ∷ []

-- what an order of the bytes comes to: two bytes, of which no other unit has the same
pub record Order (pair : ℕ → List ℕ) : Type 0 where
  pub two : (u : ℕ) → length (pair u) ≡ 2
  pub bytes : (u : ℕ) → u < 65536 → (i : ℕ) → slice_index (pair u) i < 256
  pub apart : (u w : ℕ) → u < 65536 → w < 65536 → pair u ≡ pair w → u ≡ w

-- the surrogates of a number that one unit has no room for
abbrev pub leading : ℕ → ℕ
leading v = 55296 + (v - 65536) / 1024

abbrev pub trailing : ℕ → ℕ
trailing v = 56320 + (v - 65536) % 1024

-- the number whose surrogates a and b are, if there is one
abbrev pub Surrogates : ℕ → ℕ → Option ℕ → Type 0
Surrogates a b (Some v) = (65536 ≤ v) × (v < 1114112) × (a ≡ leading v) × (b ≡ trailing v)
Surrogates a b None = (v : ℕ) → 65536 ≤ v → v < 1114112 → a ≡ leading v → b ≡ trailing v → ⊥

unfoldable pub enc16 : (ℕ → List ℕ) → ℕ → List ℕ
enc16 pair v = cond (nat_lt v 65536) (pair v) (pair (leading v) ++ pair (trailing v))
