-- UTF-8: the bits of a number in one byte, or in a lead byte and tail bytes.
use Rattle.std.specs.Prelude.{ℕ, ◌+◌, ◌/◌, ◌%◌, cond, List, [], ◌∷◌, nat_lt}

-- 0xxxxxxx
abbrev pub one : ℕ → List ℕ
one v = v ∷ []

-- 110xxxxx 10xxxxxx
abbrev pub two : ℕ → List ℕ
two v = (192 + v / 64) ∷ (128 + v % 64) ∷ []

-- 1110xxxx 10xxxxxx 10xxxxxx
abbrev pub three : ℕ → List ℕ
three v = (224 + v / 64 / 64) ∷ (128 + v / 64 % 64) ∷ (128 + v % 64) ∷ []

-- 11110xxx 10xxxxxx 10xxxxxx 10xxxxxx
abbrev pub four : ℕ → List ℕ
four v = (240 + v / 64 / 64 / 64) ∷ (128 + v / 64 / 64 % 64) ∷ (128 + v / 64 % 64) ∷ (128 + v % 64) ∷ []

-- each in the shortest of these that has the room
unfoldable pub enc8 : ℕ → List ℕ
enc8 v = cond (nat_lt v 128) (one v) (cond (nat_lt v 2048) (two v) (cond (nat_lt v 65536) (three v) (four v)))
