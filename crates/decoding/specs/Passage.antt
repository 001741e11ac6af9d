-- The text from a place of a medium up to an end, character by character, as if the medium ended there.
use Rattle.std.specs.Prelude.{◌≡◌, ℕ, ◌+◌, ◌<◌, List, length, take, Ok, Err, Result}
use Rattle.medium.specs.Cells.{Cell}
use Rattle.code.specs.Codes.{Laws}
use Rattle.code.specs.declared.failure.CodeFault.{CodeFault}
use Rattle.text.specs.Stands.{CharAt, Holds, Scalars, Stands, bytes_of}

module _ (enc : ℕ → List ℕ) (cs : List Cell) where
  -- the text whose characters stand from k on and end where the medium does; or, behind those that do stand, the fault of the first
  -- character that cannot be read
  abbrev pub Characters : ℕ → ℕ → Result (List ℕ) CodeFault → Type 0
  Characters k end (Ok vs) = Stands enc (take end cs) k vs × (k + length (bytes_of enc vs) ≡ end)
  Characters k end (Err f) =
      (vs : List ℕ) × Stands enc (take end cs) k vs × (k + length (bytes_of enc vs) < end) × CharAt enc (take end cs) (k + length (bytes_of enc vs)) (Err f)

-- where the character with the index i begins, of a text that stands at k; past the last, where the text ends
abbrev pub place_of : (ℕ → List ℕ) → ℕ → List ℕ → ℕ → ℕ
place_of enc k vs i = k + length (bytes_of enc (take i vs))

-- what is proved of a lawful code: of one range of cells no two answers are right, what was encoded is decoded again, and characters
-- further on begin at higher places
pub record Decodes (enc : ℕ → List ℕ) : Type 0 where
  pub once : (cs : List Cell) (k end : ℕ) (r s : Result (List ℕ) CodeFault) → Characters enc cs k end r → Characters enc cs k end s → r ≡ s
  pub back : (cs : List Cell) (k : ℕ) (vs : List ℕ) → Scalars vs → Holds cs k (bytes_of enc vs) → Characters enc cs k (k + length (bytes_of enc vs)) (Ok vs)
  pub rising : (k : ℕ) (vs : List ℕ) (i j : ℕ) → Scalars vs → i < j → i < length vs → place_of enc k vs i < place_of enc k vs j

abbrev pub DecodesRight : Type 0
DecodesRight = (enc : ℕ → List ℕ) (unit : ℕ) → Laws enc unit → Decodes enc
