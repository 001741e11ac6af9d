-- The items of marked-up text, and what is kept of each.
use Rattle.std.specs.Prelude.{◌≡◌, ℕ, ◌+◌, true, false, cond, List, [], ◌∷◌, ◌++◌, length, nat_lt}
use Rattle.std.specs.List.{AllByRecursion}
use Rattle.characters.specs.Classes.{is_name}
use Rattle.names.specs.Order.{Text}

-- a name as it is written: with a prefix and a colon, or without
pub data QName : Type 0 where
  bare : Text → QName
  prefixed : Text → Text → QName

abbrev pub written : QName → Text
written (bare l) = l
written (prefixed p l) = p ++ (58 ∷ l)

-- a name without a colon
abbrev pub NcName : Text → Type 0
NcName [] = ⊥
NcName (c ∷ t) = (is_name true c ≡ true) × AllByRecursion (λ d. is_name false d ≡ true) t

abbrev pub IsQName : QName → Type 0
IsQName (bare l) = NcName l
IsQName (prefixed p l) = NcName p × NcName l

-- a character of a text or a value, and how many characters of the source spell it: one that stands for itself has 1, a reference more
pub record Piece : Type 0 where
  pub width : ℕ
  pub char : ℕ

abbrev pub literal : ℕ → Piece
literal c = record { width = 1; char = c }

abbrev pub chars : List Piece → Text
chars [] = []
chars (p ∷ ps) = p.char ∷ chars ps

abbrev pub widths : List Piece → ℕ
widths [] = 0
widths (p ∷ ps) = p.width + widths ps

-- an attribute: how many characters stand before its value, from the end of what comes before it, its name and its value
pub record Attr : Type 0 where
  pub lead : ℕ
  pub name : QName
  pub value : List Piece

-- what stands at a place: a tag, a comment, an instruction, the beginning of what is refused for what it is, or a run of text
pub data Token : Type 0 where
  Start : QName → List Attr → Token
  Empty : QName → List Attr → Token
  End : QName → Token
  Comment : Token
  Instruction : Token
  Doctype : Token
  Cdata : Token
  Words : Piece → List Piece → Token

-- The references of an item: how far on each begins, and the number that it names.
abbrev pub references : ℕ → List Piece → List (ℕ × ℕ)
references k [] = []
references k (p ∷ ps) = cond (nat_lt 1 p.width) ((k, p.char) ∷ references (k + p.width) ps) (references (k + p.width) ps)

abbrev pub attr_references : ℕ → List Attr → List (ℕ × ℕ)
attr_references k [] = []
attr_references k (a ∷ as') = references (k + a.lead) a.value ++ attr_references (k + a.lead + widths a.value + 1) as'

abbrev pub references_of : Token → List (ℕ × ℕ)
references_of (Start n as') = attr_references (1 + length (written n)) as'
references_of (Empty n as') = attr_references (1 + length (written n)) as'
references_of (End n) = []
references_of Comment = []
references_of Instruction = []
references_of Doctype = []
references_of Cdata = []
references_of (Words p ps) = references 0 (p ∷ ps)
