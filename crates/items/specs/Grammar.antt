-- The grammar of one item, in the words of XML 1.0: which text spells it. Line ends are U+000A already. A text that is no item is
-- not described.
use Rattle.std.specs.Prelude.{◌≡◌, ℕ, ◌+◌, ◌-◌, ◌*◌, Bool, true, false, cond, ◌&&◌, ◌||◌, ◌≢◌, ◌⊎◌, List, [], ◌∷◌, ◌++◌, length, codes, ◌==◌, nat_le}
use Rattle.std.specs.List.{AllByRecursion}
use Rattle.characters.specs.Classes.{is_white}
use Rattle.names.specs.Order.{Text}
use Rattle.items.specs.Tokens.{QName, written, NcName, IsQName, Piece, literal, Attr, Token, Start, Empty, End, Comment, Instruction, Doctype, Cdata, Words}

-- things spelt one after the other
pub data Each {A : Type 0} (R : Text → A → Type 0) : Text → List A → Type 0 where
  no_more : Each R [] []
  next : {a s : Text} {x : A} {xs : List A} → R a x → Each R s xs → Each R (a ++ s) (x ∷ xs)

-- white space, and white space that must be there
abbrev pub White : Text → Type 0
White z = AllByRecursion (λ c. is_white c ≡ true) z

abbrev pub Space : Text → Type 0
Space [] = ⊥
Space (c ∷ z) = (is_white c ≡ true) × White z

-- Digits and the number that they spell.
abbrev pub is_decimal : ℕ → Bool
is_decimal c = nat_le 48 c && nat_le c 57

abbrev pub is_hexadecimal : ℕ → Bool
is_hexadecimal c = is_decimal c || ((nat_le 65 c && nat_le c 70) || (nat_le 97 c && nat_le c 102))

abbrev pub digit : ℕ → ℕ
digit c = cond (nat_le c 57) (c - 48) (cond (nat_le c 70) (c - 55) (c - 87))

abbrev pub number : ℕ → ℕ → Text → ℕ
number base n [] = n
number base n (c ∷ t) = number base (n * base + digit c) t

abbrev pub Digits : (ℕ → Bool) → Text → Type 0
Digits f [] = ⊥
Digits f (c ∷ t) = (f c ≡ true) × AllByRecursion (λ d. f d ≡ true) t

-- what stands between `&` and `;`, and the number of the character that it names
pub data Refers : Text → ℕ → Type 0 where
  ampersand : Refers (codes "amp") 38
  less : Refers (codes "lt") 60
  greater : Refers (codes "gt") 62
  quote : Refers (codes "quot") 34
  apostrophe : Refers (codes "apos") 39
  decimal : {t : Text} → Digits is_decimal t → Refers (35 ∷ t) (number 10 0 t)
  hexadecimal : {t : Text} → Digits is_hexadecimal t → Refers (35 ∷ 120 ∷ t) (number 16 0 t)

-- a character of a run: itself, or by reference
pub data InText : Text → Piece → Type 0 where
  itself : (c : ℕ) → c ≢ 38 → c ≢ 60 → InText (c ∷ []) (literal c)
  reference : {r : Text} {c : ℕ} → Refers r c → InText (38 ∷ (r ++ (59 ∷ []))) (record { width = length r + 2; char = c })

-- a character of a value between quotes q: white space becomes a space unless it is given by reference
abbrev pub spaced : ℕ → ℕ
spaced c = cond (is_white c) 32 c

pub data InValue (q : ℕ) : Text → Piece → Type 0 where
  itself : (c : ℕ) → c ≢ q → c ≢ 38 → c ≢ 60 → InValue q (c ∷ []) (literal (spaced c))
  reference : {r : Text} {c : ℕ} → Refers r c → InValue q (38 ∷ (r ++ (59 ∷ []))) (record { width = length r + 2; char = c })

-- `]]>` does not stand in a run as it is
abbrev pub NoCdataEnd : List Piece → Type 0
NoCdataEnd ps = (ys zs : List Piece) → ps ≢ ys ++ (literal 93 ∷ literal 93 ∷ literal 62 ∷ zs)

-- an attribute: white space, the name, `=` with white space around it or none, and the value between equal quotes
pub data IsAttr : Text → Attr → Type 0 where
  attribute : (y z w : Text) (n : QName) (q : ℕ) {v : Text} {ps : List Piece} → Space y → IsQName n → White z → White w → (q ≡ 34) ⊎ (q ≡ 39) → Each (InValue q) v ps → IsAttr (y ++ (written n ++ (z ++ (61 ∷ (w ++ (q ∷ (v ++ (q ∷ [])))))))) (record { lead = length y + length (written n) + length z + 1 + length w + 1; name = n; value = ps })

-- a comment: no `-` but one that another character follows
pub data InComment : Text → ℕ → Type 0 where
  itself : (c : ℕ) → c ≢ 45 → InComment (c ∷ []) c
  hyphen : (c : ℕ) → c ≢ 45 → InComment (45 ∷ c ∷ []) c

-- the target of an instruction: a name without a colon, but not `xml` in any case
abbrev pub is_letter : ℕ → ℕ → Bool
is_letter l c = c == l || c == l - 32

abbrev pub is_xml_word : Text → Bool
is_xml_word [] = false
is_xml_word (a ∷ []) = false
is_xml_word (a ∷ b ∷ []) = false
is_xml_word (a ∷ b ∷ c ∷ []) = is_letter 120 a && (is_letter 109 b && is_letter 108 c)
is_xml_word (a ∷ b ∷ c ∷ d ∷ t) = false

abbrev pub NoInstructionEnd : Text → Type 0
NoInstructionEnd t = (ys zs : Text) → t ≢ ys ++ (63 ∷ 62 ∷ zs)

-- what may follow the target: nothing, or white space and any characters up to the first `?>`
abbrev pub InstructionData : Text → Type 0
InstructionData [] = Unit {0}
InstructionData (c ∷ t) = (is_white c ≡ true) × NoInstructionEnd t

-- items that begin with `<`
pub data IsTag : Text → Token → Type 0 where
  start : (n : QName) (z : Text) {s : Text} {as' : List Attr} → IsQName n → Each IsAttr s as' → White z → IsTag (60 ∷ (written n ++ (s ++ (z ++ (62 ∷ []))))) (Start n as')
  empty : (n : QName) (z : Text) {s : Text} {as' : List Attr} → IsQName n → Each IsAttr s as' → White z → IsTag (60 ∷ (written n ++ (s ++ (z ++ (47 ∷ 62 ∷ []))))) (Empty n as')
  end : (n : QName) (z : Text) → IsQName n → White z → IsTag (60 ∷ 47 ∷ (written n ++ (z ++ (62 ∷ [])))) (End n)
  comment : {s : Text} {t : Text} → Each InComment s t → IsTag (60 ∷ 33 ∷ 45 ∷ 45 ∷ (s ++ (45 ∷ 45 ∷ 62 ∷ []))) Comment
  instruction : (n t : Text) → NcName n → is_xml_word n ≡ false → InstructionData t → IsTag (60 ∷ 63 ∷ (n ++ (t ++ (63 ∷ 62 ∷ [])))) Instruction
  doctype : IsTag (codes "<!DOCTYPE") Doctype
  cdata : IsTag (codes "<![CDATA[") Cdata

-- a run of text goes up to the next `<` or to the end
abbrev pub Stops : Text → Type 0
Stops [] = Unit {0}
Stops (c ∷ s) = c ≡ 60

-- the item at the front of a text, and what comes behind it
pub data Item : Text → Token → Text → Type 0 where
  tag : {a r : Text} {t : Token} → IsTag a t → Item (a ++ r) t r
  run : {a r : Text} {p : Piece} {ps : List Piece} → Each InText a (p ∷ ps) → NoCdataEnd (p ∷ ps) → Stops r → Item (a ++ r) (Words p ps) r
