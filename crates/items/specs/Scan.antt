-- The scanner: it finds the item at the front of a text, character by character.
use Rattle.std.specs.Prelude.{ℕ, ◌+◌, Bool, true, false, cond, ◌&&◌, ◌||◌, List, [], ◌∷◌, ◌++◌, length, Some, None, codes, Option, ◌==◌}
use Rattle.characters.specs.Classes.{is_white, is_name}
use Rattle.names.specs.Order.{Text, same}
use Rattle.items.specs.Tokens.{QName, bare, prefixed, Piece, literal, Attr, Token, Start, Empty, End, Comment, Instruction, Doctype, Cdata, Words}
use Rattle.items.specs.Grammar.{is_decimal, is_hexadecimal, number, spaced, is_xml_word}

-- Names: a text is split at its first colon.
abbrev pub all_name : Text → Bool
all_name [] = true
all_name (c ∷ t) = is_name false c && all_name t

abbrev pub is_nc_name : Text → Bool
is_nc_name [] = false
is_nc_name (c ∷ t) = is_name true c && all_name t

abbrev pub onto : ℕ → Option (Text × Text) → Option (Text × Text)
onto c None = None
onto c (Some x) = Some (c ∷ x.0, x.1)

abbrev pub split : Text → Option (Text × Text)
split [] = None
split (c ∷ t) = cond (c == 58) (Some ([], t)) (onto c (split t))

abbrev pub as_name : Text → Option (Text × Text) → Option QName
as_name t None = cond (is_nc_name t) (Some (bare t)) None
as_name t (Some x) = cond (is_nc_name x.0 && is_nc_name x.1) (Some (prefixed x.0 x.1)) None

-- the name that a text spells
unfoldable pub q_name : Text → Option QName
q_name t = as_name t (split t)

-- a character that goes on with a name, or the colon in it
abbrev pub is_char_of_name : ℕ → Bool
is_char_of_name c = is_name false c || c == 58

-- References.
abbrev pub all_digits : (ℕ → Bool) → Text → Bool
all_digits f [] = true
all_digits f (c ∷ t) = f c && all_digits f t

abbrev pub is_digits : (ℕ → Bool) → Text → Bool
is_digits f [] = false
is_digits f (c ∷ t) = f c && all_digits f t

abbrev pub decimal_of : Text → Option ℕ
decimal_of t = cond (is_digits is_decimal t) (Some (number 10 0 t)) None

-- behind `#`
abbrev pub numeric : Text → Option ℕ
numeric [] = None
numeric (c ∷ t) = cond (c == 120) (cond (is_digits is_hexadecimal t) (Some (number 16 0 t)) None) (decimal_of (c ∷ t))

abbrev pub entity : Text → Option ℕ
entity t =
    cond (same t (codes "amp")) (Some 38) (cond (same t (codes "lt")) (Some 60) (cond (same t (codes "gt")) (Some 62) (cond (same t (codes "quot")) (Some 34) (cond (same t (codes "apos")) (Some 39) None))))

-- the number that a reference names
abbrev pub referred_by : Text → Option ℕ
referred_by [] = None
referred_by (c ∷ t) = cond (c == 35) (numeric t) (entity (c ∷ t))

unfoldable pub referred : Text → Option ℕ
referred t = referred_by t

-- `]]>` in a run
abbrev pub is_literal : ℕ → Piece → Bool
is_literal c p = p.width == 1 && p.char == c

abbrev pub ends_here : List Piece → Bool
ends_here [] = false
ends_here (a ∷ []) = false
ends_here (a ∷ b ∷ []) = false
ends_here (a ∷ b ∷ c ∷ ps) = is_literal 93 a && (is_literal 93 b && is_literal 62 c)

unfoldable pub has_cdata_end : List Piece → Bool
has_cdata_end [] = false
has_cdata_end (p ∷ ps) = ends_here (p ∷ ps) || has_cdata_end ps

-- A tag as far as it was read: its name and its attributes.
pub record Tag : Type 0 where
  pub name : QName
  pub attrs : List Attr

-- an attribute as far as it was read: how many characters before its value, and its name
pub record Begun : Type 0 where
  pub lead : ℕ
  pub name : QName

-- where the scanner is
pub data Mode : Type 0 where
  -- in a run, or at the front of a text
  content : List Piece → Mode
  content_reference : List Piece → Text → Mode
  -- behind `<`
  angle : Mode
  -- in the name of a start tag; behind it or behind an attribute; behind white space there, and how much
  opening : Text → Mode
  between : Tag → Mode
  gap : Tag → ℕ → Mode
  -- in the name of an attribute; behind it; behind `=`; in the value; in a reference of the value
  naming : Tag → ℕ → Text → Mode
  named : Tag → Begun → Mode
  equals : Tag → Begun → Mode
  value : Tag → Begun → ℕ → List Piece → Mode
  value_reference : Tag → Begun → ℕ → List Piece → Text → Mode
  -- behind `/` in a start tag
  emptied : Tag → Mode
  -- behind `</`; in the name; in white space behind it
  slash : Mode
  ending : Text → Mode
  ended : QName → Mode
  -- behind `<!`; in a word that is to come whole
  bang : Mode
  word : Text → Token → Mode
  -- behind `<!-`; in a comment; behind one hyphen in it; behind two
  bang_hyphen : Mode
  comment : Mode
  comment_hyphen : Mode
  comment_end : Mode
  -- behind `<?`; in the target; in the data; behind `?` in the data; behind `?` right after the target
  question : Mode
  target : Text → Mode
  data' : Mode
  data_question : Mode
  target_end : Mode

-- what a character does: the scanner goes on, the item ends with it or ended before it, or there is none
pub data Move : Type 0 where
  on : Mode → Move
  ends : Token → Move
  before : Token → Move
  wrong : Move

abbrev pub with : {A : Type 0} → Option A → (A → Move) → Move
with None f = wrong
with (Some a) f = f a

-- a run that ends
abbrev pub run_ends : List Piece → Move
run_ends [] = on angle
run_ends (p ∷ ps) = cond (has_cdata_end (p ∷ ps)) wrong (before (Words p ps))

abbrev pub tag_of : QName → Tag
tag_of n = record { name = n; attrs = [] }

abbrev pub with_attr : Tag → Begun → List Piece → Tag
with_attr t b ps = record { name = t.name; attrs = t.attrs ++ (record { lead = b.lead; name = b.name; value = ps } ∷ []) }

abbrev pub longer : Begun → Begun
longer b = record { lead = b.lead + 1; name = b.name }

-- behind a name or an attribute in a start tag
abbrev pub in_tag : Tag → ℕ → Move
in_tag t c = cond (c == 62) (ends (Start t.name t.attrs)) (cond (c == 47) (on (emptied t)) (cond (is_white c) (on (gap t 1)) wrong))

abbrev pub move : Mode → ℕ → Move
move (content ps) c = cond (c == 38) (on (content_reference ps [])) (cond (c == 60) (run_ends ps) (on (content (ps ++ (literal c ∷ [])))))
move (content_reference ps r) c =
    cond (c == 59) (with (referred r) (λ d. on (content (ps ++ (record { width = length r + 2; char = d } ∷ []))))) (on (content_reference ps (r ++ (c ∷ []))))
move angle c = cond (is_name true c) (on (opening (c ∷ []))) (cond (c == 47) (on slash) (cond (c == 33) (on bang) (cond (c == 63) (on question) wrong)))
move (opening n) c = cond (is_char_of_name c) (on (opening (n ++ (c ∷ [])))) (with (q_name n) (λ q. in_tag (tag_of q) c))
move (between t) c = in_tag t c
move (gap t k) c =
    cond (is_name true c) (on (naming t k (c ∷ []))) (cond (c == 62) (ends (Start t.name t.attrs)) (cond (c == 47) (on (emptied t)) (cond (is_white c) (on (gap t (k + 1))) wrong)))
move (naming t k n) c =
    cond (is_char_of_name c) (on (naming t k (n ++ (c ∷ []))))
    (with (q_name n) (λ q. cond (c == 61) (on (equals t (record { lead = k + length n + 1; name = q }))) (cond (is_white c) (on (named t (record { lead = k + length n + 1; name = q }))) wrong)))
move (named t b) c = cond (c == 61) (on (equals t (longer b))) (cond (is_white c) (on (named t (longer b))) wrong)
move (equals t b) c = cond (c == 34 || c == 39) (on (value t (longer b) c [])) (cond (is_white c) (on (equals t (longer b))) wrong)
move (value t b q ps) c =
    cond (c == q) (on (between (with_attr t b ps))) (cond (c == 38) (on (value_reference t b q ps [])) (cond (c == 60) wrong (on (value t b q (ps ++ (literal (spaced c) ∷ []))))))
move (value_reference t b q ps r) c =
    cond (c == 59) (with (referred r) (λ d. on (value t b q (ps ++ (record { width = length r + 2; char = d } ∷ []))))) (on (value_reference t b q ps (r ++ (c ∷ []))))
move (emptied t) c = cond (c == 62) (ends (Empty t.name t.attrs)) wrong
move slash c = cond (is_name true c) (on (ending (c ∷ []))) wrong
move (ending n) c =
    cond (is_char_of_name c) (on (ending (n ++ (c ∷ [])))) (with (q_name n) (λ q. cond (c == 62) (ends (End q)) (cond (is_white c) (on (ended q)) wrong)))
move (ended q) c = cond (c == 62) (ends (End q)) (cond (is_white c) (on (ended q)) wrong)
move bang c = cond (c == 45) (on bang_hyphen) (cond (c == 68) (on (word (codes "OCTYPE") Doctype)) (cond (c == 91) (on (word (codes "CDATA[") Cdata)) wrong))
move (word [] t) c = wrong
move (word (d ∷ []) t) c = cond (c == d) (ends t) wrong
move (word (d ∷ e ∷ w) t) c = cond (c == d) (on (word (e ∷ w) t)) wrong
move bang_hyphen c = cond (c == 45) (on comment) wrong
move comment c = cond (c == 45) (on comment_hyphen) (on comment)
move comment_hyphen c = cond (c == 45) (on comment_end) (on comment)
move comment_end c = cond (c == 62) (ends Comment) wrong
move question c = cond (is_name true c) (on (target (c ∷ []))) wrong
move (target n) c =
    cond (is_name false c) (on (target (n ++ (c ∷ []))))
    (cond (is_xml_word n) wrong (cond (c == 63) (on target_end) (cond (is_white c) (on data') wrong)))
move data' c = cond (c == 63) (on data_question) (on data')
move data_question c = cond (c == 62) (ends Instruction) (cond (c == 63) (on data_question) (on data'))
move target_end c = cond (c == 62) (ends Instruction) wrong

-- only a run may end with the text
abbrev pub last_run : List Piece → Option (Token × Text)
last_run [] = None
last_run (p ∷ ps) = cond (has_cdata_end (p ∷ ps)) None (Some (Words p ps, []))

abbrev pub at_end : Mode → Option (Token × Text)
at_end (content ps) = last_run ps
at_end (content_reference ps r) = None
at_end angle = None
at_end (opening n) = None
at_end (between t) = None
at_end (gap t k) = None
at_end (naming t k n) = None
at_end (named t b) = None
at_end (equals t b) = None
at_end (value t b q ps) = None
at_end (value_reference t b q ps r) = None
at_end (emptied t) = None
at_end slash = None
at_end (ending n) = None
at_end (ended q) = None
at_end bang = None
at_end (word w t) = None
at_end bang_hyphen = None
at_end comment = None
at_end comment_hyphen = None
at_end comment_end = None
at_end question = None
at_end (target n) = None
at_end data' = None
at_end data_question = None
at_end target_end = None

abbrev pub moved : Move → ℕ → Text → (Mode → Option (Token × Text)) → Option (Token × Text)
moved (on m) c s f = f m
moved (ends t) c s f = Some (t, s)
moved (before t) c s f = Some (t, c ∷ s)
moved wrong c s f = None

unfoldable pub scan : Mode → Text → Option (Token × Text)
scan m [] = at_end m
scan m (c ∷ s) = moved (move m c) c s (λ k. scan k s)

-- the item at the front of a text, and what comes behind it
abbrev pub item : Text → Option (Token × Text)
item s = scan (content []) s
