-- What is wrong with an item where it stands: the open elements and the bindings in force decide.
use Rattle.std.specs.Prelude.{◌≡◌, ℕ, ◌<◌, ◌≤◌, Bool, true, false, cond, not, ◌&&◌, ◌||◌, List, [], ◌∷◌, length, Some, None, codes, Option, ◌==◌, nat_le, nat_lt}
use Rattle.characters.specs.Classes.{is_xml, is_white}
use Rattle.names.specs.Order.{Text, Name, same, same_name}
use Rattle.names.specs.Reserved.{xml_uri, xmlns_uri}
use Rattle.items.specs.Tokens.{QName, bare, prefixed, written, Piece, chars, Attr, Token, Start, Empty, End, Comment, Instruction, Doctype, Cdata, Words, references_of}
use Rattle.xml.specs.Namespaces.{Member, Repeats, Scope, base, declares, in_force, element_name, Field, fields, expansions, expanded_names, SomeWrong, prefixes, is_among}
use Rattle.xml.specs.Document.{Content, nothing, words, element, Document, LiteralWhite}

-- an open element: its name as written, its place, its name, its attributes, what it holds so far, the bindings in force inside
pub record Frame : Type 0 where
  pub written : QName
  pub place : ℕ
  pub name : Name
  pub fields : List Field
  pub content : Content
  pub scope : Scope

-- the open elements, innermost first, before the root has ended; or the document, when it has
pub data Context : Type 0 where
  building : List Frame → Context
  finished : Document → Context

-- nothing has been read
abbrev pub outside : Context
outside = building []

abbrev pub scope_of : List Frame → Scope
scope_of [] = base
scope_of (g ∷ gs) = g.scope

-- What an item adds.
abbrev pub joined : Content → Content → Content
joined nothing d = d
joined (words p t c) d = words p t (joined c d)
joined (element p n fs i c) d = element p n fs i (joined c d)

abbrev pub grown : Frame → Content → Frame
grown g c = record { written = g.written; place = g.place; name = g.name; fields = g.fields; content = joined g.content c; scope = g.scope }

abbrev pub document_of : Frame → Document
document_of g = record { place = g.place; name = g.name; fields = g.fields; content = g.content }

-- an element that ends
abbrev pub closed : Frame → List Frame → Context
closed g [] = finished (document_of g)
closed g (h ∷ gs) = building (grown h (element g.place g.name g.fields g.content nothing) ∷ gs)

abbrev pub frame_of : ℕ → QName → List Attr → Scope → Name → Frame
frame_of p n as' sc m = record { written = n; place = p; name = m; fields = fields sc as'; content = nothing; scope = sc }

abbrev pub opened : ℕ → List Frame → QName → List Attr → Option Name → Context
opened p gs n as' None = building gs
opened p gs n as' (Some m) = building (frame_of p n as' (in_force as' (scope_of gs)) m ∷ gs)

abbrev pub passed : ℕ → List Frame → QName → List Attr → Option Name → Context
passed p gs n as' None = building gs
passed p gs n as' (Some m) = closed (frame_of p n as' (in_force as' (scope_of gs)) m) gs

abbrev pub shut : List Frame → Context
shut [] = building []
shut (g ∷ gs) = closed g gs

abbrev pub said : ℕ → Text → List Frame → Context
said p t [] = building []
said p t (g ∷ gs) = building (grown g (words p t nothing) ∷ gs)

abbrev pub after : ℕ → Context → Token → Context
after p (finished d) t = finished d
after p (building gs) (Start n as') = opened p gs n as' (element_name (in_force as' (scope_of gs)) n)
after p (building gs) (Empty n as') = passed p gs n as' (element_name (in_force as' (scope_of gs)) n)
after p (building gs) (End n) = shut gs
after p (building gs) Comment = building gs
after p (building gs) Instruction = building gs
after p (building gs) Doctype = building gs
after p (building gs) Cdata = building gs
after p (building gs) (Words a ps) = said p (chars (a ∷ ps)) gs

-- What is wrong with a start or empty-element tag where these elements are open.
abbrev pub names_of : List Attr → List Text
names_of [] = []
names_of (a ∷ as') = written a.name ∷ names_of as'

abbrev pub HasXmlnsPrefix : QName → Type 0
HasXmlnsPrefix (bare l) = ⊥
HasXmlnsPrefix (prefixed p l) = p ≡ codes "xmlns"

pub data WrongTag (gs : List Frame) (n : QName) (as' : List Attr) : ℕ → Type 0 where
  -- two attributes are written alike, or have one expanded name
  repeated : Repeats (names_of as') → WrongTag gs n as' 6
  equal_names : Repeats (expanded_names (expansions (in_force as' (scope_of gs)) as')) → WrongTag gs n as' 6
  -- a declaration that is not allowed, and an element in the namespace of declarations
  wrong_declaration : SomeWrong as' → WrongTag gs n as' 6
  xmlns_element : HasXmlnsPrefix n → WrongTag gs n as' 6
  -- a prefix that is not declared
  unknown_element : element_name (in_force as' (scope_of gs)) n ≡ None → WrongTag gs n as' 8
  unknown_attribute : Member None (expansions (in_force as' (scope_of gs)) as') → WrongTag gs n as' 8
  -- more than 32 open elements, attributes or bindings
  too_deep : 32 ≤ length gs → WrongTag gs n as' 11
  too_many : 32 < length as' → WrongTag gs n as' 11
  too_bound : 32 < length (prefixes (in_force as' (scope_of gs))) → WrongTag gs n as' 11

-- the innermost open element has this name as written
abbrev pub Innermost : QName → List Frame → Type 0
Innermost n [] = ⊥
Innermost n (g ∷ gs) = n ≡ g.written

-- what is wrong with an item
pub data Wrong : Context → Token → ℕ → Type 0 where
  start : {gs : List Frame} {n : QName} {as' : List Attr} {k : ℕ} → WrongTag gs n as' k → Wrong (building gs) (Start n as') k
  empty : {gs : List Frame} {n : QName} {as' : List Attr} {k : ℕ} → WrongTag gs n as' k → Wrong (building gs) (Empty n as') k
  second_start : {d : Document} {n : QName} {as' : List Attr} → Wrong (finished d) (Start n as') 6
  second_empty : {d : Document} {n : QName} {as' : List Attr} → Wrong (finished d) (Empty n as') 6
  unmatched : {gs : List Frame} {n : QName} → (Innermost n gs → ⊥) → Wrong (building gs) (End n) 6
  loose_end : {d : Document} {n : QName} → Wrong (finished d) (End n) 6
  loose_before : {a : Piece} {ps : List Piece} → (LiteralWhite (a ∷ ps) → ⊥) → Wrong (building []) (Words a ps) 6
  loose_after : {d : Document} {a : Piece} {ps : List Piece} → (LiteralWhite (a ∷ ps) → ⊥) → Wrong (finished d) (Words a ps) 6
  doctype : {c : Context} → Wrong c Doctype 7
  cdata : {c : Context} → Wrong c Cdata 7

-- what is lacking at the end: the end of the root, or the root
pub data Lacks : Context → ℕ → Type 0 where
  unfinished : {gs : List Frame} → Lacks (building gs) 6

-- a reference to what is no character of XML: how far on
pub data Inner (t : Token) : ℕ → ℕ → Type 0 where
  refers : {k : ℕ} (c : ℕ) → Member (k, c) (references_of t) → is_xml c ≡ false → Inner t k 5

-- a character that XML does not allow
abbrev pub Forbidden : ℕ → Type 0
Forbidden c = is_xml c ≡ false

-- The tests.
abbrev pub repeats_text : List Text → Bool
repeats_text [] = false
repeats_text (x ∷ xs) = is_among x xs || repeats_text xs

abbrev pub is_among_names : Name → List Name → Bool
is_among_names x [] = false
is_among_names x (y ∷ ys) = same_name x y || is_among_names x ys

abbrev pub repeats_name : List Name → Bool
repeats_name [] = false
repeats_name (x ∷ xs) = is_among_names x xs || repeats_name xs

abbrev pub is_none : {A : Type 0} → Option A → Bool
is_none None = true
is_none (Some a) = false

abbrev pub some_none : List (Option Name) → Bool
some_none [] = false
some_none (n ∷ ns) = is_none n || some_none ns

abbrev pub is_wrong_binding : Text → Text → Bool
is_wrong_binding p v =
    same p (codes "xmlns") || ((same p (codes "xml") && not (same v xml_uri)) || ((not (same p (codes "xml")) && same v xml_uri) || (same v xmlns_uri || (not (same p []) && same v []))))

abbrev pub binds_wrongly : Option Text → Text → Bool
binds_wrongly None v = false
binds_wrongly (Some p) v = is_wrong_binding p v

abbrev pub some_wrong : List Attr → Bool
some_wrong [] = false
some_wrong (a ∷ as') = binds_wrongly (declares a.name) (chars a.value) || some_wrong as'

abbrev pub has_xmlns_prefix : QName → Bool
has_xmlns_prefix (bare l) = false
has_xmlns_prefix (prefixed p l) = same p (codes "xmlns")

abbrev pub is_six : List Frame → QName → List Attr → Bool
is_six gs n as' =
    repeats_text (names_of as') || (repeats_name (expanded_names (expansions (in_force as' (scope_of gs)) as')) || (some_wrong as' || has_xmlns_prefix n))

abbrev pub is_eight : List Frame → QName → List Attr → Bool
is_eight gs n as' = is_none (element_name (in_force as' (scope_of gs)) n) || some_none (expansions (in_force as' (scope_of gs)) as')

abbrev pub is_eleven : List Frame → QName → List Attr → Bool
is_eleven gs n as' = nat_le 32 (length gs) || (nat_lt 32 (length as') || nat_lt 32 (length (prefixes (in_force as' (scope_of gs)))))

abbrev pub check_tag : List Frame → QName → List Attr → Option ℕ
check_tag gs n as' = cond (is_six gs n as') (Some 6) (cond (is_eight gs n as') (Some 8) (cond (is_eleven gs n as') (Some 11) None))

abbrev pub same_written : QName → QName → Bool
same_written (bare a) (bare b) = same a b
same_written (bare a) (prefixed q b) = false
same_written (prefixed p a) (bare b) = false
same_written (prefixed p a) (prefixed q b) = same p q && same a b

abbrev pub is_innermost : QName → List Frame → Bool
is_innermost n [] = false
is_innermost n (g ∷ gs) = same_written n g.written

abbrev pub all_white : List Piece → Bool
all_white [] = true
all_white (a ∷ ps) = (a.width == 1 && is_white a.char) && all_white ps

abbrev pub check : Context → Token → Option ℕ
check (building gs) (Start n as') = check_tag gs n as'
check (building gs) (Empty n as') = check_tag gs n as'
check (building gs) (End n) = cond (is_innermost n gs) None (Some 6)
check (building gs) Comment = None
check (building gs) Instruction = None
check (building gs) Doctype = Some 7
check (building gs) Cdata = Some 7
check (building []) (Words a ps) = cond (all_white (a ∷ ps)) None (Some 6)
check (building (g ∷ gs)) (Words a ps) = None
check (finished d) (Start n as') = Some 6
check (finished d) (Empty n as') = Some 6
check (finished d) (End n) = Some 6
check (finished d) Comment = None
check (finished d) Instruction = None
check (finished d) Doctype = Some 7
check (finished d) Cdata = Some 7
check (finished d) (Words a ps) = cond (all_white (a ∷ ps)) None (Some 6)

abbrev pub lacks : Context → Option ℕ
lacks (building gs) = Some 6
lacks (finished d) = None

abbrev pub first_reference : List (ℕ × ℕ) → Option (ℕ × ℕ)
first_reference [] = None
first_reference (x ∷ xs) = cond (is_xml x.1) (first_reference xs) (Some (x.0, 5))

abbrev pub inner : Token → Option (ℕ × ℕ)
inner t = first_reference (references_of t)
