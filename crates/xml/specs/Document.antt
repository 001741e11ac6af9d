-- Documents: elements with their expanded names, each in its place. Comments, instructions and declarations are gone.
use Rattle.std.specs.Prelude.{◌≡◌, ℕ, ◌+◌, ◌-◌, true, List, [], ◌∷◌, length, Some}
use Rattle.std.specs.List.{AllByRecursion}
use Rattle.characters.specs.Classes.{is_white}
use Rattle.names.specs.Order.{Text, Name}
use Rattle.items.specs.Tokens.{QName, Piece, chars, Attr, Start, Empty, End, Comment, Instruction, Words}
use Rattle.items.specs.Grammar.{Item}
use Rattle.xml.specs.Namespaces.{Scope, base, in_force, element_name, Field, fields}

-- what an element holds: nothing, a run of text and what follows it, or an element (its place, its name, its attributes and what it
-- holds) and what follows it
pub data Content : Type 0 where
  nothing : Content
  words : ℕ → Text → Content → Content
  element : ℕ → Name → List Field → Content → Content → Content

-- a document is its root
pub record Document : Type 0 where
  pub place : ℕ
  pub name : Name
  pub fields : List Field
  pub content : Content

-- the place behind an item that begins at p, with s to come before it and r after it
abbrev pub behind : ℕ → Text → Text → ℕ
behind p s r = p + (length s - length r)

-- From the place p, where s is to come, on to the place e, where q is to come: the content of an element, in which these bindings
-- are in force.
pub data Contents : Scope → ℕ → Text → Content → ℕ → Text → Type 0 where
  done : {sc : Scope} {p : ℕ} {s : Text} → Contents sc p s nothing p s
  text : {sc : Scope} {p e : ℕ} {s r q : Text} {a : Piece} {ps : List Piece} {c : Content} → Item s (Words a ps) r → Contents sc (behind p s r) r c e q → Contents sc p s (words p (chars (a ∷ ps)) c) e q
  comment : {sc : Scope} {p e : ℕ} {s r q : Text} {c : Content} → Item s Comment r → Contents sc (behind p s r) r c e q → Contents sc p s c e q
  instruction : {sc : Scope} {p e : ℕ} {s r q : Text} {c : Content} → Item s Instruction r → Contents sc (behind p s r) r c e q → Contents sc p s c e q
  empty : {sc : Scope} {p e : ℕ} {s r q : Text} {n : QName} {as' : List Attr} {m : Name} {c : Content} → Item s (Empty n as') r → element_name (in_force as' sc) n ≡ Some m → Contents sc (behind p s r) r c e q → Contents sc p s (element p m (fields (in_force as' sc) as') nothing c) e q
  whole : {sc : Scope} {p f e : ℕ} {s r x y q : Text} {n : QName} {as' : List Attr} {m : Name} {c d : Content} → Item s (Start n as') r → element_name (in_force as' sc) n ≡ Some m → Contents (in_force as' sc) (behind p s r) r c f x → Item x (End n) y → Contents sc (behind f x y) y d e q → Contents sc p s (element p m (fields (in_force as' sc) as') c d) e q

-- one element, the root
pub data Root : ℕ → Text → Document → ℕ → Text → Type 0 where
  empty : {p : ℕ} {s r : Text} {n : QName} {as' : List Attr} {m : Name} → Item s (Empty n as') r → element_name (in_force as' base) n ≡ Some m → Root p s (record { place = p; name = m; fields = fields (in_force as' base) as'; content = nothing }) (behind p s r) r
  whole : {p f : ℕ} {s r x y : Text} {n : QName} {as' : List Attr} {m : Name} {c : Content} → Item s (Start n as') r → element_name (in_force as' base) n ≡ Some m → Contents (in_force as' base) (behind p s r) r c f x → Item x (End n) y → Root p s (record { place = p; name = m; fields = fields (in_force as' base) as'; content = c }) (behind f x y) y

-- what may stand around the root: comments, instructions, white space that stands for itself
abbrev pub LiteralWhite : List Piece → Type 0
LiteralWhite ps = AllByRecursion (λ a. (a.width ≡ 1) × (is_white a.char ≡ true)) ps

pub data Around : ℕ → Text → ℕ → Text → Type 0 where
  done : {p : ℕ} {s : Text} → Around p s p s
  white : {p e : ℕ} {s r q : Text} {a : Piece} {ps : List Piece} → Item s (Words a ps) r → LiteralWhite (a ∷ ps) → Around (behind p s r) r e q → Around p s e q
  comment : {p e : ℕ} {s r q : Text} → Item s Comment r → Around (behind p s r) r e q → Around p s e q
  instruction : {p e : ℕ} {s r q : Text} → Item s Instruction r → Around (behind p s r) r e q → Around p s e q

-- the text is that of the document: its root, and what may stand around it
pub record IsDocument (s : Text) (d : Document) : Type 0 where
  pub start : ℕ
  pub there : Text
  pub end : ℕ
  pub rest : Text
  pub close : ℕ
  pub before : Around 0 s start there
  pub root : Root start there d end rest
  pub after : Around end rest close []
