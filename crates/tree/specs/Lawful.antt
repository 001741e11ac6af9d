-- Which trees are lawful: the rules that every tree keeps, and the limits.
use Rattle.std.specs.Prelude.{◌≡◌, ℕ, suc, ◌+◌, ◌≤◌, max, Bool, true, false, cond, ◌&&◌, List, [], ◌∷◌, length, nat_le}
use Rattle.tree.specs.declared.form.Form.{Form}
use Rattle.tree.specs.declared.form.Form.TheVariants.{Text as TextForm, Uri, Structure, Bag, Sequence, Alternative}
use Rattle.names.specs.Order.{Text, NameBefore, same, before, same_name}
use Rattle.tree.specs.Names.{LawfulName, QualifierName, LanguageTag}
use Rattle.names.specs.Xml.{XmlText}
use Rattle.names.specs.Reserved.{lang_name, xml_uri}
use Rattle.tree.specs.Tree.{Label, named, item, Head, Nodes, none, more, Tree, is_simple, is_structure}

-- what the nodes of a row are: fields (a tree's properties too), items of an array, or qualifiers of a node
pub data Row : Type 0 where
  Fields : Row
  Items : Row
  Qualifiers : Row

-- the row that a node's parts are
abbrev pub row_of : Form → Row
row_of f = cond (is_structure f) Fields Items

-- fields and qualifiers have names, items have none
abbrev pub LawfulLabel : Row → Label → Type 0
LawfulLabel Fields (named n) = LawfulName n × XmlText n.uri
LawfulLabel Fields item = ⊥
LawfulLabel Items (named n) = ⊥
LawfulLabel Items item = Unit {0}
LawfulLabel Qualifiers (named n) = QualifierName n × XmlText n.uri
LawfulLabel Qualifiers item = ⊥

-- what a qualifier keeps besides: it is simple and has no qualifiers of its own, and xml:lang is a text, a language tag
pub record Qualifying (h : Head) (q : Nodes) : Type 0 where
  pub simple : is_simple h.form ≡ true
  pub bare : q ≡ none
  pub language : h.label ≡ named lang_name → (h.form ≡ TextForm) × LanguageTag h.value

abbrev pub LawfulAs : Row → Head → Nodes → Type 0
LawfulAs Fields h q = Unit {0}
LawfulAs Items h q = Unit {0}
LawfulAs Qualifiers h q = Qualifying h q

-- names stand in order, which leaves none to stand twice
abbrev pub Comes : Label → Label → Type 0
Comes (named m) (named n) = NameBefore m n
Comes (named m) item = Unit {0}
Comes item l = Unit {0}

abbrev pub ComesFirst : Label → Nodes → Type 0
ComesFirst l none = Unit {0}
ComesFirst l (more h q p r) = Comes l h.label

-- the rules of one node, of its qualifiers q, its parts p and the nodes r after it
pub record LawfulNode (k : Row) (h : Head) (q p r : Nodes) : Type 0 where
  pub label : LawfulLabel k h.label
  pub order : ComesFirst h.label r
  pub characters : XmlText h.value
  -- what is simple has no parts, and what is not has no value
  pub leaf : is_simple h.form ≡ true → p ≡ none
  pub holder : is_simple h.form ≡ false → h.value ≡ []
  pub kind : LawfulAs k h q

-- all nodes of a row, with all that is under them
abbrev pub LawfulNodes : Row → Nodes → Type 0
LawfulNodes k none = Unit {0}
LawfulNodes k (more h q p r) = LawfulNode k h q p r × LawfulNodes Qualifiers q × LawfulNodes (row_of h.form) p × LawfulNodes k r

-- The limits.

-- the deepest level: a property is at level 1, a field or an item one below its holder; qualifiers have none
abbrev pub levels : Nodes → ℕ
levels none = 0
levels (more h q p r) = max (suc (levels p)) (levels r)

-- the number of nodes, qualifiers among them
abbrev pub count : Nodes → ℕ
count none = 0
count (more h q p r) = suc (count q + count p + count r)

-- the characters of local names and values
abbrev pub label_size : Label → ℕ
label_size (named n) = length n.local
label_size item = 0

abbrev pub size : Nodes → ℕ
size none = 0
size (more h q p r) = label_size h.label + length h.value + size q + size p + size r

-- a namespace put in its place among others, once
abbrev pub inserted : Text → List Text → List Text
inserted u [] = u ∷ []
inserted u (v ∷ vs) = cond (same u v) (v ∷ vs) (cond (before u v) (u ∷ v ∷ vs) (v ∷ inserted u vs))

abbrev pub noted : Label → List Text → List Text
noted (named n) us = cond (same n.uri xml_uri) us (inserted n.uri us)
noted item us = us

-- the namespaces of the names of these nodes and of all that is under them, added to others; xml is not counted
abbrev pub gathered : Nodes → List Text → List Text
gathered none us = us
gathered (more h q p r) us = noted h.label (gathered q (gathered p (gathered r us)))

unfoldable pub namespaces : Nodes → List Text
namespaces ns = gathered ns []

-- the longest value that a node may have, by its form; a language tag is shorter
abbrev pub longest : Form → ℕ
longest TextForm = 4096
longest Uri = 1024
longest Structure = 0
longest Bag = 0
longest Sequence = 0
longest Alternative = 0

abbrev pub longest_at : Label → Form → ℕ
longest_at (named n) f = cond (same_name n lang_name) 64 (longest f)
longest_at item f = longest f

-- the sizes of one node
abbrev pub ShortLabel : Label → Type 0
ShortLabel (named n) = (length n.uri ≤ 128) × (length n.local ≤ 64)
ShortLabel item = Unit {0}

abbrev pub Short : Nodes → Type 0
Short none = Unit {0}
Short (more h q p r) = ShortLabel h.label × (length h.value ≤ longest_at h.label h.form) × Short q × Short p × Short r

pub record Within (t : Tree) : Type 0 where
  pub levels : levels t.properties ≤ 8
  pub nodes : count t.properties ≤ 512
  pub namespaces : length (namespaces t.properties) ≤ 24
  pub about : length t.about ≤ 1024
  -- each namespace URI, local name, language tag, text and URI
  pub short : Short t.properties
  -- about, values and local names together
  pub together : length t.about + size t.properties ≤ 16384

pub record Lawful (t : Tree) : Type 0 where
  pub about : XmlText t.about
  pub properties : LawfulNodes Fields t.properties
  pub limits : Within t

-- the tests of the limits
abbrev pub is_short_label : Label → Bool
is_short_label (named n) = nat_le (length n.uri) 128 && nat_le (length n.local) 64
is_short_label item = true

abbrev pub is_short : Nodes → Bool
is_short none = true
is_short (more h q p r) = is_short_label h.label && (nat_le (length h.value) (longest_at h.label h.form) && (is_short q && (is_short p && is_short r)))

unfoldable pub is_within : Tree → Bool
is_within t =
    nat_le (levels t.properties) 8 && (nat_le (count t.properties) 512 && (nat_le (length (namespaces t.properties)) 24 && (nat_le (length t.about) 1024 && (is_short t.properties && nat_le (length t.about + size t.properties) 16384))))
