-- What canonical markup means: elements by their expanded names, without places.
use Rattle.std.specs.Prelude.{◌≡◌, ℕ, cond, List, [], ◌∷◌, ◌++◌, Some, None, Option}
use Rattle.names.specs.Order.{Text, Name}
use Rattle.tree.specs.Tree.{Tree}
use Rattle.tree.specs.Lawful.{Lawful}
use Rattle.items.specs.Tokens.{QName, bare}
use Rattle.items.specs.Scan.{q_name}
use Rattle.markup.specs.Elements.{Attribute, Markup, nothing as nothing', words as words', element as element'}
use Rattle.xml.specs.Faults.{taken}
use Rattle.xml.specs.Namespaces.{Scope, base, declares, binding, is_declared, element_name, attribute_name, Field, field_of}
use Rattle.xml.specs.Document.{Content, nothing, words, element, Document}
use Rattle.xml.specs.Reading.{reads}
use Rattle.canonical.specs.Document.{document}
use Rattle.canonical.specs.Packet.{body, padding}

-- what an element holds, places aside
pub data Plain : Type 0 where
  none : Plain
  said : Text → Plain → Plain
  held : Name → List Field → Plain → Plain → Plain

-- of a document that was read
abbrev pub plain : Content → Plain
plain nothing = none
plain (words p t c) = said t (plain c)
plain (element p n fs i c) = held n fs (plain i) (plain c)

abbrev pub plain_document : Document → Plain
plain_document d = held d.name d.fields (plain d.content) none

-- of markup, whose names are spelt with their prefixes
abbrev pub or_bare : Text → Option QName → QName
or_bare n None = bare n
or_bare n (Some q) = q

abbrev pub name_of : Text → QName
name_of n = or_bare n (q_name n)

abbrev pub or_none : Option Name → Name
or_none None = record { uri = []; local = [] }
or_none (Some n) = n

abbrev pub declared_by : List Attribute → Scope → Scope
declared_by [] sc = sc
declared_by (a ∷ as') sc = binding (declares (name_of a.name)) a.value (declared_by as' sc)

abbrev pub fields_by : Scope → List Attribute → List Field
fields_by sc [] = []
fields_by sc (a ∷ as') =
    cond (is_declared (declares (name_of a.name))) (fields_by sc as') (field_of (attribute_name sc (name_of a.name)) a.value (fields_by sc as'))

unfoldable pub meaning : Scope → Markup → Plain
meaning sc nothing' = none
meaning sc (words' t r) = said t (meaning sc r)
meaning sc (element' n as' c r) =
    held (or_none (element_name (declared_by as' sc) (name_of n))) (fields_by (declared_by as' sc) as') (meaning (declared_by as' sc) c) (meaning sc r)

-- the text of a lawful tree between header and trailer, whatever its padding, is read as the document that it was written from
abbrev pub ReadsBack : Type 0
ReadsBack = (t : Tree) → Lawful t → (n : ℕ) → (d : Document) × (reads (body t ++ padding n) ≡ taken d) × (plain_document d ≡ meaning base (document t))
