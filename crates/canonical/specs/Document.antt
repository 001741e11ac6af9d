-- The elements by which a tree is written.
use Rattle.std.specs.Prelude.{Bool, true, false, cond, not, ◌||◌, List, [], ◌∷◌, ◌++◌, codes}
use Rattle.tree.specs.declared.form.Form.{Form}
use Rattle.tree.specs.declared.form.Form.TheVariants.{Text as TextForm, Uri, Structure, Bag, Sequence, Alternative}
use Rattle.names.specs.Order.{Text, same_name}
use Rattle.names.specs.Reserved.{lang_name, rdf_uri}
use Rattle.tree.specs.Tree.{Label, named, item, Nodes, none, more, Tree}
use Rattle.tree.specs.Lawful.{namespaces}
use Rattle.markup.specs.Elements.{Attribute, Markup, nothing, element, textual}
use Rattle.canonical.specs.Prefixes.{qualified, declared_from}

abbrev pub is_lang_label : Label → Bool
is_lang_label (named n) = same_name n lang_name
is_lang_label item = false

-- the attribute xml:lang, if that qualifier is among them
abbrev pub language : Nodes → List Attribute
language none = []
language (more h q p r) = cond (is_lang_label h.label) (record { name = codes "xml:lang"; value = h.value } ∷ []) (language r)

-- there is another qualifier
abbrev pub has_others : Nodes → Bool
has_others none = false
has_others (more h q p r) = not (is_lang_label h.label) || has_others r

abbrev pub as_resource : Attribute
as_resource = record { name = codes "rdf:parseType"; value = codes "Resource" }

-- A value by its form: a URI and a structure are told by an attribute, an array by an element around its items.
abbrev pub form_attributes : Form → Text → List Attribute
form_attributes TextForm x = []
form_attributes Uri x = record { name = codes "rdf:resource"; value = x } ∷ []
form_attributes Structure x = as_resource ∷ []
form_attributes Bag x = []
form_attributes Sequence x = []
form_attributes Alternative x = []

abbrev pub form_content : Form → Text → Markup → Markup
form_content TextForm x parts = textual x
form_content Uri x parts = nothing
form_content Structure x parts = parts
form_content Bag x parts = element (codes "rdf:Bag") [] parts nothing
form_content Sequence x parts = element (codes "rdf:Seq") [] parts nothing
form_content Alternative x parts = element (codes "rdf:Alt") [] parts nothing

-- One element from its name, its language, the attributes and the content of its value, the elements of its other qualifiers, and
-- what follows it. With other qualifiers it is a resource, in which rdf:value has the value.
abbrev pub tagged : Bool → Text → List Attribute → List Attribute → Markup → Markup → Markup → Markup
tagged false n lang as' c qs r = element n (lang ++ as') c r
tagged true n lang as' c qs r = element n (lang ++ (as_resource ∷ [])) (element (codes "rdf:value") as' c qs) r

module _ (us : List Text) where
  abbrev pub element_name : Label → Text
  element_name (named n) = qualified us n
  element_name item = codes "rdf:li"

  unfoldable mutual
    -- properties, fields and items
    pub elements : Nodes → Markup
    elements none = nothing
    elements (more h q p r) =
        tagged (has_others q) (element_name h.label) (language q) (form_attributes h.form h.value) (form_content h.form h.value (elements p)) (others q) (elements r)

    -- qualifiers but xml:lang
    pub others : Nodes → Markup
    others none = nothing
    others (more h q p r) =
        cond (is_lang_label h.label) (others r) (element (element_name h.label) (form_attributes h.form h.value) (form_content h.form h.value (elements p)) (others r))

-- rdf:RDF declares rdf and then the namespaces in use, and holds the one rdf:Description
unfoldable pub document : Tree → Markup
document t =
    element (codes "rdf:RDF") (record { name = codes "xmlns:rdf"; value = rdf_uri } ∷ declared_from 1 (namespaces t.properties))
    (element (codes "rdf:Description") (record { name = codes "rdf:about"; value = t.about } ∷ []) (elements (namespaces t.properties) t.properties) nothing)
    nothing
