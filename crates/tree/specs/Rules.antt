-- What is proved of names, of the tests of the rules, and of the namespaces of a tree.
use Rattle.std.specs.Prelude.{◌≡◌, ◌⊎◌, List, [], ◌∷◌, Decides, ◌≢◌}
use Rattle.names.specs.Order.{Text, Name, Ascending}
use Rattle.tree.specs.Names.{LocalName, LanguageTag, FreeNamespace, LawfulName, QualifierName, is_local_name, is_language_tag, is_free_namespace, is_lawful_name, is_qualifier_name}
use Rattle.names.specs.Reserved.{xml_uri}
use Rattle.tree.specs.Tree.{Label, named, item, Nodes, none, more, Tree}
use Rattle.tree.specs.Lawful.{Within, is_within, namespaces}

-- each test answers whether its rule is kept
pub record Decided : Type 0 where
  pub local_name : (t : Text) → Decides (is_local_name t) (LocalName t)
  pub language_tag : (t : Text) → Decides (is_language_tag t) (LanguageTag t)
  pub free_namespace : (u : Text) → Decides (is_free_namespace u) (FreeNamespace u)
  pub lawful_name : (n : Name) → Decides (is_lawful_name n) (LawfulName n)
  pub qualifier_name : (n : Name) → Decides (is_qualifier_name n) (QualifierName n)
  pub within : (t : Tree) → Decides (is_within t) (Within t)

-- a text is one of a list
abbrev pub Among : Text → List Text → Type 0
Among u [] = ⊥
Among u (v ∷ vs) = (u ≡ v) ⊎ Among u vs

-- a name of these nodes, or of what is under them, has the namespace
abbrev pub UsedBy : Text → Label → Type 0
UsedBy u (named n) = u ≡ n.uri
UsedBy u item = ⊥

abbrev pub Used : Text → Nodes → Type 0
Used u none = ⊥
Used u (more h q p r) = UsedBy u h.label ⊎ (Used u q ⊎ (Used u p ⊎ Used u r))

-- the namespaces of nodes are those that their names use, xml aside, in order and each once
pub record Gathered : Type 0 where
  pub order : (ns : Nodes) → Ascending (namespaces ns)
  pub all : (ns : Nodes) (u : Text) → Used u ns → (u ≢ xml_uri) → Among u (namespaces ns)
  pub only : (ns : Nodes) (u : Text) → Among u (namespaces ns) → Used u ns × (u ≢ xml_uri)
