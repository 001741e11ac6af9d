-- Which names and language tags are lawful.
use Rattle.std.specs.Prelude.{◌≡◌, Bool, true, false, not, ◌&&◌, ◌||◌, ◌⊎◌, [], ◌∷◌}
use Rattle.std.specs.List.{AllByRecursion}
use Rattle.characters.specs.Classes.{is_local, is_tag}
use Rattle.names.specs.Order.{Text, Name, same, same_name}
use Rattle.names.specs.Reserved.{rdf_uri, xml_uri, xmlns_uri, lang_name}

-- a local name: not empty, its first character may begin one and the others may go on
abbrev pub LocalName : Text → Type 0
LocalName [] = ⊥
LocalName (c ∷ t) = (is_local true c ≡ true) × AllByRecursion (λ d. is_local false d ≡ true) t

-- a language tag: not empty, letters, digits and hyphens
abbrev pub LanguageTag : Text → Type 0
LanguageTag [] = ⊥
LanguageTag (c ∷ t) = (is_tag c ≡ true) × AllByRecursion (λ d. is_tag d ≡ true) t

-- a namespace is free for the names of a tree: there is one, and it is not reserved
pub record FreeNamespace (u : Text) : Type 0 where
  pub some : u ≡ [] → ⊥
  pub not_rdf : u ≡ rdf_uri → ⊥
  pub not_xml : u ≡ xml_uri → ⊥
  pub not_xmlns : u ≡ xmlns_uri → ⊥

-- the name of a property or a field, apart from its characters and lengths
pub record LawfulName (n : Name) : Type 0 where
  pub namespace : FreeNamespace n.uri
  pub local : LocalName n.local

-- the name of a qualifier: xml:lang, or one that a field could have
abbrev pub QualifierName : Name → Type 0
QualifierName n = (n ≡ lang_name) ⊎ LawfulName n

-- the tests
unfoldable pub all_local : Text → Bool
all_local [] = true
all_local (c ∷ t) = is_local false c && all_local t

unfoldable pub is_local_name : Text → Bool
is_local_name [] = false
is_local_name (c ∷ t) = is_local true c && all_local t

unfoldable pub all_tag : Text → Bool
all_tag [] = true
all_tag (c ∷ t) = is_tag c && all_tag t

unfoldable pub is_language_tag : Text → Bool
is_language_tag [] = false
is_language_tag (c ∷ t) = is_tag c && all_tag t

unfoldable pub is_free_namespace : Text → Bool
is_free_namespace u = not (same u []) && (not (same u rdf_uri) && (not (same u xml_uri) && not (same u xmlns_uri)))

unfoldable pub is_lawful_name : Name → Bool
is_lawful_name n = is_free_namespace n.uri && is_local_name n.local

unfoldable pub is_qualifier_name : Name → Bool
is_qualifier_name n = same_name n lang_name || is_lawful_name n
