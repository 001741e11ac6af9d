-- Markup in which nothing is wrong where certain bindings are in force.
use Rattle.std.proofs.Common.{◌≡◌, ℕ, ◌<◌, ◌≤◌, cond, List, [], ◌∷◌, length, Some, None, refl, ap₂, arith}
use Rattle.std.specs.List.{AllByRecursion}
use Rattle.names.specs.Order.{Text, Name}
use Rattle.names.proofs.Never.{never}
use Rattle.characters.specs.declared.escapes.Where.TheVariants.{Attribute as Quoted}
use Rattle.markup.specs.Elements.{Attribute, Markup, nothing, words, element}
use Rattle.xml.specs.Namespaces.{Member, Repeats, Scope, declares, binding, is_declared, in_force, element_name, attribute_name, field_of, fields, expansions, expanded_names, SomeWrong, prefixes}
use Rattle.xml.specs.Rules.{Frame, scope_of, names_of, HasXmlnsPrefix, WrongTag, repeated, equal_names, wrong_declaration, xmlns_element, unknown_element, unknown_attribute, too_deep, too_many, too_bound}
use Rattle.readback.specs.Meaning.{name_of, declared_by, fields_by}
use Rattle.readback.proofs.Named.{Named}
use Rattle.readback.proofs.Pieces.{chars-pieces}
use Rattle.readback.proofs.Tags.{attrs_of}

-- the bindings inside an element, and the attributes that declare none
pub in_force_lem : (sc : Scope) (as' : List Attribute) → in_force (attrs_of as') sc ≡ declared_by as' sc
in_force_lem sc [] = refl
in_force_lem sc (a ∷ as') = ap₂ (binding (declares (name_of a.name))) (chars-pieces Quoted a.value) (in_force_lem sc as')

pub fields-by : (sc : Scope) (as' : List Attribute) → fields sc (attrs_of as') ≡ fields_by sc as'
fields-by sc [] = refl
fields-by sc (a ∷ as') =
    ap₂ (λ v fs. cond (is_declared (declares (name_of a.name))) fs (field_of (attribute_name sc (name_of a.name)) v fs)) (chars-pieces Quoted a.value) (fields-by sc as')

-- what a start tag keeps
pub record FineTag (sc : Scope) (n : Text) (as' : List Attribute) : Type 0 where
  pub name : Named n
  pub names : AllByRecursion (λ a. Named a.name) as'
  -- the name has a meaning, and it is not that of a declaration
  pub means : Name
  pub known : element_name (in_force (attrs_of as') sc) (name_of n) ≡ Some means
  pub not_xmlns : HasXmlnsPrefix (name_of n) → ⊥
  -- no attribute is repeated, as it is written or by its meaning, and each has one
  pub once : Repeats (names_of (attrs_of as')) → ⊥
  pub apart : Repeats (expanded_names (expansions (in_force (attrs_of as') sc) (attrs_of as'))) → ⊥
  pub known_all : Member None (expansions (in_force (attrs_of as') sc) (attrs_of as')) → ⊥
  pub declared : SomeWrong (attrs_of as') → ⊥
  -- the limits
  pub few : length (attrs_of as') ≤ 32
  pub bound : length (prefixes (in_force (attrs_of as') sc)) ≤ 32

-- the next is no text
abbrev pub Tagged : Markup → Type 0
Tagged nothing = Unit {0}
Tagged (words t r) = ⊥
Tagged (element n as' c r) = Unit {0}

abbrev pub Good : Scope → Markup → Type 0
Good sc nothing = Unit {0}
Good sc (words t r) = (t ≡ [] → ⊥) × Tagged r × Good sc r
Good sc (element n as' c r) = FineTag sc n as' × Good (in_force (attrs_of as') sc) c × Good sc r

-- nothing is wrong with such a tag
pub fine_tag : (gs : List Frame) (n : Text) (as' : List Attribute) → FineTag (scope_of gs) n as' → length gs < 32 → (k : ℕ) → WrongTag gs (name_of n) (attrs_of as') k → ⊥
fine_tag gs n as' f l k (repeated h) = f.once h
fine_tag gs n as' f l k (equal_names h) = f.apart h
fine_tag gs n as' f l k (wrong_declaration h) = f.declared h
fine_tag gs n as' f l k (xmlns_element h) = f.not_xmlns h
fine_tag gs n as' f l k (unknown_element h) = let e = f.known in never cc
fine_tag gs n as' f l k (unknown_attribute h) = f.known_all h
fine_tag gs n as' f l k (too_deep h) = omega arith
fine_tag gs n as' f l k (too_many h) = omega (arith, f.few)
fine_tag gs n as' f l k (too_bound h) = omega (arith, f.bound)
