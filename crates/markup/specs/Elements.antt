-- Elements, attributes and texts, and how they are spelt.
use Rattle.std.specs.Prelude.{ℕ, suc, ◌+◌, max, Bool, true, cond, List, [], ◌∷◌, ◌++◌, length, take, codes}
use Rattle.characters.specs.Spelling.{spellings}
use Rattle.characters.specs.declared.escapes.Where.TheVariants.{Content, Attribute as Quoted}
use Rattle.names.specs.Order.{Text, same}

-- an attribute: its name as it is written, and its value
pub record Attribute : Type 0 where
  pub name : Text
  pub value : Text

-- what stands between two tags: nothing, a text and what follows it, or an element (its name as it is written, its attributes and
-- what it holds) and what follows it
pub data Markup : Type 0 where
  nothing : Markup
  words : Text → Markup → Markup
  element : Text → List Attribute → Markup → Markup → Markup

-- a text as markup: an empty one is nothing
abbrev pub textual : Text → Markup
textual [] = nothing
textual (c ∷ t) = words (c ∷ t) nothing

-- an attribute is spelt with a space before it and its value between `"`
abbrev pub attribute_text : Attribute → Text
attribute_text a = 32 ∷ (a.name ++ (61 ∷ 34 ∷ (spellings Quoted a.value ++ (34 ∷ []))))

abbrev pub attributes_text : List Attribute → Text
attributes_text [] = []
attributes_text (a ∷ as') = attribute_text a ++ attributes_text as'

abbrev pub start_tag : Text → List Attribute → Text
start_tag n as' = 60 ∷ (n ++ (attributes_text as' ++ (62 ∷ [])))

abbrev pub end_tag : Text → Text
end_tag n = 60 ∷ 47 ∷ (n ++ (62 ∷ []))

-- no white space stands between elements, and an element without content has both its tags
unfoldable pub markup_text : Markup → Text
markup_text nothing = []
markup_text (words t r) = spellings Content t ++ markup_text r
markup_text (element n as' c r) = start_tag n as' ++ (markup_text c ++ (end_tag n ++ markup_text r))

-- how many elements are open at once, at the most
abbrev pub opened : Markup → ℕ
opened nothing = 0
opened (words t r) = opened r
opened (element n as' c r) = max (suc (opened c)) (opened r)

-- the largest number of attributes in a tag
abbrev pub attributes : Markup → ℕ
attributes nothing = 0
attributes (words t r) = attributes r
attributes (element n as' c r) = max (length as') (max (attributes c) (attributes r))

-- an attribute that declares a namespace
abbrev pub declares : Attribute → Bool
declares a = cond (same a.name (codes "xmlns")) true (same (take 6 a.name) (codes "xmlns:"))

abbrev pub declarations : List Attribute → ℕ
declarations [] = 0
declarations (a ∷ as') = cond (declares a) (suc (declarations as')) (declarations as')

-- how many declarations are in force at once, at the most
abbrev pub bindings : Markup → ℕ
bindings nothing = 0
bindings (words t r) = bindings r
bindings (element n as' c r) = max (declarations as' + bindings c) (bindings r)
