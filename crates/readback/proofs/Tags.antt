-- Tags as they are spelt are items.
use Rattle.std.proofs.Common.{◌+◌, List, [], ◌∷◌, ◌++◌, length, refl, subst, inl}
use Rattle.std.specs.List.{AllByRecursion}
use Rattle.characters.specs.Classes.{is_white}
use Rattle.characters.specs.Spelling.{spellings}
use Rattle.characters.specs.declared.escapes.Where.TheVariants.{Attribute as Quoted}
use Rattle.names.specs.Order.{Text}
use Rattle.items.specs.Tokens.{written, Attr, Start, End}
use Rattle.items.specs.Grammar.{Each, no_more, next, IsAttr, attribute, IsTag, start, end, Item, tag}
use Rattle.markup.specs.Elements.{Attribute, attribute_text, attributes_text, start_tag, end_tag}
use Rattle.readback.specs.Meaning.{name_of}
use Rattle.readback.proofs.Named.{Named}
use Rattle.readback.proofs.Pieces.{pieces, each-value}

-- attributes: one space before the name, none around `=`
abbrev pub attr_of : Attribute → Attr
attr_of a = record { lead = 1 + length (written (name_of a.name)) + 0 + 1 + 0 + 1; name = name_of a.name; value = pieces Quoted a.value }

abbrev pub attrs_of : List Attribute → List Attr
attrs_of [] = []
attrs_of (a ∷ as') = attr_of a ∷ attrs_of as'

attribute_spelt : (a : Attribute) → Named a.name → IsAttr (attribute_text a) (attr_of a)
unfolding is_white
attribute_spelt a h =
    subst (λ n. IsAttr (32 ∷ (n ++ (61 ∷ 34 ∷ (spellings Quoted a.value ++ (34 ∷ []))))) (attr_of a)) h.same
    (attribute (32 ∷ []) [] [] (name_of a.name) 34 (refl, tt) h.proper tt tt (inl refl) (each-value a.value))

attributes-spelt : (as' : List Attribute) → AllByRecursion (λ a. Named a.name) as' → Each IsAttr (attributes_text as') (attrs_of as')
attributes-spelt [] h = no_more
attributes-spelt (a ∷ as') h = next (attribute_spelt a h.0) (attributes-spelt as' h.1)

-- tags
pub start_item : (n : Text) (as' : List Attribute) (r : Text) → Named n → AllByRecursion (λ a. Named a.name) as' → Item (start_tag n as' ++ r) (Start (name_of n) (attrs_of as')) r
start_item n as' r h k =
    tag (subst (λ m. IsTag (60 ∷ (m ++ (attributes_text as' ++ (62 ∷ [])))) (Start (name_of n) (attrs_of as'))) h.same (start (name_of n) [] h.proper (attributes-spelt as' k) tt))

pub end_item : (n r : Text) → Named n → Item (end_tag n ++ r) (End (name_of n)) r
end_item n r h = tag (subst (λ m. IsTag (60 ∷ 47 ∷ (m ++ (62 ∷ []))) (End (name_of n))) h.same (end (name_of n) [] h.proper tt))
