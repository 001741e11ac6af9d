-- Tags and texts as they are spelt: tame, and in XML's characters.
use Rattle.std.proofs.Common.{◌≡◌, ℕ, true, ◌≢◌, List, [], ◌∷◌, ◌++◌, refl, arith}
use Rattle.std.specs.List.{AllByRecursion}
use Rattle.std.proofs.ByRecursion.{All-append, All-push, All-weaker}
use Rattle.characters.specs.Classes.{is_xml}
use Rattle.characters.specs.Spelling.{spellings}
use Rattle.characters.specs.Safe.{Quiet}
use Rattle.characters.proofs.Safe.{spellings-quiet, spellings-xml}
use Rattle.characters.specs.declared.escapes.Where.TheVariants.{Content, Attribute as Quoted}
use Rattle.names.specs.Order.{Text}
use Rattle.names.specs.Xml.{XmlText}
use Rattle.markup.specs.Elements.{Attribute, Markup, nothing, words, element, attribute_text, attributes_text, start_tag, end_tag, markup_text}
use Rattle.markup.specs.Clean.{PlainName, PlainNames, XmlMarkup}
use Rattle.markup.proofs.Tame.{Tame, Onward, onward_append, tame_append, plain-tame}

-- What holds of every character of the names and of the spelt values, and of ` `, `"`, `=` and `>`, holds of every character of a
-- start tag behind its `<`.
module _ (R : ℕ → Type 0) (space : R 32) (quote : R 34) (equals : R 61) (greater : R 62) where
  attribute_all : (a : Attribute) → AllByRecursion R a.name → AllByRecursion R (spellings Quoted a.value) → AllByRecursion R (attribute_text a)
  attribute_all a h k =
      (space, All-append R a.name _ h (equals, (quote, All-push R (spellings Quoted a.value) 34 k quote)))

  attributes-all : (as' : List Attribute) → AllByRecursion (λ a. AllByRecursion R a.name × AllByRecursion R (spellings Quoted a.value)) as' → AllByRecursion R (attributes_text as')
  attributes-all [] h = tt
  attributes-all (a ∷ as') h =
      All-append R (attribute_text a) (attributes_text as') (attribute_all a h.0.0 h.0.1) (attributes-all as' h.1)

  start_all : (n : Text) (as' : List Attribute) → AllByRecursion R n → AllByRecursion (λ a. AllByRecursion R a.name × AllByRecursion R (spellings Quoted a.value)) as' → AllByRecursion R (n ++ (attributes_text as' ++ (62 ∷ [])))
  start_all n as' h k = All-append R n _ h (All-push R (attributes_text as') 62 (attributes-all as' k) greater)

-- No `<` stands in a plain name, in a spelt value or in a spelt text.
abbrev Other : ℕ → Type 0
Other d = d ≢ 60

name-other : (n : Text) → PlainName n → AllByRecursion Other n
name-other [] h = absurd h
name-other (c ∷ n) h = h.1

quoted_other : (x : Text) → AllByRecursion Other (spellings Quoted x)
quoted_other x = All-weaker (Quiet Quoted) Other (λ d h. h.1) (spellings Quoted x) (spellings-quiet Quoted x)

tame_words : (x : Text) → Tame (spellings Content x)
tame_words x = plain-tame (spellings Content x) (All-weaker (Quiet Content) Other (λ d h. h.1) (spellings Content x) (spellings-quiet Content x))

-- tags with plain names are tame
name-onward : (n : Text) → PlainName n → Onward n
name-onward [] h = absurd h
name-onward (c ∷ n) h = h.0

tame_start : (n : Text) (as' : List Attribute) → PlainName n → AllByRecursion (λ a. PlainName a.name) as' → Tame (start_tag n as')
tame_start n as' h k =
    let p : AllByRecursion (λ a. AllByRecursion Other a.name × AllByRecursion Other (spellings Quoted a.value)) as' =
    All-weaker (λ a. PlainName a.name) _ (λ a q. (name-other a.name q, quoted_other a.value)) as' k in
    (λ _. onward_append n _ (name-onward n h), plain-tame _ (start_all Other (omega arith) (omega arith) (omega arith) (omega arith) n as' (name-other n h) p))

tame_end : (n : Text) → PlainName n → Tame (end_tag n)
tame_end n h =
    (λ _. omega arith, plain-tame (47 ∷ (n ++ (62 ∷ []))) (omega arith, All-push Other n 62 (name-other n h) (omega arith)))

-- markup with plain names is tame
pub tame_markup : (m : Markup) → PlainNames m → Tame (markup_text m)
unfolding markup_text
tame_markup nothing h = tt
tame_markup (words x r) h = tame_append (spellings Content x) (markup_text r) (tame_words x) (tame_markup r h)
tame_markup (element n as' c r) h =
    tame_append (start_tag n as') _ (tame_start n as' h.0 h.1)
    (tame_append (markup_text c) _ (tame_markup c h.2) (tame_append (end_tag n) (markup_text r) (tame_end n h.0) (tame_markup r h.3)))

-- markup of XML's characters is spelt in XML's characters
xml_start : (n : Text) (as' : List Attribute) → XmlText n → AllByRecursion (λ a. XmlText a.name × XmlText a.value) as' → XmlText (start_tag n as')
unfolding is_xml
xml_start n as' h k =
    let p : AllByRecursion (λ a. XmlText a.name × XmlText (spellings Quoted a.value)) as' =
    All-weaker (λ a. XmlText a.name × XmlText a.value) _ (λ a q. (q.0, spellings-xml Quoted a.value q.1)) as' k in
    (refl, start_all (λ d. is_xml d ≡ true) refl refl refl refl n as' h p)

xml_end : (n : Text) → XmlText n → XmlText (end_tag n)
unfolding is_xml
xml_end n h = (refl, (refl, All-push (λ d. is_xml d ≡ true) n 62 h refl))

pub xml_markup : (m : Markup) → XmlMarkup m → XmlText (markup_text m)
unfolding markup_text
xml_markup nothing h = tt
xml_markup (words x r) h = All-append _ (spellings Content x) (markup_text r) (spellings-xml Content x h.0) (xml_markup r h.1)
xml_markup (element n as' c r) h =
    All-append _ (start_tag n as') _ (xml_start n as' h.0 h.1)
    (All-append _ (markup_text c) _ (xml_markup c h.2) (All-append _ (end_tag n) (markup_text r) (xml_end n h.0) (xml_markup r h.3)))
