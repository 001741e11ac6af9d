-- Good markup, as it is spelt, and padding have no U+000D.
use Rattle.std.proofs.Common.{◌≡◌, ℕ, true, ◌≢◌, List, [], ◌∷◌, ◌++◌, sym, refl, subst, arith}
use Rattle.std.specs.List.{AllByRecursion}
use Rattle.std.proofs.ByRecursion.{All-append, All-weaker}
use Rattle.std.proofs.lemmas.Bool.{both_ways}
use Rattle.characters.specs.Classes.{is_white}
use Rattle.characters.specs.Spelling.{spellings}
use Rattle.characters.specs.Safe.{Quiet}
use Rattle.characters.proofs.Safe.{spellings-quiet}
use Rattle.characters.specs.declared.escapes.Where.{Where}
use Rattle.characters.specs.declared.escapes.Where.TheVariants.{Content, Attribute as Quoted}
use Rattle.names.specs.Order.{Text}
use Rattle.items.specs.Tokens.{written}
use Rattle.items.specs.Scan.{is_char_of_name}
use Rattle.items.proofs.Names.{NameText, name-text, white_ends, first_next, next_char}
use Rattle.markup.specs.Elements.{Attribute, attribute_text, attributes_text, Markup, nothing, words, element, start_tag, end_tag, markup_text}
use Rattle.xml.specs.Namespaces.{Scope, in_force}
use Rattle.canonical.specs.Packet.{padding}
use Rattle.canonical.proofs.Padding.{padding-all}
use Rattle.readback.specs.Meaning.{name_of}
use Rattle.readback.proofs.Named.{Named}
use Rattle.readback.proofs.Lines.{Calm}
use Rattle.readback.proofs.Tags.{attrs_of}
use Rattle.readback.proofs.Good.{Good}

abbrev NotReturn : ℕ → Type 0
NotReturn c = c ≢ 13

-- names
char_calm : (c : ℕ) → is_char_of_name c ≡ true → c ≢ 13
unfolding is_white
char_calm c e d = both_ways (is_char_of_name c) (white_ends c (subst (λ x. is_white x ≡ true) (sym d) refl)) e

text_calm : (t : Text) → NameText t → Calm t
text_calm [] h = absurd h
text_calm (c ∷ t) h = (char_calm c (next_char c (first_next c h.0)), All-weaker _ NotReturn char_calm t h.1)

name_calm : (n : Text) → Named n → Calm n
name_calm n h = subst Calm h.same (text_calm (written (name_of n)) (name-text (name_of n) h.proper))

-- texts and values
spelt_calm : (w : Where) (t : Text) → Calm (spellings w t)
spelt_calm Content t = All-weaker (Quiet Content) NotReturn (λ d q. q.0) (spellings Content t) (spellings-quiet Content t)
spelt_calm Quoted t = All-weaker (Quiet Quoted) NotReturn (λ d q. q.0) (spellings Quoted t) (spellings-quiet Quoted t)

pub calm_both : (s t : Text) → Calm s → Calm t → Calm (s ++ t)
calm_both s t h k = All-append NotReturn s t h k

-- tags
value_calm : (v : Text) → Calm (61 ∷ 34 ∷ (spellings Quoted v ++ (34 ∷ [])))
value_calm v = (omega arith, (omega arith, calm_both (spellings Quoted v) (34 ∷ []) (spelt_calm Quoted v) (omega arith)))

attribute_calm : (a : Attribute) → Named a.name → Calm (attribute_text a)
attribute_calm a h = (omega arith, calm_both a.name (61 ∷ 34 ∷ (spellings Quoted a.value ++ (34 ∷ []))) (name_calm a.name h) (value_calm a.value))

attributes_calm : (as' : List Attribute) → AllByRecursion (λ a. Named a.name) as' → Calm (attributes_text as')
attributes_calm [] h = tt
attributes_calm (a ∷ as') h = calm_both (attribute_text a) (attributes_text as') (attribute_calm a h.0) (attributes_calm as' h.1)

start_calm : (n : Text) (as' : List Attribute) → Named n → AllByRecursion (λ a. Named a.name) as' → Calm (start_tag n as')
start_calm n as' h k =
    (omega arith, calm_both n (attributes_text as' ++ (62 ∷ [])) (name_calm n h) (calm_both (attributes_text as') (62 ∷ []) (attributes_calm as' k) (omega arith)))

end_calm : (n : Text) → Named n → Calm (end_tag n)
end_calm n h = (omega arith, (omega arith, calm_both n (62 ∷ []) (name_calm n h) (omega arith)))

pub markup_calm : (sc : Scope) (m : Markup) → Good sc m → Calm (markup_text m)
unfolding markup_text
markup_calm sc nothing h = tt
markup_calm sc (words t r) h = calm_both (spellings Content t) (markup_text r) (spelt_calm Content t) (markup_calm sc r h.2)
markup_calm sc (element n as' c r) h =
    calm_both (start_tag n as') (markup_text c ++ (end_tag n ++ markup_text r)) (start_calm n as' h.0.name h.0.names)
    (calm_both (markup_text c) (end_tag n ++ markup_text r) (markup_calm (in_force (attrs_of as') sc) c h.1)
    (calm_both (end_tag n) (markup_text r) (end_calm n h.0.name) (markup_calm sc r h.2)))

pub padding_calm : (n : ℕ) → Calm (padding n)
padding_calm n = padding-all NotReturn (omega arith) (omega arith) n
