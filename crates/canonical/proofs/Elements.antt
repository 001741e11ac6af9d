-- The elements of a lawful tree are sober.
use Rattle.std.proofs.Common.{◌≡◌, ◌≤◌, Bool, true, false, List, [], ◌∷◌, length, codes, refl, arith, length-append}
use Rattle.std.specs.List.{AllByRecursion}
use Rattle.std.proofs.ByRecursion.{All-append}
use Rattle.std.proofs.lemmas.Bool.{cond_both, false≢true}
use Rattle.tree.specs.declared.form.Form.{Form}
use Rattle.tree.specs.declared.form.Form.TheVariants.{Text as TextForm, Uri, Structure, Bag, Sequence, Alternative}
use Rattle.names.specs.Order.{Text, same}
use Rattle.names.specs.Xml.{XmlText}
use Rattle.tree.specs.Tree.{Nodes, none, more, is_simple}
use Rattle.tree.specs.Lawful.{Row, Qualifiers, LawfulNodes}
use Rattle.markup.specs.Elements.{Attribute, Markup, nothing, textual}
use Rattle.canonical.specs.Document.{is_lang_label, language, has_others, as_resource, form_attributes, form_content, tagged, element_name, elements, others}
use Rattle.canonical.proofs.Names.{Fit, fit_xml, rdf_fit, element_fit}
use Rattle.canonical.proofs.Sober.{SoberAttribute, Sober}

-- at most one attribute
abbrev Single : List Attribute → Type 0
Single as' = (length as' ≤ 1) × AllByRecursion SoberAttribute as'

resource_sober : SoberAttribute as_resource
unfolding same
resource_sober = ((rdf_fit (codes "parseType") (omega arith), fit_xml (codes "Resource") (omega arith)), refl)

-- a value by its form
form_single : (f : Form) (x : Text) → XmlText x → Single (form_attributes f x)
unfolding same
form_single TextForm x h = (omega arith, tt)
form_single Uri x h = (omega arith, (((rdf_fit (codes "resource") (omega arith), h), refl), tt))
form_single Structure x h = (omega arith, (resource_sober, tt))
form_single Bag x h = (omega arith, tt)
form_single Sequence x h = (omega arith, tt)
form_single Alternative x h = (omega arith, tt)

textual-sober : (x : Text) → XmlText x → Sober (textual x)
textual-sober [] h = tt
textual-sober (c ∷ x) h = (h, tt)

content_sober : (f : Form) (x : Text) (m : Markup) → XmlText x → Sober m → Sober (form_content f x m)
content_sober TextForm x m h k = textual-sober x h
content_sober Uri x m h k = tt
content_sober Structure x m h k = k
content_sober Bag x m h k = (omega arith, omega arith, tt, k, tt)
content_sober Sequence x m h k = (omega arith, omega arith, tt, k, tt)
content_sober Alternative x m h k = (omega arith, omega arith, tt, k, tt)

-- what is simple is written without its parts
pub simple_content : (f : Form) (x : Text) (m : Markup) → is_simple f ≡ true → form_content f x m ≡ form_content f x nothing
simple_content TextForm x m e = refl
simple_content Uri x m e = refl
simple_content Structure x m e = absurd (false≢true e)
simple_content Bag x m e = absurd (false≢true e)
simple_content Sequence x m e = absurd (false≢true e)
simple_content Alternative x m e = absurd (false≢true e)

-- the language and the element of a node
language-single : (q : Nodes) → LawfulNodes Qualifiers q → Single (language q)
unfolding same
language-single none h = (omega arith, tt)
language-single (more h q p r) l =
    cond_both (is_lang_label h.label) _ _ Single (λ _. (omega arith, (((omega arith, l.0.characters), refl), tt))) (λ _. language-single r l.3)

tagged-sober : (b : Bool) (n : Text) (lang as' : List Attribute) (c qs r : Markup) → Fit n → Single lang → Single as' → Sober c → Sober qs → Sober r → Sober (tagged b n lang as' c qs r)
tagged-sober false n lang as' c qs r f l a u v w =
    (f, rw length-append (omega arith), All-append SoberAttribute lang as' l.1 a.1, u, w)
tagged-sober true n lang as' c qs r f l a u v w =
    (f, rw length-append (omega arith), All-append SoberAttribute lang (as_resource ∷ []) l.1 (resource_sober, tt), (omega arith, omega arith, a.1, u, v), w)

module _ (us : List Text) (few : length us ≤ 24) where
  others_sober : (q : Nodes) → LawfulNodes Qualifiers q → Sober (others us q)
  unfolding others
  others_sober none l = tt
  others_sober (more h q p r) l =
      let s = form_single h.form h.value l.0.characters in
      let c : Sober (form_content h.form h.value (elements us p)) =
      rw (simple_content h.form h.value (elements us p) l.0.kind.simple) (content_sober h.form h.value nothing l.0.characters tt) in
      cond_both (is_lang_label h.label) _ _ Sober (λ _. others_sober r l.3)
      (λ _. (element_fit us few Qualifiers h.label l.0.label, omega arith, s.1, c, others_sober r l.3))

  pub elements_sober : (k : Row) (ns : Nodes) → LawfulNodes k ns → Sober (elements us ns)
  unfolding elements
  elements_sober k none l = tt
  elements_sober k (more h q p r) l =
      tagged-sober (has_others q) (element_name us h.label) (language q) (form_attributes h.form h.value) (form_content h.form h.value (elements us p)) (others us q) (elements us r)
      (element_fit us few k h.label l.0.label)
      (language-single q l.1)
      (form_single h.form h.value l.0.characters)
      (content_sober h.form h.value (elements us p) l.0.characters (elements_sober _ p l.2))
      (others_sober q l.1)
      (elements_sober k r l.3)
