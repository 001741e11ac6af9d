-- Markup whose tags are plain: fit names, few attributes and no declarations, and XML's characters throughout.
use Rattle.std.proofs.Common.{◌≡◌, suc, ◌≤◌, false, List, [], ◌∷◌, length, refl, arith}
use Rattle.std.specs.List.{AllByRecursion}
use Rattle.std.proofs.ByRecursion.{All-weaker}
use Rattle.std.proofs.lemmas.Bool.{cond_both}
use Rattle.names.specs.Xml.{XmlText}
use Rattle.markup.specs.Elements.{Attribute, Markup, nothing, words, element, attributes, declares, declarations, bindings}
use Rattle.markup.specs.Clean.{PlainName, PlainNames, XmlMarkup}
use Rattle.canonical.proofs.Names.{Fit, fit_plain, fit_xml}

-- an attribute with a fit name, and one that declares no namespace
abbrev pub FitAttribute : Attribute → Type 0
FitAttribute a = Fit a.name × XmlText a.value

abbrev pub SoberAttribute : Attribute → Type 0
SoberAttribute a = FitAttribute a × (declares a ≡ false)

abbrev pub Sober : Markup → Type 0
Sober nothing = Unit {0}
Sober (words t r) = XmlText t × Sober r
Sober (element n as' c r) = Fit n × (length as' ≤ 2) × AllByRecursion SoberAttribute as' × Sober c × Sober r

-- attributes in a tag
pub sober_attributes : (m : Markup) → Sober m → attributes m ≤ 2
sober_attributes nothing h = omega arith
sober_attributes (words t r) h = sober_attributes r h.1
sober_attributes (element n as' c r) h = omega (arith, sober_attributes c h.3, sober_attributes r h.4)

-- declarations
undeclared : (as' : List Attribute) → AllByRecursion SoberAttribute as' → declarations as' ≡ 0
undeclared [] h = refl
undeclared (a ∷ as') h = rw h.0.1 (undeclared as' h.1)

pub declared_few : (as' : List Attribute) → declarations as' ≤ length as'
declared_few [] = omega arith
declared_few (a ∷ as') =
    let l = declared_few as' in
    cond_both (declares a) _ _ (λ n. n ≤ suc (length as')) (λ _. omega arith) (λ _. omega arith)

pub sober_bindings : (m : Markup) → Sober m → bindings m ≡ 0
sober_bindings nothing h = refl
sober_bindings (words t r) h = sober_bindings r h.1
sober_bindings (element n as' c r) h = omega (arith, undeclared as' h.2, sober_bindings c h.3, sober_bindings r h.4)

-- names and characters
pub fit_names : (as' : List Attribute) → AllByRecursion FitAttribute as' → AllByRecursion (λ a. PlainName a.name) as'
fit_names as' h = All-weaker FitAttribute _ (λ a p. fit_plain a.name p.0) as' h

pub fit_texts : (as' : List Attribute) → AllByRecursion FitAttribute as' → AllByRecursion (λ a. XmlText a.name × XmlText a.value) as'
fit_texts as' h = All-weaker FitAttribute _ (λ a p. (fit_xml a.name p.0, p.1)) as' h

fits : (as' : List Attribute) → AllByRecursion SoberAttribute as' → AllByRecursion FitAttribute as'
fits as' h = All-weaker SoberAttribute FitAttribute (λ a p. p.0) as' h

pub sober_names : (m : Markup) → Sober m → PlainNames m
sober_names nothing h = tt
sober_names (words t r) h = sober_names r h.1
sober_names (element n as' c r) h = (fit_plain n h.0, fit_names as' (fits as' h.2), sober_names c h.3, sober_names r h.4)

pub sober_xml : (m : Markup) → Sober m → XmlMarkup m
sober_xml nothing h = tt
sober_xml (words t r) h = (h.0, sober_xml r h.1)
sober_xml (element n as' c r) h = (fit_xml n h.0, fit_texts as' (fits as' h.2), sober_xml c h.3, sober_xml r h.4)
