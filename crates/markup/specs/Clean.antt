-- Markup that a reader takes for elements and texts alone.
use Rattle.std.specs.Prelude.{◌≢◌, [], ◌∷◌, ◌++◌}
use Rattle.std.specs.List.{AllByRecursion}
use Rattle.names.specs.Order.{Text}
use Rattle.names.specs.Xml.{XmlText}
use Rattle.markup.specs.Elements.{Markup, nothing, words, element, markup_text}

-- a name as it is written, so far as this matters: not empty, no `<` in it, and `?` is not its first character
abbrev pub PlainName : Text → Type 0
PlainName [] = ⊥
PlainName (c ∷ t) = (c ≢ 63) × AllByRecursion (λ d. d ≢ 60) (c ∷ t)

abbrev pub PlainNames : Markup → Type 0
PlainNames nothing = Unit {0}
PlainNames (words t r) = PlainNames r
PlainNames (element n as' c r) = PlainName n × AllByRecursion (λ a. PlainName a.name) as' × PlainNames c × PlainNames r

-- every character of names, values and texts is one of XML
abbrev pub XmlMarkup : Markup → Type 0
XmlMarkup nothing = Unit {0}
XmlMarkup (words t r) = XmlText t × XmlMarkup r
XmlMarkup (element n as' c r) = XmlText n × AllByRecursion (λ a. XmlText a.name × XmlText a.value) as' × XmlMarkup c × XmlMarkup r

-- nowhere in the text does `<?` stand
abbrev pub NoInstruction : Text → Type 0
NoInstruction t = (ys zs : Text) → t ≢ ys ++ (60 ∷ 63 ∷ zs)

-- what is proved of markup as it is spelt
pub record Spelt : Type 0 where
  pub no_instruction : (m : Markup) → PlainNames m → NoInstruction (markup_text m)
  pub xml : (m : Markup) → XmlMarkup m → XmlText (markup_text m)
