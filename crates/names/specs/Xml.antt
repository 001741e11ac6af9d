-- Texts of XML's characters.
use Rattle.std.specs.Prelude.{◌≡◌, Bool, true, ◌&&◌, [], ◌∷◌}
use Rattle.std.specs.List.{AllByRecursion}
use Rattle.characters.specs.Classes.{is_xml}
use Rattle.names.specs.Order.{Text}

-- every character is one of XML
abbrev pub XmlText : Text → Type 0
XmlText t = AllByRecursion (λ c. is_xml c ≡ true) t

-- the test
unfoldable pub all_xml : Text → Bool
all_xml [] = true
all_xml (c ∷ t) = is_xml c && all_xml t
