-- What is proved of texts and names.
use Rattle.std.specs.Prelude.{◌≡◌, ◌⊎◌, Decides}
use Rattle.names.specs.Order.{Text, Name, Before, same, before, NameBefore, same_name, name_before}
use Rattle.names.specs.Xml.{XmlText, all_xml}

-- any two names stand in one order only
pub record Ordered : Type 0 where
  pub irreflexive : (n : Name) → NameBefore n n → ⊥
  pub transitive : (l m n : Name) → NameBefore l m → NameBefore m n → NameBefore l n
  pub total : (m n : Name) → (m ≡ n) ⊎ (NameBefore m n ⊎ NameBefore n m)

-- each test answers what it tests for
pub record Told : Type 0 where
  pub same : (s t : Text) → Decides (same s t) (s ≡ t)
  pub before : (s t : Text) → Decides (before s t) (Before s t)
  pub same_name : (m n : Name) → Decides (same_name m n) (m ≡ n)
  pub name_before : (m n : Name) → Decides (name_before m n) (NameBefore m n)
  pub xml_text : (t : Text) → Decides (all_xml t) (XmlText t)
