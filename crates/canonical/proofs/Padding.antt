-- Padding, and the text of a tree with padding behind it.
use Rattle.std.proofs.Common.{◌≡◌, ℕ, zero, suc, ◌+◌, ◌%◌, true, eqb, ◌≢◌, ◌++◌, map, refl, arith}
use Rattle.std.specs.List.{range_with_len, AllByRecursion}
use Rattle.std.proofs.ByRecursion.{All-append}
use Rattle.std.proofs.lemmas.Bool.{cond_both}
use Rattle.characters.specs.Classes.{is_xml}
use Rattle.names.specs.Xml.{XmlText}
use Rattle.tree.specs.Tree.{Tree}
use Rattle.tree.specs.Lawful.{Lawful}
use Rattle.markup.specs.Clean.{NoInstruction}
use Rattle.markup.proofs.Tame.{Tame, tame_append, plain-tame, tame_none}
use Rattle.markup.proofs.Tags.{tame_markup, xml_markup}
use Rattle.canonical.specs.Document.{document}
use Rattle.canonical.specs.Packet.{body, padding_at, padding}
use Rattle.canonical.proofs.Documents.{document-names, document-xml}

-- every character of padding is a line feed or a space
padded_all : (P : ℕ → Type 0) → P 10 → P 32 → (k n : ℕ) → AllByRecursion P (map padding_at (range_with_len k n))
padded_all P f s k zero = tt
padded_all P f s k (suc n) = (cond_both (eqb (k % 100) 0) 10 32 P (λ _. f) (λ _. s), padded_all P f s (k + 1) n)

pub padding-all : (P : ℕ → Type 0) → P 10 → P 32 → (n : ℕ) → AllByRecursion P (padding n)
unfolding padding
padding-all P f s n = padded_all P f s 1 n

-- both are XML's characters, and neither is `<`
pub body-xml : (t : Tree) → Lawful t → XmlText (body t)
unfolding body
body-xml t l = xml_markup (document t) (document-xml t l)

pub padding-xml : (n : ℕ) → XmlText (padding n)
unfolding is_xml
padding-xml n = padding-all (λ c. is_xml c ≡ true) refl refl n

pub padded_xml : (t : Tree) → Lawful t → (n : ℕ) → XmlText (body t ++ padding n)
padded_xml t l n = All-append _ (body t) (padding n) (body-xml t l) (padding-xml n)

padded_tame : (t : Tree) → Lawful t → (n : ℕ) → Tame (body t ++ padding n)
unfolding body
padded_tame t l n =
    tame_append (body t) (padding n) (tame_markup (document t) (document-names t l)) (plain-tame (padding n) (padding-all (λ c. c ≢ 60) (omega arith) (omega arith) n))

pub padded_none : (t : Tree) → Lawful t → (n : ℕ) → NoInstruction (body t ++ padding n)
padded_none t l n = tame_none (body t ++ padding n) (padded_tame t l n)
