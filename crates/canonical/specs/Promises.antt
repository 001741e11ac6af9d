-- What is proved of canonical text.
use Rattle.std.specs.Prelude.{◌≡◌, ℕ, ◌*◌, ◌<◌, ◌≤◌, List, [], ◌++◌, length, Ok, Err, codes}
use Rattle.code.specs.Codes.{Laws}
use Rattle.text.specs.Stands.{bytes_of}
use Rattle.packet.specs.Texts.{Header, Trailer}
use Rattle.names.specs.Order.{Text}
use Rattle.names.specs.Xml.{XmlText}
use Rattle.tree.specs.Tree.{Tree}
use Rattle.tree.specs.Lawful.{Lawful}
use Rattle.tree.specs.Rules.{Among}
use Rattle.markup.specs.Elements.{Markup, opened, attributes, bindings}
use Rattle.markup.specs.Clean.{NoInstruction}
use Rattle.canonical.specs.declared.failure.TooLong.{TooLong}
use Rattle.canonical.specs.Prefixes.{prefix}
use Rattle.canonical.specs.Document.{document}
use Rattle.canonical.specs.Packet.{header, trailer, body, padding, text_of_packet, canonical_length, filling}

-- a prefix that is not one of the three with a fixed meaning
pub record Foreign (p : Text) : Type 0 where
  pub some : p ≡ [] → ⊥
  pub not_rdf : p ≡ codes "rdf" → ⊥
  pub not_xml : p ≡ codes "xml" → ⊥
  pub not_xmlns : p ≡ codes "xmlns" → ⊥

-- the limits that a reader of markup sets: open elements, attributes in a tag, namespace declarations in force
pub record Moderate (m : Markup) : Type 0 where
  pub opened : opened m ≤ 32
  pub attributes : attributes m ≤ 32
  pub bindings : bindings m ≤ 32

-- what stands between header and trailer can be read: within the limits of markup, XML's characters, and no `<?`
pub record Readable : Type 0 where
  pub moderate : (t : Tree) → Lawful t → Moderate (document t)
  pub xml : (t : Tree) → Lawful t → (n : ℕ) → XmlText (body t ++ padding n)
  pub no_instruction : (t : Tree) → Lawful t → (n : ℕ) → NoInstruction (body t ++ padding n)

-- what stands around it are a header, in every code, and a trailer that lets the packet be written
pub record Framed : Type 0 where
  pub header : (unit : ℕ) → Header unit header
  pub trailer : Trailer 119 trailer

-- the text with its padding fills the packet, and is refused exactly when it is longer than the packet even without padding
pub record Fills (enc : ℕ → List ℕ) (unit : ℕ) (t : Tree) : Type 0 where
  pub full : (place len n m : ℕ) → len ≡ m * unit → filling enc unit place len t ≡ Ok n → length (bytes_of enc (text_of_packet t n)) ≡ len
  pub refused : (place len : ℕ) → len < canonical_length enc t → filling enc unit place len t ≡ Err (record { place = place })
  pub taken : (place len : ℕ) (f : TooLong) → filling enc unit place len t ≡ Err f → len < canonical_length enc t

abbrev pub Filled : Type 0
Filled = (enc : ℕ → List ℕ) (unit : ℕ) → Laws enc unit → (t : Tree) → Lawful t → Fills enc unit t

-- no two namespaces have one prefix, and none has a prefix that means something else, or none at all
pub record Distinct : Type 0 where
  pub apart : (us : List Text) (u v : Text) → Among u us → Among v us → prefix us u ≡ prefix us v → u ≡ v
  pub foreign : (us : List Text) (u : Text) → Among u us → Foreign (prefix us u)
