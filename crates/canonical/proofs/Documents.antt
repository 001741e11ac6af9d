-- The whole document of a lawful tree: within the limits, names that are plain, and XML's characters.
use Rattle.std.proofs.Common.{List, [], ◌∷◌, codes, refl, arith}
use Rattle.std.specs.List.{AllByRecursion}
use Rattle.characters.specs.Classes.{is_xml}
use Rattle.names.specs.Order.{same}
use Rattle.names.specs.Xml.{XmlText, all_xml}
use Rattle.names.specs.Reserved.{rdf_uri}
use Rattle.tree.specs.Tree.{Tree}
use Rattle.tree.specs.Lawful.{Lawful, Fields, namespaces}
use Rattle.names.proofs.Deciding.{xml_decides}
use Rattle.markup.specs.Elements.{Attribute, Markup, nothing, element}
use Rattle.markup.specs.Clean.{PlainNames, XmlMarkup}
use Rattle.canonical.specs.Prefixes.{declared_from}
use Rattle.canonical.specs.Document.{elements, document}
use Rattle.canonical.specs.Promises.{Moderate}
use Rattle.canonical.proofs.Names.{rdf_fit, fit_plain, fit_xml}
use Rattle.canonical.proofs.Sober.{FitAttribute, Sober, sober_attributes, sober_bindings, declared_few, fit_names, fit_texts, sober_names, sober_xml}
use Rattle.canonical.proofs.Elements.{elements_sober}
use Rattle.canonical.proofs.Depths.{elements_opened}
use Rattle.canonical.proofs.Gathered.{namespaces_xml, declared_length, declared_fit}

-- the attributes of rdf:RDF, and the element in it
abbrev declaring : Tree → List Attribute
declaring t = record { name = codes "xmlns:rdf"; value = rdf_uri } ∷ declared_from 1 (namespaces t.properties)

abbrev described : Tree → Markup
described t =
    element (codes "rdf:Description") (record { name = codes "rdf:about"; value = t.about } ∷ []) (elements (namespaces t.properties) t.properties) nothing

described-sober : (t : Tree) → Lawful t → Sober (described t)
unfolding same
described-sober t l =
    (rdf_fit (codes "Description") (omega arith, omega arith), omega arith, (((omega arith, l.about), refl), tt), elements_sober (namespaces t.properties) l.limits.namespaces Fields t.properties l.properties, tt)

rdf_xml : XmlText rdf_uri
unfolding rdf_uri all_xml is_xml
rdf_xml = (xml_decides rdf_uri).0 refl

declaring-fit : (t : Tree) → Lawful t → AllByRecursion FitAttribute (declaring t)
declaring-fit t l =
    ((omega arith, rdf_xml), declared_fit 1 (namespaces t.properties) (omega (arith, l.limits.namespaces)) (namespaces_xml Fields t.properties l.properties))

-- the limits
pub document-moderate : (t : Tree) → Lawful t → Moderate (document t)
unfolding document
document-moderate t l =
    let s = described-sober t l in
    let n = declared_length 1 (namespaces t.properties) in
    let m = l.limits.namespaces in
    record {
      opened = omega (arith, elements_opened (namespaces t.properties) Fields t.properties l.properties, l.limits.levels);
      attributes = omega (arith, sober_attributes (described t) s);
      bindings = omega (arith, sober_bindings (described t) s, declared_few (declaring t));
    }

-- names and characters
pub document-names : (t : Tree) → Lawful t → PlainNames (document t)
unfolding document
document-names t l =
    (fit_plain (codes "rdf:RDF") (omega arith), fit_names (declaring t) (declaring-fit t l), sober_names (described t) (described-sober t l), tt)

pub document-xml : (t : Tree) → Lawful t → XmlMarkup (document t)
unfolding document
document-xml t l =
    (fit_xml (codes "rdf:RDF") (omega arith), fit_texts (declaring t) (declaring-fit t l), sober_xml (described t) (described-sober t l), tt)
