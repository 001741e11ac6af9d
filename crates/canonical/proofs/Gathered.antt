-- The namespaces that canonical text declares.
use Rattle.std.proofs.Common.{◌≡◌, ℕ, suc, ◌+◌, ◌<◌, cond, List, [], ◌∷◌, length, codes, refl, ap, arith}
use Rattle.std.specs.List.{AllByRecursion}
use Rattle.std.proofs.ByRecursion.{All-append}
use Rattle.std.proofs.lemmas.Bool.{cond_both}
use Rattle.names.specs.Order.{Text, same, before}
use Rattle.names.specs.Xml.{XmlText}
use Rattle.names.specs.Reserved.{xml_uri}
use Rattle.tree.specs.Tree.{Label, named, item, Nodes, none, more}
use Rattle.tree.specs.Lawful.{Row, Fields, Items, Qualifiers, LawfulLabel, LawfulNodes, inserted, noted, gathered, namespaces}
use Rattle.canonical.specs.Prefixes.{prefix_as, number_after, declared_from}
use Rattle.canonical.proofs.Names.{Sign, prefix-signs, number-after}
use Rattle.canonical.proofs.Sober.{FitAttribute}

-- those of a lawful tree are of XML's characters
inserted-xml : (u : Text) (us : List Text) → XmlText u → AllByRecursion XmlText us → AllByRecursion XmlText (inserted u us)
inserted-xml u [] h k = (h, tt)
inserted-xml u (v ∷ us) h k =
    cond_both (same u v) _ _ (AllByRecursion XmlText) (λ _. k)
    (λ _. cond_both (before u v) _ _ (AllByRecursion XmlText) (λ _. (h, k)) (λ _. (k.0, inserted-xml u us h k.1)))

named_xml : (u : Text) (us : List Text) → XmlText u → AllByRecursion XmlText us → AllByRecursion XmlText (cond (same u xml_uri) us (inserted u us))
named_xml u us h k = cond_both (same u xml_uri) _ _ (AllByRecursion XmlText) (λ _. k) (λ _. inserted-xml u us h k)

noted-xml : (k : Row) (l : Label) (us : List Text) → LawfulLabel k l → AllByRecursion XmlText us → AllByRecursion XmlText (noted l us)
noted-xml Fields (named n) us h a = named_xml n.uri us h.1 a
noted-xml Fields item us h a = a
noted-xml Items (named n) us h a = absurd h
noted-xml Items item us h a = a
noted-xml Qualifiers (named n) us h a = named_xml n.uri us h.1 a
noted-xml Qualifiers item us h a = a

gathered-xml : (k : Row) (ns : Nodes) (us : List Text) → LawfulNodes k ns → AllByRecursion XmlText us → AllByRecursion XmlText (gathered ns us)
gathered-xml k none us l a = a
gathered-xml k (more h q p r) us l a =
    noted-xml k h.label (gathered q (gathered p (gathered r us))) l.0.label
    (gathered-xml Qualifiers q (gathered p (gathered r us)) l.1 (gathered-xml _ p (gathered r us) l.2 (gathered-xml k r us l.3 a)))

pub namespaces_xml : (k : Row) (ns : Nodes) → LawfulNodes k ns → AllByRecursion XmlText (namespaces ns)
unfolding namespaces
namespaces_xml k ns l = gathered-xml k ns [] l tt

-- each has its attribute
pub declared_length : (k : ℕ) (us : List Text) → length (declared_from k us) ≡ length us
declared_length k [] = refl
declared_length k (u ∷ us) = ap suc (declared_length (number_after k u) us)

pub declared_fit : (k : ℕ) (us : List Text) → k + length us < 100 → AllByRecursion XmlText us → AllByRecursion FitAttribute (declared_from k us)
declared_fit k [] h a = tt
declared_fit k (u ∷ us) h a =
    let l = number-after k u in
    ((All-append Sign (codes "xmlns:") (prefix_as k u) (omega arith) (prefix-signs k u (omega arith)), a.0), declared_fit (number_after k u) us (omega arith) a.1)
