-- The markup of a lawful tree is good.
use Rattle.std.proofs.Common.{◌≡◌, ◌≤◌, Bool, true, false, ◌≢◌, List, [], ◌∷◌, ◌++◌, length, None, codes, sym, refl, ap, ◌∙◌, subst, inl, inr, ⊎_elim, arith}
use Rattle.std.proofs.lemmas.Bool.{cond_both, both_ways}
use Rattle.characters.specs.Classes.{is_name}
use Rattle.tree.specs.declared.form.Form.{Form}
use Rattle.tree.specs.declared.form.Form.TheVariants.{Text as TextForm, Uri, Structure, Bag, Sequence, Alternative}
use Rattle.names.specs.Order.{Text, Name, same_name}
use Rattle.names.specs.Reserved.{rdf_uri, xml_uri, lang_name}
use Rattle.names.proofs.Deciding.{same_name-decides}
use Rattle.tree.specs.Names.{LawfulName}
use Rattle.tree.specs.Tree.{Label, named, item, Nodes, none, more, Tree}
use Rattle.tree.specs.Lawful.{Row, Fields, Items, Qualifiers, row_of, LawfulLabel, LawfulNodes, Lawful, namespaces}
use Rattle.tree.specs.Rules.{Among, UsedBy, Used}
use Rattle.tree.proofs.Gathering.{namespaces_ascending, namespaces_all, namespaces_only}
use Rattle.items.specs.Tokens.{NcName}
use Rattle.markup.specs.Elements.{Attribute, Markup, nothing, element, textual}
use Rattle.xml.specs.Namespaces.{Member, Repeats, Scope, base, in_force, element_name as expanded, expanded_names, prefixes}
use Rattle.readback.specs.Meaning.{name_of}
use Rattle.canonical.specs.Prefixes.{prefix}
use Rattle.canonical.specs.Document.{is_lang_label, language, has_others, as_resource, form_attributes, form_content, tagged, element_name, elements, others, document}
use Rattle.canonical.proofs.Numbered.{foreign}
use Rattle.canonical.proofs.Elements.{simple_content}
use Rattle.readback.proofs.Tags.{attrs_of}
use Rattle.readback.proofs.Good.{FineTag, Good}
use Rattle.readback.proofs.Locals.{local_nc, prefix_nc}
use Rattle.readback.proofs.Declared.{declaring, declaring-named, declaring-once, declaring-bound, declaring-expands, declaring-fair, declaring-length}
use Rattle.readback.proofs.Own.{used_free, own_length, declared_own, bindings_of, Spaces, bindings_fair, bindings_single, Rich, bindings_rich}
use Rattle.readback.proofs.Inner.{Known, known_name, rdf_known, of_rdf, tag, IsLang, no_lang, one_lang, IsRdf, no_rdf, one_rdf, good_element}

-- names with the prefix rdf
bag_nc : NcName (codes "Bag")
unfolding is_name
bag_nc = (refl, (refl, (refl, tt)))

seq_nc : NcName (codes "Seq")
unfolding is_name
seq_nc = (refl, (refl, (refl, tt)))

alt_nc : NcName (codes "Alt")
unfolding is_name
alt_nc = (refl, (refl, (refl, tt)))

li_nc : NcName (codes "li")
unfolding is_name
li_nc = (refl, (refl, tt))

value_nc : NcName (codes "value")
unfolding is_name
value_nc = (refl, (refl, (refl, (refl, (refl, tt)))))

resource_nc : NcName (codes "resource")
unfolding is_name
resource_nc = (refl, (refl, (refl, (refl, (refl, (refl, (refl, (refl, tt))))))))

kind_nc : NcName (codes "parseType")
unfolding is_name
kind_nc = (refl, (refl, (refl, (refl, (refl, (refl, (refl, (refl, (refl, tt)))))))))

about_nc : NcName (codes "about")
unfolding is_name
about_nc = (refl, (refl, (refl, (refl, (refl, tt)))))

-- rows whose nodes are no qualifiers
abbrev Parts : Row → Type 0
Parts Fields = Unit {0}
Parts Items = Unit {0}
Parts Qualifiers = ⊥

parts_of : (f : Form) → Parts (row_of f)
parts_of TextForm = tt
parts_of Uri = tt
parts_of Structure = tt
parts_of Bag = tt
parts_of Sequence = tt
parts_of Alternative = tt

module _ (us : List Text) (s : Spaces us) (sc : Scope) (rich : Rich us sc) where
  abbrev Kn : Text → Type 0
  Kn n = Known sc n

  abbrev covers : Nodes → Type 0
  covers ns = (u : Text) → Used u ns → u ≢ xml_uri → Among u us

  -- names of elements
  lawful_known : (n : Name) → LawfulName n → Among n.uri us → Kn (element_name us (named n))
  lawful_known n l m =
      known_name sc (prefix us n.uri) n.local n.uri (prefix_nc us n.uri s.few m) (local_nc n.local l.local) (foreign us n.uri m).not_xmlns (rich.own n.uri m)

  abbrev covers_label : Label → Type 0
  covers_label l = (u : Text) → UsedBy u l → u ≢ xml_uri → Among u us

  part_known : (k : Row) (l : Label) → Parts k → LawfulLabel k l → covers_label l → Kn (element_name us l)
  part_known Fields (named n) z h f = lawful_known n h.0 (f n.uri refl h.0.namespace.not_xml)
  part_known Fields item z h f = absurd h
  part_known Items (named n) z h f = absurd h
  part_known Items item z h f = rdf_known us sc rich (codes "li") li_nc
  part_known Qualifiers l z h f = absurd z

  qualifier_known : (l : Label) → LawfulLabel Qualifiers l → is_lang_label l ≡ false → covers_label l → Kn (element_name us l)
  qualifier_known (named n) h e f =
      ⊎_elim (λ i. absurd (both_ways (same_name n lang_name) e ((same_name-decides n lang_name).1 i))) (λ p. lawful_known n p (f n.uri refl p.namespace.not_xml)) h.0
  qualifier_known item h e f = absurd h

  -- xml:lang, and a value by its form
  is_lang : (q : Nodes) → IsLang us sc rich (language q)
  is_lang none = no_lang
  is_lang (more h q p r) = cond_both (is_lang_label h.label) _ _ (IsLang us sc rich) (λ _. one_lang h.value) (λ _. is_lang r)

  is_rdf : (f : Form) (x : Text) → IsRdf us sc rich (form_attributes f x)
  is_rdf TextForm x = no_rdf
  is_rdf Uri x = one_rdf (codes "resource") x resource_nc
  is_rdf Structure x = one_rdf (codes "parseType") (codes "Resource") kind_nc
  is_rdf Bag x = no_rdf
  is_rdf Sequence x = no_rdf
  is_rdf Alternative x = no_rdf

  textual_good : (x : Text) → Good sc (textual x)
  textual_good [] = tt
  textual_good (c ∷ x) = (λ e. cc, tt, tt)

  around : (l : Text) → NcName l → (m : Markup) → Good sc m → Good sc (element (codes "rdf:" ++ l) [] m nothing)
  around l h m g = good_element us sc rich (codes "rdf:" ++ l) [] m nothing (tag us sc rich (codes "rdf:" ++ l) [] [] (rdf_known us sc rich l h) no_lang no_rdf) g tt

  content_good : (f : Form) (x : Text) (m : Markup) → Good sc m → Good sc (form_content f x m)
  content_good TextForm x m g = textual_good x
  content_good Uri x m g = tt
  content_good Structure x m g = g
  content_good Bag x m g = around (codes "Bag") bag_nc m g
  content_good Sequence x m g = around (codes "Seq") seq_nc m g
  content_good Alternative x m g = around (codes "Alt") alt_nc m g

  tagged_good : (b : Bool) (n : Text) (ls rs : List Attribute) (c qs r : Markup) → Kn n → IsLang us sc rich ls → IsRdf us sc rich rs → Good sc c → Good sc qs → Good sc r → Good sc (tagged b n ls rs c qs r)
  tagged_good false n ls rs c qs r k i j g h w = good_element us sc rich n (ls ++ rs) c r (tag us sc rich n ls rs k i j) g w
  tagged_good true n ls rs c qs r k i j g h w =
      good_element us sc rich n (ls ++ (as_resource ∷ [])) (element (codes "rdf:value") rs c qs) r (tag us sc rich n ls (as_resource ∷ []) k i (one_rdf (codes "parseType") (codes "Resource") kind_nc))
      (good_element us sc rich (codes "rdf:value") rs c qs (tag us sc rich (codes "rdf:value") [] rs (rdf_known us sc rich (codes "value") value_nc) no_lang j) g h) w

  -- qualifiers but xml:lang
  others_good : (q : Nodes) → LawfulNodes Qualifiers q → covers q → Good sc (others us q)
  unfolding others
  others_good none l f = tt
  others_good (more h q p r) l f =
      let w = others_good r l.3 (λ u x. f u (inr (inr (inr x)))) in
      cond_both (is_lang_label h.label) (others us r) (element (element_name us h.label) (form_attributes h.form h.value) (form_content h.form h.value (elements us p)) (others us r)) (Good sc) (λ _. w)
      (λ e. good_element us sc rich (element_name us h.label) (form_attributes h.form h.value) (form_content h.form h.value (elements us p)) (others us r)
      (tag us sc rich (element_name us h.label) [] (form_attributes h.form h.value) (qualifier_known h.label l.0.label e (λ u x. f u (inl x))) no_lang (is_rdf h.form h.value))
      (subst (Good sc) (sym (simple_content h.form h.value (elements us p) l.0.kind.simple)) (content_good h.form h.value nothing tt)) w)

  -- properties, fields and items
  pub elements_good : (k : Row) (ns : Nodes) → Parts k → LawfulNodes k ns → covers ns → Good sc (elements us ns)
  unfolding elements
  elements_good k none z l f = tt
  elements_good k (more h q p r) z l f =
      tagged_good (has_others q) (element_name us h.label) (language q) (form_attributes h.form h.value) (form_content h.form h.value (elements us p)) (others us q) (elements us r)
      (part_known k h.label z l.0.label (λ u x. f u (inl x)))
      (is_lang q)
      (is_rdf h.form h.value)
      (content_good h.form h.value (elements us p) (elements_good (row_of h.form) p (parts_of h.form) l.2 (λ u x. f u (inr (inr (inl x))))))
      (others_good q l.1 (λ u x. f u (inr (inl x))))
      (elements_good k r z l.3 (λ u x. f u (inr (inr (inr x)))))

-- the namespaces of a lawful tree
spaces : (t : Tree) → Lawful t → Spaces (namespaces t.properties)
spaces t l =
    record {
      order = namespaces_ascending t.properties;
      few = l.limits.namespaces;
      free = λ w m. let o = namespaces_only t.properties w m in used_free w Fields t.properties l.properties o.0 o.1;
    }

-- rdf:RDF, which declares them
root_nc : NcName (codes "RDF")
unfolding is_name
root_nc = (refl, (refl, (refl, tt)))

module _ (us : List Text) (s : Spaces us) where
  abbrev inside : Scope
  inside = bindings_of us ++ base

  abbrev root_attributes : List Attribute
  root_attributes = declaring (bindings_of us)

  inside_bound : in_force (attrs_of root_attributes) base ≡ inside
  inside_bound = declaring-bound (bindings_of us) base (bindings_fair us s)

  root_fine : FineTag base (codes "rdf:RDF") root_attributes
  root_fine =
      let rich = bindings_rich us s in
      let k = rdf_known us inside rich (codes "RDF") root_nc in
      let x = declaring-expands (bindings_of us) (in_force (attrs_of root_attributes) base) (bindings_fair us s) in
      record {
        name = k.name;
        names = declaring-named (bindings_of us) (bindings_fair us s);
        means = k.means;
        known = ap (λ z. expanded z (name_of (codes "rdf:RDF"))) inside_bound ∙ k.known;
        not_xmlns = k.not_xmlns;
        once = declaring-once (bindings_of us) (bindings_fair us s) (bindings_single us s);
        apart = λ r. subst (λ ns. Repeats (expanded_names ns)) x r;
        known_all = λ m. subst (Member None) x m;
        declared = declaring-fair (bindings_of us) (bindings_fair us s);
        few = omega (arith, declaring-length (bindings_of us), own_length us us, s.few);
        bound = subst (λ z. length (prefixes z) ≤ 32) (sym inside_bound) rich.few;
      }

  root_good : (m : Markup) → Good inside m → Good base (element (codes "rdf:RDF") root_attributes m nothing)
  root_good m g = (root_fine, subst (λ z. Good z m) (sym inside_bound) g, tt)

description_nc : NcName (codes "Description")
unfolding is_name
description_nc = (refl, (refl, (refl, (refl, (refl, (refl, (refl, (refl, (refl, (refl, (refl, tt)))))))))))

-- the theorem
pub good_document : (t : Tree) → Lawful t → Good base (document t)
unfolding document
good_document t l =
    let us = namespaces t.properties in
    let s = spaces t l in
    let rich = bindings_rich us s in
    let sc : Scope = bindings_of us ++ base in
    let about : Attribute = of_rdf (codes "about") t.about in
    let d : Good sc (element (codes "rdf:Description") (about ∷ []) (elements us t.properties) nothing) =
    good_element us sc rich (codes "rdf:Description") (about ∷ []) (elements us t.properties) nothing
    (tag us sc rich (codes "rdf:Description") [] (about ∷ []) (rdf_known us sc rich (codes "Description") description_nc) no_lang (one_rdf (codes "about") t.about about_nc))
    (elements_good us s sc rich Fields t.properties tt l.properties (namespaces_all t.properties)) tt in
    subst (λ ds. Good base (element (codes "rdf:RDF") (record { name = codes "xmlns:rdf"; value = rdf_uri } ∷ ds) (element (codes "rdf:Description") (about ∷ []) (elements us t.properties) nothing) nothing))
    (sym (declared_own us s.order)) (root_good us s (element (codes "rdf:Description") (about ∷ []) (elements us t.properties) nothing) d)
