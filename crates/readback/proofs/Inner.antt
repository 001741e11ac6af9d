-- The tags inside rdf:RDF: they declare nothing, and have xml:lang, an attribute of rdf, both or none.
use Rattle.std.proofs.Common.{◌≡◌, ◌≤◌, ◌≢◌, List, [], ◌∷◌, ◌++◌, length, Some, None, codes, Option, sym, refl, ap, ◌∙◌, subst, inl, inr, arith}
use Rattle.std.specs.List.{AllByRecursion}
use Rattle.characters.specs.Classes.{is_name}
use Rattle.names.specs.Order.{Text, Name, same}
use Rattle.names.specs.Reserved.{rdf_uri, xml_uri}
use Rattle.names.proofs.Never.{never}
use Rattle.names.proofs.Deciding.{same_false}
use Rattle.items.specs.Tokens.{prefixed, NcName, IsQName}
use Rattle.markup.specs.Elements.{Attribute, Markup, element}
use Rattle.xml.specs.Namespaces.{Member, Repeats, Scope, bound, declares, in_force, within, element_name, attribute_name, expansions, expanded_names, WronglyBinds, SomeWrong, prefixes}
use Rattle.xml.specs.Rules.{names_of, HasXmlnsPrefix}
use Rattle.readback.specs.Meaning.{name_of}
use Rattle.readback.proofs.Named.{Named, named, name-of}
use Rattle.readback.proofs.Tags.{attrs_of}
use Rattle.readback.proofs.Good.{FineTag, Good}
use Rattle.readback.proofs.Own.{Rich}

-- an element's name with a meaning
pub record Known (sc : Scope) (n : Text) : Type 0 where
  pub name : Named n
  pub means : Name
  pub known : element_name sc (name_of n) ≡ Some means
  pub not_xmlns : HasXmlnsPrefix (name_of n) → ⊥

pub known_name : (sc : Scope) (p l u : Text) → NcName p → NcName l → p ≢ codes "xmlns" → bound sc p ≡ Some u → Known sc (p ++ (58 ∷ l))
known_name sc p l u h k x e =
    let r = name-of (prefixed p l) (h, k) in
    record {
      name = named (prefixed p l) (h, k);
      means = record { uri = u; local = l };
      known = ap (element_name sc) r ∙ ap (within l) e;
      not_xmlns = λ z. x (subst HasXmlnsPrefix r z);
    }

-- an attribute that declares nothing and has a meaning
record Meant (sc : Scope) (a : Attribute) : Type 0 where
  name : Named a.name
  undeclared : declares (name_of a.name) ≡ None
  means : Name
  known : attribute_name sc (name_of a.name) ≡ Some means

abbrev lang : Text → Attribute
lang v = record { name = codes "xml:lang"; value = v }

abbrev pub of_rdf : Text → Text → Attribute
of_rdf l v = record { name = codes "rdf:" ++ l; value = v }

rdf_nc : NcName (codes "rdf")
unfolding is_name
rdf_nc = (refl, (refl, (refl, tt)))

rdf_not_xmlns : codes "rdf" ≢ codes "xmlns"
unfolding same
rdf_not_xmlns = same_false (codes "rdf") (codes "xmlns") refl

lang_proper : IsQName (prefixed (codes "xml") (codes "lang"))
unfolding is_name
lang_proper = ((refl, (refl, (refl, tt))), (refl, (refl, (refl, (refl, tt)))))

module _ (us : List Text) (sc : Scope) (rich : Rich us sc) where
  lang_meant : (v : Text) → Meant sc (lang v)
  unfolding same
  lang_meant v =
      let r = name-of (prefixed (codes "xml") (codes "lang")) lang_proper in
      record {
        name = named (prefixed (codes "xml") (codes "lang")) lang_proper;
        undeclared = ap declares r;
        means = record { uri = xml_uri; local = codes "lang" };
        known = ap (attribute_name sc) r ∙ ap (within (codes "lang")) rich.xml;
      }

  rdf_meant : (l v : Text) → NcName l → Meant sc (of_rdf l v)
  unfolding same
  rdf_meant l v h =
      let r = name-of (prefixed (codes "rdf") l) (rdf_nc, h) in
      record {
        name = named (prefixed (codes "rdf") l) (rdf_nc, h);
        undeclared = ap declares r;
        means = record { uri = rdf_uri; local = l };
        known = ap (attribute_name sc) r ∙ ap (within l) rich.rdf;
      }

  pub rdf_known : (l : Text) → NcName l → Known sc (codes "rdf:" ++ l)
  rdf_known l h = known_name sc (codes "rdf") l rdf_uri rdf_nc h rdf_not_xmlns rich.rdf

  -- a tag that is fine, and inside which nothing else is bound
  abbrev pub Tag : Text → List Attribute → Type 0
  Tag n as' = FineTag sc n as' × (in_force (attrs_of as') sc ≡ sc)

  abbrev somes : List Name → List (Option Name)
  somes [] = []
  somes (m ∷ ms) = Some m ∷ somes ms

  expanded_somes : (ms : List Name) → expanded_names (somes ms) ≡ ms
  expanded_somes [] = refl
  expanded_somes (m ∷ ms) = ap (λ ns. m ∷ ns) (expanded_somes ms)

  none_somes : (ms : List Name) → Member None (somes ms) → ⊥
  none_somes [] h = h
  none_somes (m ∷ ms) (inl e) = never cc
  none_somes (m ∷ ms) (inr h) = none_somes ms h

  fine : (n : Text) (as' : List Attribute) (ms : List Name) → Known sc n → AllByRecursion (λ a. Named a.name) as' → in_force (attrs_of as') sc ≡ sc → expansions sc (attrs_of as') ≡ somes ms
      → (Repeats (names_of (attrs_of as')) → ⊥) → (Repeats ms → ⊥) → (SomeWrong (attrs_of as') → ⊥) → length (attrs_of as') ≤ 32 → Tag n as'
  fine n as' ms k h e x once apart right few =
      let y : expansions (in_force (attrs_of as') sc) (attrs_of as') ≡ somes ms = ap (λ s. expansions s (attrs_of as')) e ∙ x in (
        record {
          name = k.name;
          names = h;
          means = k.means;
          known = ap (λ s. element_name s (name_of n)) e ∙ k.known;
          not_xmlns = k.not_xmlns;
          once = once;
          apart = λ r. apart (subst Repeats (ap expanded_names y ∙ expanded_somes ms) r);
          known_all = λ m. none_somes ms (subst (Member None) y m);
          declared = right;
          few = few;
          bound = subst (λ s. length (prefixes s) ≤ 32) (sym e) rich.few;
        },
        e,
      )

  -- no attribute, one, two
  pub tag_none : (n : Text) → Known sc n → Tag n []
  tag_none n k = fine n [] [] k tt refl refl (λ h. h) (λ h. h) (λ h. h) (omega arith)

  right_one : (a : Attribute) → Meant sc a → (v : Text) → WronglyBinds (declares (name_of a.name)) v → ⊥
  right_one a m v w = subst (λ o. WronglyBinds o v) m.undeclared w

  tag_one : (n : Text) (a : Attribute) → Known sc n → Meant sc a → Tag n (a ∷ [])
  tag_one n a k m =
      fine n (a ∷ []) (m.means ∷ []) k (m.name, tt) (rw m.undeclared refl) (rw (m.undeclared, m.known) refl)
      (λ h. elim h [ inl x ↦ x | inr x ↦ x ]) (λ h. elim h [ inl x ↦ x | inr x ↦ x ]) (λ h. elim h [ inl x ↦ right_one a m _ x | inr x ↦ x ]) (omega arith)

  tag_two : (n : Text) (a b : Attribute) → Known sc n → (m : Meant sc a) (o : Meant sc b) → a.name ≢ b.name → m.means ≢ o.means → Tag n (a ∷ b ∷ [])
  tag_two n a b k m o d e =
      fine n (a ∷ b ∷ []) (m.means ∷ o.means ∷ []) k (m.name, (o.name, tt)) (rw (m.undeclared, o.undeclared) refl) (rw (m.undeclared, o.undeclared, m.known, o.known) refl)
      (λ h. elim h [ inl x ↦ elim x [ inl y ↦ d (sym m.name.same ∙ y ∙ o.name.same) | inr y ↦ y ] | inr x ↦ elim x [ inl y ↦ y | inr y ↦ y ] ])
      (λ h. elim h [ inl x ↦ elim x [ inl y ↦ e y | inr y ↦ y ] | inr x ↦ elim x [ inl y ↦ y | inr y ↦ y ] ])
      (λ h. elim h [ inl x ↦ right_one a m _ x | inr x ↦ elim x [ inl y ↦ right_one b o _ y | inr y ↦ y ] ])
      (omega arith)

  -- xml:lang or none, and an attribute of rdf or none
  pub data IsLang : List Attribute → Type 0 where
    no_lang : IsLang []
    one_lang : (v : Text) → IsLang (lang v ∷ [])

  pub data IsRdf : List Attribute → Type 0 where
    no_rdf : IsRdf []
    one_rdf : (l v : Text) → NcName l → IsRdf (of_rdf l v ∷ [])

  apart_names : (l : Text) → codes "xml:lang" ≢ codes "rdf:" ++ l
  unfolding same
  apart_names l = same_false (codes "xml:lang") (codes "rdf:" ++ l) refl

  apart_means : (l : Text) → ◌≢◌ {A = Name} (record { uri = xml_uri; local = codes "lang" }) (record { uri = rdf_uri; local = l })
  unfolding same rdf_uri xml_uri
  apart_means l e = same_false xml_uri rdf_uri refl (ap (λ (n : Name). n.uri) e)

  pub tag : (n : Text) (ls rs : List Attribute) → Known sc n → IsLang ls → IsRdf rs → Tag n (ls ++ rs)
  unfolding lang_meant rdf_meant
  tag n ls rs k no_lang no_rdf = tag_none n k
  tag n ls rs k no_lang (one_rdf l v h) = tag_one n (of_rdf l v) k (rdf_meant l v h)
  tag n ls rs k (one_lang w) no_rdf = tag_one n (lang w) k (lang_meant w)
  tag n ls rs k (one_lang w) (one_rdf l v h) = tag_two n (lang w) (of_rdf l v) k (lang_meant w) (rdf_meant l v h) (apart_names l) (apart_means l)

  -- an element with such a tag
  pub good_element : (n : Text) (as' : List Attribute) (c r : Markup) → Tag n as' → Good sc c → Good sc r → Good sc (element n as' c r)
  good_element n as' c r t h k = (t.0, subst (λ s. Good s c) (sym t.1) h, k)
