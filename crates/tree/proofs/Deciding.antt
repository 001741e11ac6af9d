-- Each test of the rules answers whether its rule is kept.
use Rattle.std.proofs.Common.{◌≡◌, ℕ, ◌+◌, ◌≤◌, true, false, not, leb, [], ◌∷◌, length, Decides, refl}
use Rattle.std.proofs.lemmas.Bool.{leb-true, le-leb, false≢true}
use Rattle.std.proofs.lemmas.Bool.Decides.{Decides-and, Decides-or, Decides-not, Decides-like}
use Rattle.std.proofs.ByRecursion.{Decides-by_and}
use Rattle.characters.specs.Classes.{is_local, is_tag}
use Rattle.names.specs.Order.{Text, same, Name, same_name}
use Rattle.tree.specs.Names.{LocalName, LanguageTag, FreeNamespace, LawfulName, QualifierName}
use Rattle.names.specs.Reserved.{rdf_uri, xml_uri, xmlns_uri, lang_name}
use Rattle.tree.specs.Names.{all_local, is_local_name, all_tag, is_language_tag, is_free_namespace, is_lawful_name, is_qualifier_name}
use Rattle.names.proofs.Deciding.{each-decides, same-decides, same_name-decides}
use Rattle.tree.specs.Tree.{Label, named, item, Nodes, none, more, Tree}
use Rattle.tree.specs.Lawful.{levels, count, size, namespaces, longest_at, ShortLabel, Short, Within, is_short_label, is_short, is_within}

pub local_name_decides : (t : Text) → Decides (is_local_name t) (LocalName t)
unfolding is_local_name all_local
local_name_decides [] = (λ e. absurd (false≢true e), λ h. absurd h)
local_name_decides (c ∷ t) =
    Decides-and (is_local true c) (all_local t) (each-decides (is_local true c))
    (Decides-by_and (is_local false) (λ d. is_local false d ≡ true) all_local (λ d. each-decides (is_local false d)) refl (λ _ _. refl) t)

pub language-tag_decides : (t : Text) → Decides (is_language_tag t) (LanguageTag t)
unfolding is_language_tag all_tag
language-tag_decides [] = (λ e. absurd (false≢true e), λ h. absurd h)
language-tag_decides (c ∷ t) =
    Decides-and (is_tag c) (all_tag t) (each-decides (is_tag c))
    (Decides-by_and is_tag (λ d. is_tag d ≡ true) all_tag (λ d. each-decides (is_tag d)) refl (λ _ _. refl) t)

-- lawful names
other_decides : (s t : Text) → Decides (not (same s t)) (s ≡ t → ⊥)
other_decides s t = Decides-not (same s t) (same-decides s t)

pub free_namespace_decides : (u : Text) → Decides (is_free_namespace u) (FreeNamespace u)
unfolding is_free_namespace
free_namespace_decides u =
    Decides-like (is_free_namespace u)
    (λ p. record { some = p.0; not_rdf = p.1.0; not_xml = p.1.1.0; not_xmlns = p.1.1.1 })
    (λ f. (f.some, (f.not_rdf, (f.not_xml, f.not_xmlns))))
    (Decides-and _ _ (other_decides u []) (Decides-and _ _ (other_decides u rdf_uri) (Decides-and _ _ (other_decides u xml_uri) (other_decides u xmlns_uri))))

pub lawful_name_decides : (n : Name) → Decides (is_lawful_name n) (LawfulName n)
unfolding is_lawful_name
lawful_name_decides n =
    Decides-like (is_lawful_name n) (λ p. record { namespace = p.0; local = p.1 }) (λ l. (l.namespace, l.local))
    (Decides-and _ _ (free_namespace_decides n.uri) (local_name_decides n.local))

pub qualifier_name_decides : (n : Name) → Decides (is_qualifier_name n) (QualifierName n)
unfolding is_qualifier_name
qualifier_name_decides n = Decides-or (same_name n lang_name) (is_lawful_name n) (same_name-decides n lang_name) (lawful_name_decides n)

-- the limits
leb_decides : (a b : ℕ) → Decides (leb a b) (a ≤ b)
leb_decides a b = (leb-true a b, le-leb a b)

short_label_decides : (l : Label) → Decides (is_short_label l) (ShortLabel l)
short_label_decides (named n) = Decides-and _ _ (leb_decides (length n.uri) 128) (leb_decides (length n.local) 64)
short_label_decides item = (λ _. tt, λ _. refl)

pub short_decides : (ns : Nodes) → Decides (is_short ns) (Short ns)
short_decides none = (λ _. tt, λ _. refl)
short_decides (more h q p r) =
    Decides-like (is_short (more h q p r)) (λ s. (s.0, s.1.0, s.1.1.0, s.1.1.1.0, s.1.1.1.1)) (λ s. (s.0, (s.1, (s.2, (s.3, s.4)))))
    (Decides-and _ _ (short_label_decides h.label)
    (Decides-and _ _ (leb_decides (length h.value) (longest_at h.label h.form))
    (Decides-and _ _ (short_decides q) (Decides-and _ _ (short_decides p) (short_decides r)))))

pub within-decides : (t : Tree) → Decides (is_within t) (Within t)
unfolding is_within
within-decides t =
    Decides-like (is_within t)
    (λ w. record { levels = w.0; nodes = w.1.0; namespaces = w.1.1.0; about = w.1.1.1.0; short = w.1.1.1.1.0; together = w.1.1.1.1.1 })
    (λ w. (w.levels, (w.nodes, (w.namespaces, (w.about, (w.short, w.together))))))
    (Decides-and _ _ (leb_decides (levels t.properties) 8)
    (Decides-and _ _ (leb_decides (count t.properties) 512)
    (Decides-and _ _ (leb_decides (length (namespaces t.properties)) 24)
    (Decides-and _ _ (leb_decides (length t.about) 1024)
    (Decides-and _ _ (short_decides t.properties) (leb_decides (length t.about + size t.properties) 16384))))))
