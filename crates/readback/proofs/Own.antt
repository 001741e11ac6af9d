-- The namespaces of a lawful tree, each bound to its prefix.
use Rattle.std.proofs.Common.{◌≡◌, ℕ, suc, ◌≤◌, ◌≢◌, List, [], ◌∷◌, ◌++◌, length, Some, codes, sym, refl, ap, ◌∙◌, subst, ap₂, inl, inr, ⊎_elim, arith}
use Rattle.std.specs.List.{AllByRecursion}
use Rattle.characters.specs.Classes.{is_name}
use Rattle.names.specs.Order.{Text, Name, same, Ascending, Before}
use Rattle.names.specs.Reserved.{rdf_uri, xml_uri, xmlns_uri, lang_name}
use Rattle.names.proofs.Deciding.{same_refl, same_false}
use Rattle.names.proofs.Ordering.{before-irreflexive}
use Rattle.tree.specs.Names.{FreeNamespace}
use Rattle.tree.specs.Tree.{Label, named, item, Nodes, none, more}
use Rattle.tree.specs.Lawful.{Row, Fields, Items, Qualifiers, LawfulLabel, LawfulNodes}
use Rattle.tree.specs.Rules.{Among, UsedBy, Used}
use Rattle.tree.proofs.Gathering.{ascending_first}
use Rattle.xml.specs.Namespaces.{Member, Scope, base, bound, prefixes}
use Rattle.canonical.specs.Prefixes.{prefix_as, number_after, prefix_from, prefix, declared_from}
use Rattle.canonical.proofs.Numbered.{distinct, foreign}
use Rattle.readback.proofs.Locals.{prefix_nc}
use Rattle.readback.proofs.Declared.{declaring, Fair, Single, prefixes_few, unlike, bound_member, bound_behind}

-- the namespaces that names use are free, xml aside
label_free : (w : Text) (k : Row) (l : Label) → LawfulLabel k l → UsedBy w l → w ≢ xml_uri → FreeNamespace w
unfolding lang_name
label_free w Fields (named n) h u x = subst FreeNamespace (sym u) h.0.namespace
label_free w Fields item h u x = absurd h
label_free w Items (named n) h u x = absurd h
label_free w Items item h u x = absurd u
label_free w Qualifiers (named n) h u x =
    ⊎_elim (λ e. absurd (x (u ∙ ap (λ (m : Name). m.uri) e))) (λ p. subst FreeNamespace (sym u) p.namespace) h.0
label_free w Qualifiers item h u x = absurd h

pub used_free : (w : Text) (k : Row) (ns : Nodes) → LawfulNodes k ns → Used w ns → w ≢ xml_uri → FreeNamespace w
used_free w k none l u x = absurd u
used_free w k (more h q p r) l (inl u) x = label_free w k h.label l.0.label u x
used_free w k (more h q p r) l (inr (inl u)) x = used_free w Qualifiers q l.1 u x
used_free w k (more h q p r) l (inr (inr (inl u))) x = used_free w _ p l.2 u x
used_free w k (more h q p r) l (inr (inr (inr u))) x = used_free w k r l.3 u x

-- the namespaces vs with their prefixes among us
abbrev pub own : List Text → List Text → Scope
own us [] = []
own us (v ∷ vs) = (prefix us v, v) ∷ own us vs

-- numbered from k on, those further on have the prefixes that they have among all
abbrev Numbered : List Text → ℕ → List Text → Type 0
Numbered us k vs = (w : Text) → Among w vs → Among w us × (prefix_from k vs w ≡ prefix us w)

first_prefix : (k : ℕ) (v : Text) (vs : List Text) → prefix_from k (v ∷ vs) v ≡ prefix_as k v
first_prefix k v vs = rw (same_refl v) refl

-- a text further on is another
other : (v : Text) (vs : List Text) → Ascending (v ∷ vs) → (w : Text) → Among w vs → w ≢ v
other v vs a w m e = before-irreflexive v (subst (Before v) e (ascending_first v vs a w m))

numbered_next : (us : List Text) (k : ℕ) (v : Text) (vs : List Text) → Ascending (v ∷ vs) → Numbered us k (v ∷ vs) → Numbered us (number_after k v) vs
numbered_next us k v vs a h w m = ((h w (inr m)).0, sym later ∙ (h w (inr m)).1)
  where
    later : prefix_from k (v ∷ vs) w ≡ prefix_from (number_after k v) vs w
    later = rw (unlike w v (other v vs a w m)) refl

declared_numbered : (us : List Text) (k : ℕ) (vs : List Text) → Ascending vs → Numbered us k vs → declared_from k vs ≡ declaring (own us vs)
declared_numbered us k [] a h = refl
declared_numbered us k (v ∷ vs) a h =
    ap₂ (λ p ds. record { name = codes "xmlns:" ++ p; value = v } ∷ ds) (sym (first_prefix k v vs) ∙ (h v (inl refl)).1)
    (declared_numbered us (number_after k v) vs a.1 (numbered_next us k v vs a h))

pub declared_own : (us : List Text) → Ascending us → declared_from 1 us ≡ declaring (own us us)
unfolding prefix
declared_own us a = declared_numbered us 1 us a (λ w m. (m, refl))

pub own_length : (us vs : List Text) → length (own us vs) ≡ length vs
own_length us [] = refl
own_length us (v ∷ vs) = ap suc (own_length us vs)

own_member : (us vs : List Text) (u : Text) → Among u vs → Member (prefix us u, u) (own us vs)
own_member us [] u m = absurd m
own_member us (v ∷ vs) u (inl e) = inl (ap (λ w. (prefix us w, w)) e)
own_member us (v ∷ vs) u (inr m) = inr (own_member us vs u m)

-- what is so of the prefix of each is so of all bindings
own_all : (P : Text × Text → Type 0) (us vs : List Text) → ((w : Text) → Among w vs → P (prefix us w, w)) → AllByRecursion P (own us vs)
own_all P us [] f = tt
own_all P us (v ∷ vs) f = (f v (inl refl), own_all P us vs (λ w m. f w (inr m)))

own_single : (us vs : List Text) → Ascending vs → ((w : Text) → Among w vs → Among w us) → Single (own us vs)
own_single us [] a f = tt
own_single us (v ∷ vs) a f = (
  own_all (λ y. y.0 ≢ prefix us v) us vs (λ w m e. other v vs a w m (distinct us w v (f w (inr m)) (f v (inl refl)) e)),
  own_single us vs a.1 (λ w m. f w (inr m)),
)

-- What is bound inside rdf:RDF.
abbrev pub bindings_of : List Text → Scope
bindings_of us = (codes "rdf", rdf_uri) ∷ own us us

pub record Spaces (us : List Text) : Type 0 where
  pub order : Ascending us
  pub few : length us ≤ 24
  pub free : (w : Text) → Among w us → FreeNamespace w

rdf_fair : Fair (codes "rdf", rdf_uri)
unfolding same is_name rdf_uri xml_uri xmlns_uri
rdf_fair =
    record {
      proper = (refl, (refl, (refl, tt)));
      not_xml = same_false (codes "rdf") (codes "xml") refl;
      not_xmlns = same_false (codes "rdf") (codes "xmlns") refl;
      some = same_false rdf_uri [] refl;
      other = same_false rdf_uri xml_uri refl;
      apart = same_false rdf_uri xmlns_uri refl;
    }

own_fair : (us : List Text) → Spaces us → (w : Text) → Among w us → Fair (prefix us w, w)
own_fair us s w m =
    let f = foreign us w m in
    let g = s.free w m in
    record { proper = prefix_nc us w s.few m; not_xml = f.not_xml; not_xmlns = f.not_xmlns; some = g.some; other = g.not_xml; apart = g.not_xmlns }

pub bindings_fair : (us : List Text) → Spaces us → AllByRecursion Fair (bindings_of us)
bindings_fair us s = (rdf_fair, own_all Fair us us (own_fair us s))

pub bindings_single : (us : List Text) → Spaces us → Single (bindings_of us)
bindings_single us s = (own_all _ us us (λ w m. (foreign us w m).not_rdf), own_single us us s.order (λ w m. m))

-- each prefix means what it should
pub record Rich (us : List Text) (sc : Scope) : Type 0 where
  pub rdf : bound sc (codes "rdf") ≡ Some rdf_uri
  pub xml : bound sc (codes "xml") ≡ Some xml_uri
  pub own : (u : Text) → Among u us → bound sc (prefix us u) ≡ Some u
  pub few : length (prefixes sc) ≤ 32

base_xml : bound base (codes "xml") ≡ Some xml_uri
unfolding same
base_xml = refl

pub bindings_rich : (us : List Text) → Spaces us → Rich us (bindings_of us ++ base)
bindings_rich us s =
    record {
      rdf = bound_member (bindings_of us) base (codes "rdf") rdf_uri (bindings_single us s) (inl refl);
      xml = bound_behind (bindings_of us) base (codes "xml") (rdf_fair.not_xml, own_all _ us us (λ w m. (foreign us w m).not_xml)) ∙ base_xml;
      own = λ u m. bound_member (bindings_of us) base (prefix us u) u (bindings_single us s) (inr (own_member us us u m));
      few = omega (arith, prefixes_few (bindings_of us), own_length us us, s.few);
    }
