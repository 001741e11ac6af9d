-- After an accepted set or make the tree is lawful, and the node stands where the path leads.
use Rattle.std.proofs.Common.{◌≡◌, Bool, true, false, not, ◌&&◌, [], ◌∷◌, Some, None, Ok, Option, sym, refl, ap, ◌∙◌, subst, ap₂, ⊎_elim}
use Rattle.std.proofs.lemmas.Bool.{true≢false, not-false, and_cases}
use Rattle.tree.specs.declared.form.Form.TheVariants.{Text as TextForm}
use Rattle.names.specs.Order.{same_name}
use Rattle.names.specs.Reserved.{lang_name}
use Rattle.tree.specs.Names.{LanguageTag, is_language_tag, is_lawful_name, is_qualifier_name}
use Rattle.names.specs.Xml.{all_xml}
use Rattle.tree.specs.Tree.{Label, Nodes, none, Node, Tree, is_simple}
use Rattle.tree.specs.Lawful.{Row, Fields, Items, Qualifiers, row_of, LawfulLabel, LawfulAs, LawfulNodes, Lawful, Within, is_within}
use Rattle.tree.specs.Paths.{Step, name, number, qualifier, Path, is_qualifier, walk, top, lookup, with_at}
use Rattle.tree.specs.Calls.{Value, text, uri, form_of, characters_of, Holder, holder_form, ending, label_at, node, given, answered}
use Rattle.tree.specs.Calls.{is_lang, is_uri, is_unlawful_step, is_forbidden_step, is_new, is_holder, upon, judged, set_refusals, set, make}
use Rattle.tree.specs.Edits.{AfterSet, AfterMake, qualifiers_of, qualifiers_at}
use Rattle.names.proofs.Never.{never}
use Rattle.names.proofs.Deciding.{same_name-decides, xml_decides}
use Rattle.tree.proofs.Deciding.{language-tag_decides, lawful_name_decides, qualifier_name_decides, within-decides}
use Rattle.tree.proofs.Steps.{Labels}
use Rattle.tree.proofs.Walking.{walk-leads, leads_standing}
use Rattle.tree.proofs.Rows.{LawfulOne}
use Rattle.tree.proofs.Keeping.{row_at, holds_any, holding-row, target_lawful, top-lawful}
use Rattle.tree.proofs.Judging.{judged-on, judged-end, upon-on, lookup-on}
use Rattle.tree.proofs.Calling.{leads_label, new_label, Accepted, put_lawful, put_standing, put_answer, put_others}

-- of two tests that do not both pass, the second fails where the first passes
second : (a b : Bool) → (a && b) ≡ false → a ≡ true → b ≡ false
second a b e t = ⊎_elim (λ f. absurd (true≢false (sym t ∙ f))) (λ f. f) (and_cases a b e)

-- the label of a new node
pub label_lawful : (s : Step) → is_unlawful_step s ≡ false → is_forbidden_step s ≡ false → LawfulLabel (row_at s) (label_at s)
label_lawful (name n) a b = ((lawful_name_decides n).0 (not-false (is_lawful_name n) a), (xml_decides n.uri).0 (not-false (all_xml n.uri) b))
label_lawful (number k) a b = tt
label_lawful (qualifier n) a b =
    ((qualifier_name_decides n).0 (not-false (is_qualifier_name n) a), (xml_decides n.uri).0 (not-false (all_xml n.uri) b))

-- a value is simple
value-simple : (x : Value) → is_simple (form_of x) ≡ true
value-simple (text x) = refl
value-simple (uri x) = refl

text_form : (x : Value) → is_uri x ≡ false → form_of x ≡ TextForm
text_form (text x) e = refl
text_form (uri x) e = absurd (true≢false e)

-- what the refusals of set leave to be true
record Settable (e : Step) (x : Value) (o : Option Node) : Type 0 where
  holder : is_holder o ≡ false
  lang_form : (is_lang e && is_uri x) ≡ false
  name : (is_new o && is_unlawful_step e) ≡ false
  lang_tag : (is_lang e && not (is_language_tag (characters_of x))) ≡ false
  namespace : (is_new o && is_forbidden_step e) ≡ false
  characters : not (all_xml (characters_of x)) ≡ false

-- the rules of a qualifier, with its new value
as_put : (e : Step) (x : Value) (l : Label) (q : Nodes) → Labels e l → (is_lang e && is_uri x) ≡ false
    → (is_lang e && not (is_language_tag (characters_of x))) ≡ false → (row_at e ≡ Qualifiers → q ≡ none)
    → LawfulAs (row_at e) (record { label = l; form = form_of x; value = characters_of x }) q
as_put (name n) x l q b f t z = tt
as_put (number k) x l q b f t z = tt
as_put (qualifier n) x l q b f t z =
    record { simple = value-simple x; bare = z refl; language = λ e. tagged ((same_name-decides n lang_name).1 cc) }
  where
    tagged : same_name n lang_name ≡ true → (form_of x ≡ TextForm) × LanguageTag (characters_of x)
    tagged i = (
      text_form x (second (same_name n lang_name) (is_uri x) f i),
      (language-tag_decides (characters_of x)).0 (not-false (is_language_tag (characters_of x)) (second (same_name n lang_name) _ t i)),
    )

-- a qualifier that stands there has no qualifiers
kind_bare : (e : Step) (u : Node) → LawfulOne (row_at e) u → row_at e ≡ Qualifiers → u.qualifiers ≡ none
kind_bare e u l r = (subst (λ k. LawfulOne k u) r l).0.kind.bare

-- a node with a value
valued_lawful : (k : Row) (x : Value) (l : Label) (q p : Nodes) → LawfulLabel k l → not (all_xml (characters_of x)) ≡ false → p ≡ none
    → LawfulAs k (record { label = l; form = form_of x; value = characters_of x }) q → LawfulNodes Qualifiers q
    → LawfulOne k (node l (form_of x) (characters_of x) q p)
valued_lawful k x l q p a b c d f = (
  record {
    label = a;
    order = tt;
    characters = (xml_decides (characters_of x)).0 (not-false (all_xml (characters_of x)) b);
    leaf = λ _. c;
    holder = λ i. absurd (true≢false (sym (value-simple x) ∙ i));
    kind = d;
  },
  f,
  subst (LawfulNodes (row_of (form_of x))) (sym c) tt,
  tt,
)

-- the node that set puts is lawful
given-lawful : (e : Step) (x : Value) (o : Option Node) → Settable e x o
    → ((u : Node) → o ≡ Some u → LawfulOne (row_at e) u × Labels e u.head.label)
    → LawfulOne (row_at e) (given e x o) × Labels e (given e x o).head.label
given-lawful e x None c f =
    let k = as_put e x (label_at e) none (new_label e) c.lang_form c.lang_tag (λ _. refl) in
    (valued_lawful (row_at e) x (label_at e) none none (label_lawful e c.name c.namespace) c.characters refl k tt, new_label e)
given-lawful e x (Some u) c f =
    let (l, b) = f u refl in
    let k = as_put e x u.head.label u.qualifiers b c.lang_form c.lang_tag (kind_bare e u l) in
    let p = l.0.leaf (not-false (is_simple u.head.form) c.holder) in
    (valued_lawful (row_at e) x u.head.label u.qualifiers u.parts l.0.label c.characters p k l.1, b)

-- the refusals of set in turn
settable : (t t' : Tree) (p : Path) (x : Value) (o : Option Node)
    → judged (set_refusals t p x o) (with_at t p (Some (given (ending p) x o))) ≡ Ok t'
    → Settable (ending p) x o × Within (with_at t p (Some (given (ending p) x o))) × (with_at t p (Some (given (ending p) x o)) ≡ t')
settable t t' p x o e =
    let a = judged-on _ _ _ _ t' e in
    let b = judged-on _ _ _ _ t' a.1 in
    let c = judged-on _ _ _ _ t' b.1 in
    let d = judged-on _ _ _ _ t' c.1 in
    let f = judged-on _ _ _ _ t' d.1 in
    let g = judged-on _ _ _ _ t' f.1 in
    let h = judged-on _ _ _ _ t' g.1 in (
      record { holder = a.0; lang_form = b.0; name = c.0; lang_tag = d.0; namespace = f.0; characters = g.0 },
      (within-decides (with_at t p (Some (given (ending p) x o)))).0 (not-false (is_within (with_at t p (Some (given (ending p) x o)))) h.0),
      judged-end _ t' h.1,
    )

-- the qualifiers at a path before a call that keeps them
old_qualifiers : (t : Tree) (s : Step) (ss : Path) (x : Value) (o : Option Node) → walk 1 s ss (top t) ≡ Ok o
    → (given (ending (s ∷ ss)) x o).qualifiers ≡ qualifiers_at t (s ∷ ss)
old_qualifiers t s ss x None e = sym (ap qualifiers_of (leads_standing s ss (top t) None (walk-leads 1 s ss (top t) None e)))
old_qualifiers t s ss x (Some u) e = sym (ap qualifiers_of (leads_standing s ss (top t) (Some u) (walk-leads 1 s ss (top t) (Some u) e)))

-- the form and the value of what set puts
given-form : (e : Step) (x : Value) (o : Option Node) → (given e x o).head.form ≡ form_of x
given-form e x None = refl
given-form e x (Some u) = refl

given-value : (e : Step) (x : Value) (o : Option Node) → (given e x o).head.value ≡ characters_of x
given-value e x None = refl
given-value e x (Some u) = refl

-- a node at the end of a walk through a lawful tree
met_lawful : (t : Tree) (s : Step) (ss : Path) (o : Option Node) → LawfulNodes Fields t.properties → walk 1 s ss (top t) ≡ Ok o
    → (u : Node) → o ≡ Some u → LawfulOne (row_at (ending (s ∷ ss))) u × Labels (ending (s ∷ ss)) u.head.label
met_lawful t s ss o l e u i =
    let d = walk-leads 1 s ss (top t) (Some u) (e ∙ ap Ok i) in
    (target_lawful Items s ss (top t) u (top-lawful t l) d, leads_label s ss (top t) u d)

pub after-set : (t t' : Tree) (p : Path) (x : Value) → Lawful t → set t p x ≡ Ok t' → AfterSet t p x t'
after-set t t' [] x l e = never cc
after-set t t' (s ∷ ss) x l e =
    let a = upon-on (lookup t (s ∷ ss)) _ t' e in
    let o = a.0 in
    let b = lookup-on t s ss o a.1 in
    let d = settable t t' (s ∷ ss) x o a.2 in
    let g = given-lawful (ending (s ∷ ss)) x o d.0 (met_lawful t s ss o l.properties b.1) in
    let w = given (ending (s ∷ ss)) x o in
    let c : Accepted t s ss o w = record { lawful = l; formed = b.0; walk = b.1; node = g.0; label = g.1; within = d.1 } in
    subst (AfterSet t (s ∷ ss) x) d.2
    (record {
      lawful = put_lawful t s ss o w c;
      answer = put_answer t s ss o w c ∙ ap₂ (λ f y. Ok (Some (f, y))) (given-form (ending (s ∷ ss)) x o) (given-value (ending (s ∷ ss)) x o);
      qualifiers = ap qualifiers_of (put_standing t s ss o w c) ∙ old_qualifiers t s ss x o b.1;
      there = put_standing t s ss o w c
          ∙ ap (λ v. Some (given (ending (s ∷ ss)) x v)) (sym (leads_standing s ss (top t) o (walk-leads 1 s ss (top t) o b.1)));
      others = put_others t s ss o w c;
    })

-- Make.
made_lawful : (s : Step) (f : Holder) → is_qualifier s ≡ false → is_unlawful_step s ≡ false → is_forbidden_step s ≡ false
    → LawfulOne (row_at s) (node (label_at s) (holder_form f) [] none none)
made_lawful s f q a b = (
  record {
    label = label_lawful s a b;
    order = tt;
    characters = tt;
    leaf = λ _. refl;
    holder = λ _. refl;
    kind = holds_any (row_at s) (holding-row s q) (record { label = label_at s; form = holder_form f; value = [] }) none;
  },
  tt,
  tt,
  tt,
)

new_is : (o : Option Node) → not (is_new o) ≡ false → o ≡ None
new_is None e = refl
new_is (Some u) e = absurd (true≢false e)

pub after-make : (t t' : Tree) (p : Path) (f : Holder) → Lawful t → make t p f ≡ Ok t' → AfterMake t p f t'
after-make t t' [] f l e = never cc
after-make t t' (s ∷ ss) f l e =
    let a = upon-on (lookup t (s ∷ ss)) _ t' e in
    let o = a.0 in
    let b = lookup-on t s ss o a.1 in
    let i = judged-on _ _ _ _ t' a.2 in
    let j = judged-on _ _ _ _ t' i.1 in
    let k = judged-on _ _ _ _ t' j.1 in
    let m = judged-on _ _ _ _ t' k.1 in
    let n = judged-on _ _ _ _ t' m.1 in
    let w = node (label_at (ending (s ∷ ss))) (holder_form f) [] none none in
    let c : Accepted t s ss o w =
    record {
      lawful = l;
      formed = b.0;
      walk = b.1;
      node = made_lawful (ending (s ∷ ss)) f i.0 k.0 m.0;
      label = new_label (ending (s ∷ ss));
      within = (within-decides (with_at t (s ∷ ss) (Some w))).0 (not-false (is_within (with_at t (s ∷ ss) (Some w))) n.0);
    } in
    subst (AfterMake t (s ∷ ss) f) (judged-end _ t' n.1)
    (record {
      lawful = put_lawful t s ss o w c;
      before = ap (λ r. upon r (λ v. Ok (answered v))) (a.1 ∙ ap Ok (new_is o j.0));
      answer = put_answer t s ss o w c;
      there = put_standing t s ss o w c;
      others = put_others t s ss o w c;
    })
