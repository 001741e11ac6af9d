-- How many elements of a lawful tree are open at once: at most three for each of its levels.
use Rattle.std.proofs.Common.{◌≡◌, suc, ◌*◌, ◌≤◌, max, Bool, true, false, List, [], ◌∷◌, refl, ap, arith}
use Rattle.std.proofs.lemmas.Bool.{cond_both}
use Rattle.tree.specs.declared.form.Form.{Form}
use Rattle.tree.specs.declared.form.Form.TheVariants.{Text as TextForm, Uri, Structure, Bag, Sequence, Alternative}
use Rattle.names.specs.Order.{Text}
use Rattle.tree.specs.Tree.{Nodes, none, more}
use Rattle.tree.specs.Lawful.{Row, Qualifiers, LawfulNodes, levels}
use Rattle.markup.specs.Elements.{Attribute, Markup, nothing, textual, opened}
use Rattle.canonical.specs.Document.{is_lang_label, language, has_others, form_attributes, form_content, tagged, element_name, elements, others}
use Rattle.canonical.proofs.Elements.{simple_content}

-- a value opens one element at the most besides those of its parts
textual-opened : (x : Text) → opened (textual x) ≡ 0
textual-opened [] = refl
textual-opened (c ∷ x) = refl

content_opened : (f : Form) (x : Text) (m : Markup) → opened (form_content f x m) ≤ suc (opened m)
content_opened TextForm x m = omega (arith, textual-opened x)
content_opened Uri x m = omega arith
content_opened Structure x m = omega arith
content_opened Bag x m = omega arith
content_opened Sequence x m = omega arith
content_opened Alternative x m = omega arith

-- qualifiers stand beside one another, and beside rdf:value
others_opened : (us : List Text) (q : Nodes) → LawfulNodes Qualifiers q → opened (others us q) ≤ 2
unfolding others
others_opened us none l = omega arith
others_opened us (more h q p r) l =
    let c = ap opened (simple_content h.form h.value (elements us p) l.0.kind.simple) in
    cond_both (is_lang_label h.label) _ _ (λ m. opened m ≤ 2) (λ _. others_opened us r l.3)
    (λ _. omega (arith, content_opened h.form h.value nothing, others_opened us r l.3))

tagged-opened : (b : Bool) (n : Text) (lang as' : List Attribute) (c qs r : Markup) → opened qs ≤ 2 → opened (tagged b n lang as' c qs r) ≤ max (max 3 (suc (suc (opened c)))) (opened r)
tagged-opened false n lang as' c qs r h = omega arith
tagged-opened true n lang as' c qs r h = omega arith

pub elements_opened : (us : List Text) (k : Row) (ns : Nodes) → LawfulNodes k ns → opened (elements us ns) ≤ 3 * levels ns
unfolding elements
elements_opened us k none l = omega arith
elements_opened us k (more h q p r) l =
    let c = content_opened h.form h.value (elements us p) in
    let t = tagged-opened (has_others q) (element_name us h.label) (language q) (form_attributes h.form h.value) (form_content h.form h.value (elements us p)) (others us q) (elements us r) (others_opened us q l.1) in
    omega (arith, elements_opened us _ p l.2, elements_opened us k r l.3)
