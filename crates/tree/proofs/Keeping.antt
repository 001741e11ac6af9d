-- A lawful node stays lawful when a lawful one is put, or one is taken out, at the end of a path.
use Rattle.std.proofs.Common.{◌≡◌, ℕ, ◌+◌, ◌-◌, Bool, true, false, cond, not, ◌&&◌, ◌||◌, eqb, [], ◌∷◌, Some, None, Option, sym, refl, ap, ◌∙◌, subst, ⊎_elim}
use Rattle.std.proofs.lemmas.Bool.{true≢false, false≢true, or_left, or_right, or_parts, and_cases}
use Rattle.tree.specs.declared.form.Form.{Form}
use Rattle.tree.specs.declared.form.Form.TheVariants.{Text as TextForm, Uri, Structure, Bag, Sequence, Alternative}
use Rattle.tree.specs.Tree.{Head, Nodes, Node, Tree, is_simple, is_array, is_structure}
use Rattle.tree.specs.Lawful.{Row, Fields, Items, Qualifiers, row_of, LawfulAs, LawfulNodes}
use Rattle.tree.specs.Paths.{Step, name, number, qualifier, Path, is_name, is_qualifier, is_zero, is_wrong, first_wrong}
use Rattle.tree.specs.Paths.{Meeting, stands, find, met_name, met_item, meet, top, put_named, put_item, replace, altered, with_at}
use Rattle.tree.specs.Calls.{ending}
use Rattle.names.proofs.Never.{never}
use Rattle.tree.proofs.Steps.{Labels}
use Rattle.tree.proofs.Meetings.{Free, free_test, array_structure, met_field, met_item_lem, met_qualifier}
use Rattle.tree.proofs.Walking.{Leads, altered-head, altered-first, inner-labels, stands_free}
use Rattle.tree.proofs.Rows.{LawfulOne, find-lawful, item-lawful, Putting, put_named-lawful, PuttingItem, put_item-lawful}

-- what holds parts is not simple, and its parts are the row of its form
holds : (f : Form) → (is_structure f || is_array f) ≡ true → is_simple f ≡ false
holds TextForm e = absurd (false≢true e)
holds Uri e = absurd (false≢true e)
holds Structure e = refl
holds Bag e = refl
holds Sequence e = refl
holds Alternative e = refl

fields-row : (f : Form) → is_structure f ≡ true → row_of f ≡ Fields
fields-row f e = ap (λ b. cond b Fields Items) e

items_row : (f : Form) → is_array f ≡ true → row_of f ≡ Items
items_row f e = ap (λ b. cond b Fields Items) (array_structure f e)

pub fields-lawful : (k : Row) (v : Node) → LawfulOne k v → is_structure v.head.form ≡ true → LawfulNodes Fields v.parts
fields-lawful k v l e = subst (λ r. LawfulNodes r v.parts) (fields-row v.head.form e) l.2

items_lawful : (k : Row) (v : Node) → LawfulOne k v → is_array v.head.form ≡ true → LawfulNodes Items v.parts
items_lawful k v l e = subst (λ r. LawfulNodes r v.parts) (items_row v.head.form e) l.2

-- the row that a step leads to
abbrev pub row_at : Step → Row
row_at (name n) = Fields
row_at (number k) = Items
row_at (qualifier n) = Qualifiers

-- a node that a step meets in a lawful one is lawful
pub meet-lawful : (k : Row) (s : Step) (v u : Node) → LawfulOne k v → meet s v ≡ stands u → LawfulOne (row_at s) u
meet-lawful k (name n) v u l e = let t = met_field n v u e in find-lawful Fields n v.parts u (fields-lawful k v l t.0) t.1
meet-lawful k (number i) v u l e = let t = met_item_lem i v u e in item-lawful Items (i - 1) v.parts u (items_lawful k v l t.0) t.1
meet-lawful k (qualifier n) v u l e = find-lawful Qualifiers n v.qualifiers u l.1 (met_qualifier n v u e)

-- Qualifiers have none of their own, so only other nodes are changed within.
abbrev pub Holding : Row → Type 0
Holding Fields = Unit {0}
Holding Items = Unit {0}
Holding Qualifiers = ⊥

pub holds_any : (k : Row) → Holding k → (h : Head) (q : Nodes) → LawfulAs k h q
holds_any Fields y h q = tt
holds_any Items y h q = tt
holds_any Qualifiers y h q = absurd y

-- what may be put at the end of a path
abbrev pub LawfulPut : Step → Option Node → Type 0
LawfulPut (name n) w = Putting Fields n w
LawfulPut (number i) w = PuttingItem w
LawfulPut (qualifier n) w = Putting Qualifiers n w

pub lawful_put : (s : Step) (w : Node) → LawfulOne (row_at s) w → Labels s w.head.label → LawfulPut s (Some w)
lawful_put (name n) w l e = (l, e)
lawful_put (number i) w l e = l
lawful_put (qualifier n) w l e = (l, e)

pub none_put : (s : Step) → LawfulPut s None
none_put (name n) = tt
none_put (number i) = tt
none_put (qualifier n) = tt

-- a node with other parts, or with other qualifiers
with-parts : (k j : Row) (v : Node) (p : Nodes) → LawfulOne k v → (is_structure v.head.form || is_array v.head.form) ≡ true
    → row_of v.head.form ≡ j → LawfulNodes j p → LawfulOne k (record { head = v.head; qualifiers = v.qualifiers; parts = p })
with-parts k j v p l e r g = (
  record {
    label = l.0.label;
    order = tt;
    characters = l.0.characters;
    leaf = λ t. absurd (true≢false (sym t ∙ holds v.head.form e));
    holder = l.0.holder;
    kind = l.0.kind;
  },
  l.1,
  subst (λ x. LawfulNodes x p) (sym r) g,
  tt,
)

with-qualifiers : (k : Row) → Holding k → (v : Node) (q : Nodes) → LawfulOne k v → LawfulNodes Qualifiers q
    → LawfulOne k (record { head = v.head; qualifiers = q; parts = v.parts })
with-qualifiers k y v q l g = (
  record {
    label = l.0.label;
    order = tt;
    characters = l.0.characters;
    leaf = l.0.leaf;
    holder = l.0.holder;
    kind = holds_any k y v.head q;
  },
  g,
  l.2,
  tt,
)

pub replace-lawful : (k : Row) → Holding k → (s : Step) (w : Option Node) (v : Node) → LawfulOne k v → Free (meet s v) → LawfulPut s w
    → LawfulOne k (replace s w v)
replace-lawful k y (name n) w v l f g =
    let t = (free_test (is_structure v.head.form) (met_name (find n v.parts)) f).0 in
    with-parts k Fields v (put_named n w v.parts) l (or_left (is_structure v.head.form) (is_array v.head.form) t) (fields-row v.head.form t)
    (put_named-lawful Fields tt n w v.parts g (fields-lawful k v l t))
replace-lawful k y (number i) w v l f g =
    let t = (free_test (is_array v.head.form) (met_item (i - 1) v.parts) f).0 in
    with-parts k Items v (put_item (i - 1) w v.parts) l (or_right (is_structure v.head.form) (is_array v.head.form) t) (items_row v.head.form t)
    (put_item-lawful (i - 1) w v.parts g (items_lawful k v l t))
replace-lawful k y (qualifier n) w v l f g =
    with-qualifiers k y v (put_named n w v.qualifiers) l (put_named-lawful Qualifiers tt n w v.qualifiers g l.1)

-- only the last step of a path is a qualifier
abbrev pub Sane : Step → Path → Type 0
Sane s [] = Unit {0}
Sane s (s' ∷ ss) = (is_qualifier s ≡ false) × Sane s' ss

pub sane : (i : ℕ) (s : Step) (ss : Path) → first_wrong i (s ∷ ss) ≡ None → Sane s ss
sane i s [] e = tt
sane i s (s' ∷ ss) e = go (is_wrong i s (s' ∷ ss)) refl e (sane (i + 1) s' ss)
  where
    plain : is_wrong i s (s' ∷ ss) ≡ false → is_qualifier s ≡ false
    plain x =
        ⊎_elim (λ f. f) (λ f. absurd (true≢false f))
        (and_cases (is_qualifier s) true (or_parts (is_qualifier s && true) (is_zero s || eqb i 10) (or_parts (eqb i 1 && not (is_name s)) _ x).1).0)

    go : (b : Bool) → is_wrong i s (s' ∷ ss) ≡ b → cond b (Some i) (first_wrong (i + 1) (s' ∷ ss)) ≡ None
        → (first_wrong (i + 1) (s' ∷ ss) ≡ None → Sane s' ss) → Sane s (s' ∷ ss)
    go true x y f = never cc
    go false x y f = (plain x, f y)

pub holding-row : (s : Step) → is_qualifier s ≡ false → Holding (row_at s)
holding-row (name n) e = tt
holding-row (number i) e = tt
holding-row (qualifier n) e = absurd (true≢false e)

pub altered-lawful : (k : Row) → Holding k → (s : Step) (ss : Path) (w : Option Node) (v : Node) (m : Meeting) → LawfulOne k v
    → Leads s ss v m → Free m → Sane s ss → LawfulPut (ending (s ∷ ss)) w → LawfulOne k (altered s ss w v)
altered-lawful k y s [] w v m l e f z g = replace-lawful k y s w v l (subst Free (sym e) f) g
altered-lawful k y s (s' ∷ ss) w v m l e f z g =
    let u = e.0 in
    let a = altered-lawful (row_at s) (holding-row s z.0) s' ss w u m (meet-lawful k s v u l e.1) e.2 f z.1 g in
    subst (LawfulOne k) (sym (altered-first s s' ss w v u e.1))
    (replace-lawful k y s (Some (altered s' ss w u)) v l (stands_free s v u e.1)
    (lawful_put s (altered s' ss w u) a (inner-labels s s' ss w v u e.1)))

-- the node at the end of a path is lawful
pub target_lawful : (k : Row) (s : Step) (ss : Path) (v u : Node) → LawfulOne k v → Leads s ss v (stands u) → LawfulOne (row_at (ending (s ∷ ss))) u
target_lawful k s [] v u l e = meet-lawful k s v u l e
target_lawful k s (s' ∷ ss) v u l e = target_lawful (row_at s) s' ss e.0 u (meet-lawful k s v e.0 l e.1) e.2

-- a tree is walked as a lawful item
pub top-lawful : (t : Tree) → LawfulNodes Fields t.properties → LawfulOne Items (top t)
top-lawful t l =
    (record { label = tt; order = tt; characters = tt; leaf = λ e. absurd (false≢true e); holder = λ e. refl; kind = tt }, tt, l, tt)

-- so its properties stay lawful
pub with-lawful : (t : Tree) (s : Step) (ss : Path) (w : Option Node) (m : Meeting) → LawfulNodes Fields t.properties
    → first_wrong 1 (s ∷ ss) ≡ None → Leads s ss (top t) m → Free m → LawfulPut (ending (s ∷ ss)) w
    → LawfulNodes Fields (with_at t (s ∷ ss) w).properties
with-lawful t s ss w m l z e f g =
    subst (λ (h : Head). LawfulNodes (row_of h.form) (altered s ss w (top t)).parts) (altered-head s ss w (top t))
    (altered-lawful Items tt s ss w (top t) m (top-lawful t l) e f (sane 1 s ss z) g).2
