-- What a step meets in a node in which another node was put, or taken out.
use Rattle.std.proofs.Common.{◌≡◌, ℕ, suc, ◌-◌, ◌<◌, ◌≤◌, Bool, true, false, cond, Some, None, Option, sym, refl, ap, ◌∙◌, subst, ⊎_elim, arith}
use Rattle.std.proofs.lemmas.Bool.{true≢false, false≢true, cases_Bool, cond-true}
use Rattle.tree.specs.declared.form.Form.{Form}
use Rattle.tree.specs.declared.form.Form.TheVariants.{Text as TextForm, Uri, Structure, Bag, Sequence, Alternative}
use Rattle.names.specs.Order.{Name}
use Rattle.tree.specs.Tree.{Node, is_array, is_structure}
use Rattle.tree.specs.Paths.{Step, name, number, qualifier, find, Meeting, unsuited, beyond, vacant, stands, met_name, met_item, meet, on_to, replace}
use Rattle.tree.specs.Edits.{Differ}
use Rattle.names.proofs.Never.{never}
use Rattle.tree.proofs.Steps.{Labels, NamedSo, find-put, find-other, find-label, item-put, item-other, item-below, item-above}

-- a node stands there, or one can be added
abbrev pub Free : Meeting → Type 0
Free unsuited = ⊥
Free beyond = ⊥
Free vacant = Unit {0}
Free (stands v) = Unit {0}

pub free_test : (b : Bool) (m : Meeting) → Free (cond b m unsuited) → (b ≡ true) × Free m
free_test true m h = (refl, h)
free_test false m h = absurd h

-- no form has fields and items
pub structure_array : (f : Form) → is_structure f ≡ true → is_array f ≡ false
structure_array TextForm e = refl
structure_array Uri e = refl
structure_array Structure e = refl
structure_array Bag e = absurd (false≢true e)
structure_array Sequence e = absurd (false≢true e)
structure_array Alternative e = absurd (false≢true e)

pub array_structure : (f : Form) → is_array f ≡ true → is_structure f ≡ false
array_structure f e = ⊎_elim (λ t. absurd (true≢false (sym e ∙ structure_array f t))) (λ t. t) (cases_Bool (is_structure f))

-- what is met was found
met_named : (o : Option Node) (u : Node) → met_name o ≡ stands u → o ≡ Some u
met_named None u e = never cc
met_named (Some v) u e = cc

met_if : (b : Bool) (m : Meeting) (u : Node) → cond b m unsuited ≡ stands u → (b ≡ true) × (m ≡ stands u)
met_if true m u e = (refl, e)
met_if false m u e = never cc

pub met_field : (n : Name) (v u : Node) → meet (name n) v ≡ stands u → (is_structure v.head.form ≡ true) × (find n v.parts ≡ Some u)
met_field n v u e =
    let t = met_if (is_structure v.head.form) (met_name (find n v.parts)) u e in (t.0, met_named (find n v.parts) u t.1)

pub met_item_lem : (k : ℕ) (v u : Node) → meet (number k) v ≡ stands u → (is_array v.head.form ≡ true) × (met_item (k - 1) v.parts ≡ stands u)
met_item_lem k v u e = met_if (is_array v.head.form) (met_item (k - 1) v.parts) u e

pub met_qualifier : (n : Name) (v u : Node) → meet (qualifier n) v ≡ stands u → find n v.qualifiers ≡ Some u
met_qualifier n v u e = met_named (find n v.qualifiers) u e

-- the step that led there meets the node that was put
pub meet-put : (s : Step) (w v : Node) → Labels s w.head.label → Free (meet s v) → meet s (replace s (Some w) v) ≡ stands w
meet-put (name n) w v e h =
    let t = free_test (is_structure v.head.form) (met_name (find n v.parts)) h in
    cond-true (is_structure v.head.form) _ unsuited t.0 ∙ ap met_name (find-put n w v.parts e)
meet-put (number k) w v e h =
    let t = free_test (is_array v.head.form) (met_item (k - 1) v.parts) h in
    cond-true (is_array v.head.form) _ unsuited t.0 ∙ item-put (k - 1) w v.parts (λ b. subst Free b t.1)
meet-put (qualifier n) w v e h = ap met_name (find-put n w v.qualifiers e)

-- what may be put where a step leads and leaves the other places alone: a node with the step's name, or nothing, unless items move
abbrev pub Puts : Step → Option Node → Type 0
Puts (name n) w = NamedSo n w
Puts (number k) None = ⊥
Puts (number k) (Some w) = Unit {0}
Puts (qualifier n) w = NamedSo n w

pub labels_put : (s : Step) (w : Node) → Labels s w.head.label → Puts s (Some w)
labels_put (name n) w e = e
labels_put (number k) w e = tt
labels_put (qualifier n) w e = e

neither : (b : Bool) (x y : Meeting) (f : Node → Option Node) → b ≡ false → on_to (cond b x unsuited) f ≡ on_to (cond b y unsuited) f
neither true x y f e = absurd (true≢false e)
neither false x y f e = refl

either : (b : Bool) (x y : Meeting) (f : Node → Option Node) → on_to x f ≡ on_to y f → on_to (cond b x unsuited) f ≡ on_to (cond b y unsuited) f
either true x y f e = e
either false x y f e = refl

-- another step meets what it met before
pub meet-other : (s s' : Step) (w : Option Node) (v : Node) (f : Node → Option Node) → Differ s s' → Puts s w → Free (meet s v)
    → on_to (meet s' (replace s w v)) f ≡ on_to (meet s' v) f
meet-other (name m) (name n) w v f d e h =
    ap (λ x. on_to (cond (is_structure v.head.form) (met_name x) unsuited) f) (find-other n m w v.parts d e)
meet-other (name m) (number k) w v f d e h = neither (is_array v.head.form) _ _ f (structure_array v.head.form (free_test _ _ h).0)
meet-other (name m) (qualifier n) w v f d e h = refl
meet-other (number j) (name n) w v f d e h = neither (is_structure v.head.form) _ _ f (array_structure v.head.form (free_test _ _ h).0)
meet-other (number j) (number k) None v f d e h = absurd e
meet-other (number j) (number k) (Some w) v f d e h =
    either (is_array v.head.form) _ _ f (item-other (k - 1) (j - 1) w v.parts f (omega arith))
meet-other (number j) (qualifier n) w v f d e h = refl
meet-other (qualifier m) (name n) w v f d e h = refl
meet-other (qualifier m) (number k) w v f d e h = refl
meet-other (qualifier m) (qualifier n) w v f d e h = ap (λ x. on_to (met_name x) f) (find-other n m w v.qualifiers d e)

-- a node that a step meets has the step's name
pub meet-label : (s : Step) (v u : Node) → meet s v ≡ stands u → Labels s u.head.label
meet-label (name n) v u e = find-label n v.parts u (met_field n v u e).1
meet-label (number k) v u e = tt
meet-label (qualifier n) v u e = find-label n v.qualifiers u (met_qualifier n v u e)

-- items around one that was taken out
pub item-kept : (j k : ℕ) (v : Node) (f : Node → Option Node) → 1 ≤ k → k < j
    → on_to (meet (number k) (replace (number j) None v)) f ≡ on_to (meet (number k) v) f
item-kept j k v f a l =
    either (is_array v.head.form) _ _ f (ap (λ x. on_to x f) (item-below (k - 1) (j - 1) v.parts (omega arith)))

pub item-moved : (j k : ℕ) (v u : Node) (f : Node → Option Node) → 1 ≤ j → j ≤ k → meet (number j) v ≡ stands u
    → on_to (meet (number k) (replace (number j) None v)) f ≡ on_to (meet (number (suc k)) v) f
item-moved j k v u f a l e =
    let next : suc (k - 1) ≡ suc k - 1 = omega arith in
    either (is_array v.head.form) _ _ f
    (ap (λ x. on_to x f) (item-above (k - 1) (j - 1) u v.parts (met_item_lem j v u e).1 (omega arith) ∙ ap (λ i. met_item i v.parts) next))

-- a name leads nowhere from an array, with the item or without
pub name-aside : (j : ℕ) (n : Name) (v u : Node) (f : Node → Option Node) → meet (number j) v ≡ stands u
    → on_to (meet (name n) (replace (number j) None v)) f ≡ on_to (meet (name n) v) f
name-aside j n v u f e =
    let t = (free_test (is_array v.head.form) (met_item (j - 1) v.parts) (subst Free (sym e) tt)).0 in
    neither (is_structure v.head.form) _ _ f (array_structure v.head.form t)
