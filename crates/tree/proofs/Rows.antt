-- Rows of lawful nodes stay lawful when a lawful node is put in, or one is taken out.
use Rattle.std.proofs.Common.{◌≡◌, ℕ, zero, suc, true, false, Some, None, Option, sym, refl, ◌∙◌, subst, ⊎_elim}
use Rattle.std.proofs.lemmas.Bool.{cond-false, cond_both}
use Rattle.names.specs.Order.{Name, NameBefore, same_name}
use Rattle.tree.specs.Tree.{Label, named, item, Head, Nodes, none, more, Node, cons}
use Rattle.tree.specs.Lawful.{Row, Fields, Items, Qualifiers, LawfulLabel, LawfulNode, LawfulNodes, Comes, ComesFirst}
use Rattle.tree.specs.Paths.{stands, is_named, find, met_item, joined, precedes, put_named, put_item}
use Rattle.names.proofs.Never.{never}
use Rattle.names.proofs.Ordering.{name-transitive}
use Rattle.names.proofs.Deciding.{same_name-decides, same_name-false, name_before-true, name_before-false, refuted, before-other}
use Rattle.tree.proofs.Steps.{named_is, first-or_behind}

-- a node that would be lawful as the only one of a row
abbrev pub LawfulOne : Row → Node → Type 0
LawfulOne k v = LawfulNodes k (cons v none)

-- the rules of a node but for those after it
pub before-others : (k : Row) (h : Head) (q p r r' : Nodes) → LawfulNode k h q p r → ComesFirst h.label r' → LawfulNode k h q p r'
before-others k h q p r r' l o =
    record { label = l.label; order = o; characters = l.characters; leaf = l.leaf; holder = l.holder; kind = l.kind }

alone : (k : Row) (h : Head) (q p r : Nodes) → LawfulNodes k (more h q p r) → LawfulNodes k (more h q p none)
alone k h q p r l = (before-others k h q p r none l.0 tt, l.1, l.2, tt)

-- a node that is met in a lawful row is lawful
pub find-lawful : (k : Row) (n : Name) (ns : Nodes) (v : Node) → LawfulNodes k ns → find n ns ≡ Some v → LawfulOne k v
find-lawful k n none v l e = never cc
find-lawful k n (more h q p r) v l e =
    ⊎_elim (λ f. subst (LawfulOne k) f.1 (alone k h q p r l)) (λ f. find-lawful k n r v l.3 f.1) (first-or_behind n h q p r v e)

pub item-lawful : (k : Row) (i : ℕ) (ns : Nodes) (v : Node) → LawfulNodes k ns → met_item i ns ≡ stands v → LawfulOne k v
item-lawful k zero none v l e = never cc
item-lawful k (suc i) none v l e = never cc
item-lawful k zero (more h q p r) v l e =
    let d : record { head = h; qualifiers = q; parts = p } ≡ v = cc in subst (LawfulOne k) d (alone k h q p r l)
item-lawful k (suc i) (more h q p r) v l e = item-lawful k i r v l.3 e

-- Rows with names.
abbrev pub Naming : Row → Type 0
Naming Fields = Unit {0}
Naming Items = ⊥
Naming Qualifiers = Unit {0}

-- a name that comes before a node of such a row comes before those after it
comes_on : (a m : Name) (r : Nodes) → NameBefore a m → ComesFirst (named m) r → ComesFirst (named a) r
comes_on a m none b c = tt
comes_on a m (more h q p r) b c = go h.label c
  where
    go : (l : Label) → Comes (named m) l → Comes (named a) l
    go (named n) d = name-transitive a m n b d
    go item d = tt

pub comes_past : (k : Row) → Naming k → (l mid : Label) (r : Nodes) → LawfulLabel k mid → Comes l mid → ComesFirst mid r → ComesFirst l r
comes_past k y item mid none f b c = tt
comes_past k y item mid (more h q p r) f b c = tt
comes_past k y (named a) (named m) r f b c = comes_on a m r b c
comes_past Fields y (named a) item r f b c = absurd f
comes_past Items y (named a) item r f b c = absurd y
comes_past Qualifiers y (named a) item r f b c = absurd f

-- of two labels one comes first
pub precedes-comes : (n : Name) (l : Label) → precedes n l ≡ true → Comes (named n) l
precedes-comes n (named m) e = name_before-true n m e
precedes-comes n item e = tt

pub follows : (n : Name) (l : Label) → is_named n l ≡ false → precedes n l ≡ false → Comes l (named n)
follows n (named m) a b =
    name_before-false n m (refuted (same_name n m) (same_name-decides n m) (λ e. same_name-false m n a (sym e))) b
follows n item a b = tt

-- what may be put under a name
abbrev pub Putting : Row → Name → Option Node → Type 0
Putting k n None = Unit {0}
Putting k n (Some w) = LawfulOne k w × (w.head.label ≡ named n)

join_lawful : (k : Row) (n : Name) (w : Option Node) (r : Nodes) → Putting k n w → LawfulNodes k r → ComesFirst (named n) r → LawfulNodes k (joined w r)
join_lawful k n None r g l c = l
join_lawful k n (Some w) r g l c =
    (before-others k w.head w.qualifiers w.parts none r g.0.0 (subst (λ x. ComesFirst x r) (sym g.1) c), g.0.1, g.0.2, l)

join_comes : (k : Row) (n : Name) (w : Option Node) (r : Nodes) (l : Label) → Putting k n w → Comes l (named n) → ComesFirst l r → ComesFirst l (joined w r)
join_comes k n None r l g a b = b
join_comes k n (Some w) r l g a b = subst (Comes l) (sym g.1) a

put_comes : (k : Row) → Naming k → (n : Name) (w : Option Node) (ns : Nodes) (l : Label) → Putting k n w → LawfulNodes k ns
    → Comes l (named n) → ComesFirst l ns → ComesFirst l (put_named n w ns)
put_comes k y n w none l g f a b = join_comes k n w none l g a b
put_comes k y n w (more h q p r) l g f a b =
    cond_both (is_named n h.label) _ _ (ComesFirst l)
    (λ _. join_comes k n w r l g a (comes_past k y l h.label r f.0.label b f.0.order))
    (λ _. cond_both (precedes n h.label) _ _ (ComesFirst l) (λ _. join_comes k n w (more h q p r) l g a b) (λ _. b))

pub put_named-lawful : (k : Row) → Naming k → (n : Name) (w : Option Node) (ns : Nodes) → Putting k n w → LawfulNodes k ns → LawfulNodes k (put_named n w ns)
put_named-lawful k y n w none g f = join_lawful k n w none g f tt
put_named-lawful k y n w (more h q p r) g f =
    cond_both (is_named n h.label) _ _ (LawfulNodes k)
    (λ a. join_lawful k n w r g f.3 (subst (λ x. ComesFirst x r) (named_is n h.label a) f.0.order))
    (λ a. cond_both (precedes n h.label) _ _ (LawfulNodes k)
    (λ b. join_lawful k n w (more h q p r) g f (precedes-comes n h.label b))
    (λ b. (before-others k h q p r (put_named n w r) f.0 (put_comes k y n w r h.label g f.3 (follows n h.label a b) f.0.order), f.1, f.2, put_named-lawful k y n w r g f.3)))

-- a name that comes before all of a row is not in it
pub not_found : (k : Row) → Naming k → (n : Name) (ns : Nodes) → LawfulNodes k ns → ComesFirst (named n) ns → find n ns ≡ None
not_found k y n none f c = refl
not_found k y n (more h q p r) f c =
    cond-false _ _ _ (other h.label c) ∙ not_found k y n r f.3 (comes_past k y (named n) h.label r f.0.label c f.0.order)
  where
    other : (l : Label) → Comes (named n) l → is_named n l ≡ false
    other (named m) d = (before-other n m d).1
    other item d = refl

pub find-gone : (k : Row) → Naming k → (n : Name) (ns : Nodes) → LawfulNodes k ns → find n (put_named n None ns) ≡ None
find-gone k y n none f = refl
find-gone k y n (more h q p r) f =
    cond_both (is_named n h.label) _ _ (λ ns. find n ns ≡ None)
    (λ a. not_found k y n r f.3 (subst (λ x. ComesFirst x r) (named_is n h.label a) f.0.order))
    (λ a. cond_both (precedes n h.label) _ _ (λ ns. find n ns ≡ None)
    (λ b. not_found k y n (more h q p r) f (precedes-comes n h.label b))
    (λ b. cond-false _ _ _ a ∙ find-gone k y n r f.3))

-- Rows of items: any order will do.
items_come : (l : Label) (ns : Nodes) → LawfulLabel Items l → ComesFirst l ns
items_come (named n) ns f = absurd f
items_come item none f = tt
items_come item (more h q p r) f = tt

abbrev pub PuttingItem : Option Node → Type 0
PuttingItem None = Unit {0}
PuttingItem (Some w) = LawfulOne Items w

join_item : (w : Option Node) (r : Nodes) → PuttingItem w → LawfulNodes Items r → LawfulNodes Items (joined w r)
join_item None r g f = f
join_item (Some w) r g f = (before-others Items w.head w.qualifiers w.parts none r g.0 (items_come w.head.label r g.0.label), g.1, g.2, f)

pub put_item-lawful : (i : ℕ) (w : Option Node) (ns : Nodes) → PuttingItem w → LawfulNodes Items ns → LawfulNodes Items (put_item i w ns)
put_item-lawful zero w none g f = join_item w none g f
put_item-lawful (suc i) w none g f = tt
put_item-lawful zero w (more h q p r) g f = join_item w r g f.3
put_item-lawful (suc i) w (more h q p r) g f =
    (before-others Items h q p r (put_item i w r) f.0 (items_come h.label (put_item i w r) f.0.label), f.1, f.2, put_item-lawful i w r g f.3)
