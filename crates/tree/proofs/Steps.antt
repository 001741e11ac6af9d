-- One step: what it meets after a node was put, or taken out, where it or another step leads.
use Rattle.std.proofs.Common.{◌≡◌, ℕ, zero, suc, ◌<◌, ◌≤◌, true, false, cond, ◌≢◌, ◌⊎◌, Some, None, Option, sym, refl, ap, ◌∙◌, subst, ⊎_elim, arith}
use mathlib.Core.Logic.{⊎_map}
use Rattle.std.proofs.lemmas.Bool.{false≢true, cases_Bool, cond-true, cond-false, cond_both}
use Rattle.names.specs.Order.{Name, same_name}
use Rattle.tree.specs.Tree.{Label, named, item, Head, Nodes, none, more, Node, cons}
use Rattle.tree.specs.Paths.{Step, name, number, qualifier, is_named, find, beyond, stands, met_item, on_to, joined, precedes, put_named, put_item}
use Rattle.names.proofs.Never.{never}
use Rattle.names.proofs.Deciding.{same_name-decides, same_name-true, same_name-refl, refuted}

-- a label that a name finds, and one that it passes over
pub named_is : (n : Name) (l : Label) → is_named n l ≡ true → l ≡ named n
named_is n (named m) e = ap named (same_name-true m n e)
named_is n item e = absurd (false≢true e)

pub is_named_lem : (n : Name) (l : Label) → l ≡ named n → is_named n l ≡ true
is_named_lem n l e = subst (λ k. is_named n k ≡ true) (sym e) (same_name-refl n)

pub other_name : (m n : Name) (l : Label) → m ≢ n → l ≡ named n → is_named m l ≡ false
other_name m n l d e = subst (λ k. is_named m k ≡ false) (sym e) (refuted (same_name n m) (same_name-decides n m) (λ x. d (sym x)))

-- the label of a node that stands where a step leads
abbrev pub Labels : Step → Label → Type 0
Labels (name n) l = l ≡ named n
Labels (number k) l = Unit {0}
Labels (qualifier n) l = l ≡ named n

abbrev pub NamedSo : Name → Option Node → Type 0
NamedSo n None = Unit {0}
NamedSo n (Some w) = w.head.label ≡ named n

-- by name
found : (n : Name) (w : Node) (r : Nodes) → w.head.label ≡ named n → find n (cons w r) ≡ Some w
found n w r e = cond-true _ _ _ (is_named_lem n w.head.label e)

pub find-put : (n : Name) (w : Node) (ns : Nodes) → w.head.label ≡ named n → find n (put_named n (Some w) ns) ≡ Some w
find-put n w none e = found n w none e
find-put n w (more h q p r) e =
    cond_both (is_named n h.label) _ _ (λ ns. find n ns ≡ Some w)
    (λ _. found n w r e)
    (λ a. cond_both (precedes n h.label) _ _ (λ ns. find n ns ≡ Some w)
    (λ _. found n w (more h q p r) e)
    (λ _. cond-false _ _ _ a ∙ find-put n w r e))

passed : (m n : Name) (w : Option Node) (r : Nodes) → m ≢ n → NamedSo n w → find m (joined w r) ≡ find m r
passed m n None r d e = refl
passed m n (Some w) r d e = cond-false _ _ _ (other_name m n w.head.label d e)

pub find-other : (m n : Name) (w : Option Node) (ns : Nodes) → m ≢ n → NamedSo n w → find m (put_named n w ns) ≡ find m ns
find-other m n w none d e = passed m n w none d e
find-other m n w (more h q p r) d e =
    cond_both (is_named n h.label) _ _ (λ ns. find m ns ≡ find m (more h q p r))
    (λ a. passed m n w r d e ∙ sym (cond-false _ _ _ (other_name m n h.label d (named_is n h.label a))))
    (λ a. cond_both (precedes n h.label) _ _ (λ ns. find m ns ≡ find m (more h q p r))
    (λ _. passed m n w (more h q p r) d e)
    (λ _. ap (λ x. cond (is_named m h.label) (Some (record { head = h; qualifiers = q; parts = p })) x) (find-other m n w r d e)))

-- what is found is the first node, if it has the name, or found behind it
pub first-or_behind : (n : Name) (h : Head) (q p r : Nodes) (v : Node) → find n (more h q p r) ≡ Some v
    → ((is_named n h.label ≡ true) × (record { head = h; qualifiers = q; parts = p } ≡ v)) ⊎ ((is_named n h.label ≡ false) × (find n r ≡ Some v))
first-or_behind n h q p r v e =
    ⊎_map (λ t. let f = rw t at e in (t, cc)) (λ t. (t, rw t at e)) (cases_Bool (is_named n h.label))

pub find-label : (n : Name) (ns : Nodes) (v : Node) → find n ns ≡ Some v → v.head.label ≡ named n
find-label n none v e = never cc
find-label n (more h q p r) v e =
    ⊎_elim (λ f. subst (λ (x : Node). x.head.label ≡ named n) f.1 (named_is n h.label f.0)) (λ f. find-label n r v f.1)
    (first-or_behind n h q p r v e)

-- by position
pub item-put : (k : ℕ) (w : Node) (ns : Nodes) → (met_item k ns ≡ beyond → ⊥) → met_item k (put_item k (Some w) ns) ≡ stands w
item-put zero w none h = refl
item-put (suc k) w none h = absurd (h refl)
item-put zero w (more h q p r) i = refl
item-put (suc k) w (more h q p r) i = item-put k w r i

nobody : (i : ℕ) (f : Node → Option Node) → on_to (met_item i none) f ≡ None
nobody zero f = refl
nobody (suc i) f = refl

pub item-other : (j k : ℕ) (w : Node) (ns : Nodes) (f : Node → Option Node) → j ≢ k → on_to (met_item j (put_item k (Some w) ns)) f ≡ on_to (met_item j ns) f
item-other zero zero w none f d = absurd (d refl)
item-other (suc j) zero w none f d = nobody j f
item-other j (suc k) w none f d = refl
item-other zero zero w (more h q p r) f d = absurd (d refl)
item-other (suc j) zero w (more h q p r) f d = refl
item-other zero (suc k) w (more h q p r) f d = refl
item-other (suc j) (suc k) w (more h q p r) f d = item-other j k w r f (λ e. d (ap suc e))

pub item-below : (j k : ℕ) (ns : Nodes) → j < k → met_item j (put_item k None ns) ≡ met_item j ns
item-below j zero ns l = absurd (omega arith)
item-below j (suc k) none l = refl
item-below zero (suc k) (more h q p r) l = refl
item-below (suc j) (suc k) (more h q p r) l = item-below j k r (omega arith)

pub item-above : (j k : ℕ) (v : Node) (ns : Nodes) → met_item k ns ≡ stands v → k ≤ j → met_item j (put_item k None ns) ≡ met_item (suc j) ns
item-above j zero v none e l = never cc
item-above j (suc k) v none e l = never cc
item-above j zero v (more h q p r) e l = refl
item-above zero (suc k) v (more h q p r) e l = absurd (omega arith)
item-above (suc j) (suc k) v (more h q p r) e l = item-above j k v r e (omega arith)
