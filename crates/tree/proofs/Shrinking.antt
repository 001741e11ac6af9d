-- Taking nodes out keeps every limit.
use Rattle.std.proofs.Common.{◌≡◌, ℕ, zero, suc, ◌-◌, ◌≤◌, [], ◌∷◌, length, Some, None, sym, refl, subst, inr, ⊎_elim, arith}
use mathlib.Core.Logic.{⊎_map}
use Rattle.std.proofs.lemmas.Bool.{cond_both}
use Rattle.names.specs.Order.{Text, Name}
use Rattle.tree.specs.Tree.{Head, Nodes, none, more, Node, cons, Tree}
use Rattle.tree.specs.Lawful.{Row, Fields, Items, Qualifiers, LawfulNodes, levels, count, size, Short, namespaces, Within}
use Rattle.tree.specs.Rules.{Used}
use Rattle.tree.specs.Paths.{Step, name, number, qualifier, Path, is_named, find, Meeting, unsuited, beyond, vacant, stands, met_item, meet, top}
use Rattle.tree.specs.Paths.{precedes, put_named, put_item, replace, rebuilt, altered, with_at}
use Rattle.names.proofs.Never.{never}
use Rattle.tree.proofs.Gathering.{namespaces_fewer}
use Rattle.tree.proofs.Steps.{first-or_behind}
use Rattle.tree.proofs.Meetings.{met_field, met_item_lem, met_qualifier}
use Rattle.tree.proofs.Rows.{LawfulOne, Naming, precedes-comes, not_found}
use Rattle.tree.proofs.Keeping.{row_at, fields-lawful, meet-lawful, top-lawful}

-- the first row is what is left of the second after nodes were taken out
pub data Left : Nodes → Nodes → Type 0 where
  left_none : Left none none
  left_out : {h : Head} {q p r s : Nodes} → Left r s → Left r (more h q p s)
  left_in : {h : Head} {q q' p p' r r' : Nodes} → Left q q' → Left p p' → Left r r' → Left (more h q p r) (more h q' p' r')

pub left_refl : (ns : Nodes) → Left ns ns
left_refl none = left_none
left_refl (more h q p r) = left_in (left_refl q) (left_refl p) (left_refl r)

-- the limits of what is left
pub left_levels : {ms ns : Nodes} → Left ms ns → levels ms ≤ levels ns
left_levels left_none = omega arith
left_levels (left_out l) = let k = left_levels l in omega arith
left_levels (left_in a b c) = let k = left_levels b in let l = left_levels c in omega arith

pub left_count : {ms ns : Nodes} → Left ms ns → count ms ≤ count ns
left_count left_none = omega arith
left_count (left_out l) = let k = left_count l in omega arith
left_count (left_in a b c) = let j = left_count a in let k = left_count b in let l = left_count c in omega arith

pub left_size : {ms ns : Nodes} → Left ms ns → size ms ≤ size ns
left_size left_none = omega arith
left_size (left_out l) = let k = left_size l in omega arith
left_size (left_in a b c) = let j = left_size a in let k = left_size b in let l = left_size c in omega arith

pub left_short : {ms ns : Nodes} → Left ms ns → Short ns → Short ms
left_short left_none s = s
left_short (left_out l) s = left_short l s.4
left_short (left_in a b c) s = (s.0, s.1, left_short a s.2, left_short b s.3, left_short c s.4)

pub left_used : (u : Text) {ms ns : Nodes} → Left ms ns → Used u ms → Used u ns
left_used u left_none k = k
left_used u (left_out l) k = inr (inr (inr (left_used u l k)))
left_used u (left_in a b c) k = ⊎_map (λ e. e) (⊎_map (left_used u a) (⊎_map (left_used u b) (left_used u c))) k

pub left_namespaces : {ms ns : Nodes} → Left ms ns → length (namespaces ms) ≤ length (namespaces ns)
left_namespaces {ms} {ns} l = namespaces_fewer ms ns (λ u. left_used u l)

pub within-left : (t : Tree) (ms : Nodes) → Left ms t.properties → Within t → Within (record { about = t.about; properties = ms })
within-left t ms l w =
    let a = left_levels l in let b = left_count l in let c = left_namespaces l in let d = left_size l in
    record {
      levels = omega (arith, w.levels);
      nodes = omega (arith, w.nodes);
      namespaces = omega (arith, w.namespaces);
      about = w.about;
      short = left_short l w.short;
      together = omega (arith, w.together);
    }

-- a node of which only parts and qualifiers were taken out
pub record LeftNode (w v : Node) : Type 0 where
  pub head : w.head ≡ v.head
  pub qualifiers : Left w.qualifiers v.qualifiers
  pub parts : Left w.parts v.parts

pub left_node_refl : (v : Node) → LeftNode v v
left_node_refl v = record { head = refl; qualifiers = left_refl v.qualifiers; parts = left_refl v.parts }

left_cons : (w v : Node) (r : Nodes) → LeftNode w v → Left (cons w r) (cons v r)
left_cons w v r k =
    subst (λ (h : Head). Left (more h w.qualifiers w.parts r) (cons v r)) (sym k.head)
    (left_in k.qualifiers k.parts (left_refl r))

-- Nothing put in the place of a node.
pub named_none : (n : Name) (ns : Nodes) → Left (put_named n None ns) ns
named_none n none = left_none
named_none n (more h q p r) =
    cond_both (is_named n h.label) _ _ (λ ms. Left ms (more h q p r)) (λ _. left_out (left_refl r))
    (λ _. cond_both (precedes n h.label) _ _ (λ ms. Left ms (more h q p r)) (λ _. left_refl (more h q p r)) (λ _. left_in (left_refl q) (left_refl p) (named_none n r)))

pub item-none : (k : ℕ) (ns : Nodes) → Left (put_item k None ns) ns
item-none zero none = left_none
item-none (suc k) none = left_none
item-none zero (more h q p r) = left_out (left_refl r)
item-none (suc k) (more h q p r) = left_in (left_refl q) (left_refl p) (item-none k r)

pub replace-none : (s : Step) (v : Node) → LeftNode (replace s None v) v
replace-none (name n) v = record { head = refl; qualifiers = left_refl v.qualifiers; parts = named_none n v.parts }
replace-none (number k) v = record { head = refl; qualifiers = left_refl v.qualifiers; parts = item-none (k - 1) v.parts }
replace-none (qualifier n) v = record { head = refl; qualifiers = named_none n v.qualifiers; parts = left_refl v.parts }

-- A node that is met, and what is left of it put in its place. In a row without order `put_named` would add a node where `find`
-- meets one further on, so this is said of lawful rows.
pub named_left : (k : Row) → Naming k → (n : Name) (w u : Node) (ns : Nodes) → LawfulNodes k ns → find n ns ≡ Some u → LeftNode w u
    → Left (put_named n (Some w) ns) ns
named_left k y n w u none a e l = never cc
named_left k y n w u (more h q p r) a e l =
    ⊎_elim (λ f. rw f.0 (left_cons w _ r (subst (LeftNode w) (sym f.1) l)))
    (λ f. rw f.0 (cond_both (precedes n h.label) _ _ (λ ms. Left ms (more h q p r))
    (λ t. never (cc (not_found k y n (more h q p r) a (precedes-comes n h.label t))))
    (λ t. left_in (left_refl q) (left_refl p) (named_left k y n w u r a.3 f.1 l))))
    (first-or_behind n h q p r u e)

pub item-left : (k : ℕ) (w u : Node) (ns : Nodes) → met_item k ns ≡ stands u → LeftNode w u → Left (put_item k (Some w) ns) ns
item-left zero w u none e l = never cc
item-left (suc k) w u none e l = never cc
item-left zero w u (more h q p r) e l =
    let d : record { head = h; qualifiers = q; parts = p } ≡ u = cc in left_cons w _ r (subst (LeftNode w) (sym d) l)
item-left (suc k) w u (more h q p r) e l = left_in (left_refl q) (left_refl p) (item-left k w u r e l)

pub replace-left : (k : Row) (s : Step) (w u v : Node) → LawfulOne k v → meet s v ≡ stands u → LeftNode w u → LeftNode (replace s (Some w) v) v
replace-left k (name n) w u v a e l =
    let t = met_field n v u e in
    record { head = refl; qualifiers = left_refl v.qualifiers; parts = named_left Fields tt n w u v.parts (fields-lawful k v a t.0) t.1 l }
replace-left k (number i) w u v a e l =
    record { head = refl; qualifiers = left_refl v.qualifiers; parts = item-left (i - 1) w u v.parts (met_item_lem i v u e).1 l }
replace-left k (qualifier n) w u v a e l =
    record { head = refl; qualifiers = named_left Qualifiers tt n w u v.qualifiers a.1 (met_qualifier n v u e) l; parts = left_refl v.parts }

-- a path
rebuilt-left : (k : Row) (s : Step) (v : Node) (f : Node → Node) → LawfulOne k v → ((u : Node) → LawfulOne (row_at s) u → LeftNode (f u) u)
    → (m : Meeting) → meet s v ≡ m → LeftNode (rebuilt m v (λ u. replace s (Some (f u)) v)) v
rebuilt-left k s v f a g unsuited e = left_node_refl v
rebuilt-left k s v f a g beyond e = left_node_refl v
rebuilt-left k s v f a g vacant e = left_node_refl v
rebuilt-left k s v f a g (stands u) e = replace-left k s (f u) u v a e (g u (meet-lawful k s v u a e))

pub altered-left : (k : Row) (s : Step) (ss : Path) (v : Node) → LawfulOne k v → LeftNode (altered s ss None v) v
altered-left k s [] v a = replace-none s v
altered-left k s (s' ∷ ss) v a = rebuilt-left k s v (altered s' ss None) a (altered-left (row_at s) s' ss) (meet s v) refl

-- a lawful tree without the node at a path
pub within-without : (t : Tree) (p : Path) → LawfulNodes Fields t.properties → Within t → Within (with_at t p None)
within-without t [] a w = w
within-without t (s ∷ ss) a w = within-left t _ (altered-left Items s ss (top t) (top-lawful t a)).parts w
