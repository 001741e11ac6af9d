-- Along a path: what stands where, after a node was put or taken out at its end.
use Rattle.std.proofs.Common.{◌≡◌, ℕ, ◌+◌, [], ◌∷◌, Some, None, Ok, Option, Result, sym, refl, ap, ◌∙◌, subst}
use Rattle.tree.specs.declared.failure.TreeFault.{TreeFault}
use Rattle.tree.specs.Tree.{Node}
use Rattle.tree.specs.Paths.{Step, name, number, qualifier, Path, Meeting, unsuited, beyond, vacant, stands, met_name, meet, on_to, standing}
use Rattle.tree.specs.Paths.{through, arrived, walk, replace, rebuilt, altered, altered_at}
use Rattle.tree.specs.Calls.{ending}
use Rattle.tree.specs.Edits.{Differ, Apart, parting, together, OnTheWay, begun, along, head_of, Moves, above, below, beside, aside, field, qualifying, earlier, onward}
use Rattle.names.proofs.Never.{never}
use Rattle.tree.proofs.Steps.{Labels}
use Rattle.tree.proofs.Meetings.{Free, meet-put, labels_put, meet-other, meet-label, item-kept, item-moved, name-aside}

-- the last step of a path meets m, and each before it a node
abbrev pub Leads : Step → Path → Node → Meeting → Type 0
Leads s [] v m = meet s v ≡ m
Leads s (s' ∷ ss) v m = (u : Node) × (meet s v ≡ stands u) × Leads s' ss u m

-- a walk that is not refused
arrives : (i : ℕ) (m : Meeting) (o : Option Node) → arrived i m ≡ Ok o → m ≡ met_name o
arrives i unsuited o e = never cc
arrives i beyond o e = never cc
arrives i vacant o e = let p : None ≡ o = cc in ap met_name p
arrives i (stands v) o e = let p : Some v ≡ o = cc in ap met_name p

goes : (i : ℕ) (m : Meeting) (f : Node → Result (Option Node) TreeFault) (o : Option Node) → through i m f ≡ Ok o → (u : Node) × (m ≡ stands u) × (f u ≡ Ok o)
goes i unsuited f o e = never cc
goes i beyond f o e = never cc
goes i vacant f o e = never cc
goes i (stands v) f o e = (v, refl, e)

-- the same of a whole path
abbrev pub LeadsAt : Path → Node → Meeting → Type 0
LeadsAt [] v m = ⊥
LeadsAt (s ∷ ss) v m = Leads s ss v m

pub walk-leads : (i : ℕ) (s : Step) (ss : Path) (v : Node) (o : Option Node) → walk i s ss v ≡ Ok o → Leads s ss v (met_name o)
walk-leads i s [] v o e = arrives i (meet s v) o e
walk-leads i s (s' ∷ ss) v o e =
    let g = goes i (meet s v) (walk (i + 1) s' ss) o e in
    (g.0, g.1, walk-leads (i + 1) s' ss g.0 o g.2)

pub leads_walk : (i : ℕ) (s : Step) (ss : Path) (v : Node) (o : Option Node) → Leads s ss v (met_name o) → walk i s ss v ≡ Ok o
leads_walk i s [] v None e = ap (arrived i) e
leads_walk i s [] v (Some u) e = ap (arrived i) e
leads_walk i s (s' ∷ ss) v o e = ap (λ m. through i m (walk (i + 1) s' ss)) e.1 ∙ leads_walk (i + 1) s' ss e.0 o e.2

pub leads_standing : (s : Step) (ss : Path) (v : Node) (o : Option Node) → Leads s ss v (met_name o) → standing (s ∷ ss) v ≡ o
leads_standing s [] v None e = ap (λ m. on_to m (standing [])) e
leads_standing s [] v (Some u) e = ap (λ m. on_to m (standing [])) e
leads_standing s (s' ∷ ss) v o e = ap (λ m. on_to m (standing (s' ∷ ss))) e.1 ∙ leads_standing s' ss e.0 o e.2

-- what is put at the end of a path leaves the heads on the way
pub replace-head : (s : Step) (w : Option Node) (v : Node) → (replace s w v).head ≡ v.head
replace-head (name n) w v = refl
replace-head (number k) w v = refl
replace-head (qualifier n) w v = refl

pub altered-head : (s : Step) (ss : Path) (w : Option Node) (v : Node) → (altered s ss w v).head ≡ v.head
altered-head s [] w v = replace-head s w v
altered-head s (s' ∷ ss) w v = go (meet s v)
  where
    go : (m : Meeting) → (rebuilt m v (λ u. replace s (Some (altered s' ss w u)) v)).head ≡ v.head
    go unsuited = refl
    go beyond = refl
    go vacant = refl
    go (stands u) = replace-head s (Some (altered s' ss w u)) v

-- with more than one step, it is a change of the node that the first step meets
pub altered-first : (s s' : Step) (ss : Path) (w : Option Node) (v u : Node) → meet s v ≡ stands u → altered s (s' ∷ ss) w v ≡ replace s (Some (altered s' ss w u)) v
altered-first s s' ss w v u e = ap (λ m. rebuilt m v (λ u. replace s (Some (altered s' ss w u)) v)) e

pub stands_free : (s : Step) (v u : Node) → meet s v ≡ stands u → Free (meet s v)
stands_free s v u e = subst Free (sym e) tt

pub inner-labels : (s s' : Step) (ss : Path) (w : Option Node) (v u : Node) → meet s v ≡ stands u → Labels s (altered s' ss w u).head.label
inner-labels s s' ss w v u e = subst (λ h. Labels s h.label) (sym (altered-head s' ss w u)) (meet-label s v u e)

-- the first step then meets the changed node
pub meet-first : (s s' : Step) (ss : Path) (w : Option Node) (v u : Node) → meet s v ≡ stands u → meet s (altered s (s' ∷ ss) w v) ≡ stands (altered s' ss w u)
meet-first s s' ss w v u e =
    ap (meet s) (altered-first s s' ss w v u e) ∙ meet-put s (altered s' ss w u) v (inner-labels s s' ss w v u e) (stands_free s v u e)

-- and another step what it met before
pub meet-beside : (s s' s'' : Step) (ss : Path) (w : Option Node) (v u : Node) (f : Node → Option Node) → Differ s s'' → meet s v ≡ stands u
    → on_to (meet s'' (altered s (s' ∷ ss) w v)) f ≡ on_to (meet s'' v) f
meet-beside s s' s'' ss w v u f d e =
    let a = altered s' ss w u in
    ap (λ x. on_to (meet s'' x) f) (altered-first s s' ss w v u e) ∙
    meet-other s s'' (Some a) v f d (labels_put s a (inner-labels s s' ss w v u e)) (stands_free s v u e)

-- the node that was put stands at the end of the path
pub there : (s : Step) (ss : Path) (w v : Node) (m : Meeting) → Leads s ss v m → Free m → Labels (ending (s ∷ ss)) w.head.label
    → Leads s ss (altered s ss (Some w) v) (stands w)
there s [] w v m e f l = meet-put s w v l (subst Free (sym e) f)
there s (s' ∷ ss) w v m e f l =
    (altered s' ss (Some w) e.0, meet-first s s' ss (Some w) v e.0 e.1, there s' ss w e.0 m e.2 f l)

-- and what stands elsewhere stays
parts_here : (s s' : Step) (ss ss' : Path) (w v : Node) (m : Meeting) → Differ s s' → Leads s ss v m → Free m
    → Labels (ending (s ∷ ss)) w.head.label → standing (s' ∷ ss') (altered s ss (Some w) v) ≡ standing (s' ∷ ss') v
parts_here s s' [] ss' w v m d l f b = meet-other s s' (Some w) v (standing ss') d (labels_put s w b) (subst Free (sym l) f)
parts_here s s' (s'' ∷ ss) ss' w v m d l f b = meet-beside s s'' s' ss (Some w) v l.0 (standing ss') d l.1

-- one step further, where both paths go on: for whatever f tells of a node
pub further : {A : Type 0} (f : Option Node → A) (s : Step) (ss qs qs' : Path) (w : Option Node) (v : Node) (m : Meeting) → (ss ≡ [] → ⊥)
    → LeadsAt (s ∷ ss) v m → ((u : Node) → LeadsAt ss u m → f (standing qs (altered_at ss w u)) ≡ f (standing qs' u))
    → f (standing (s ∷ qs) (altered s ss w v)) ≡ f (standing (s ∷ qs') v)
further f s [] qs qs' w v m n l h = absurd (n refl)
further f s (s' ∷ ss) qs qs' w v m n l h =
    ap (λ x. f (on_to x (standing qs))) (meet-first s s' ss w v l.0 l.1)
    ∙ (h l.0 l.2 ∙ sym (ap (λ x. f (on_to x (standing qs'))) l.1))

-- nodes on the way keep their heads
way_some : (q : Path) → OnTheWay q [] → ⊥
way_some q a = elim a [ ]

pub way : (q p : Path) → OnTheWay q p → (w : Option Node) (v : Node) (m : Meeting) → LeadsAt p v m
    → head_of (standing q (altered_at p w v)) ≡ head_of (standing q v)
way q p (begun {s = s} {ss = ss}) w v m l = ap Some (altered-head s ss w v)
way q p (along {s = s} {qs = qs} {ss = ss} a) w v m l =
    further head_of s ss qs qs w v m (λ e. way_some qs (subst (OnTheWay qs) e a)) l (λ u k. way qs ss a w u m k)

ending-on : (s : Step) (ss : Path) → (ss ≡ [] → ⊥) → ending (s ∷ ss) ≡ ending ss
ending-on s [] n = absurd (n refl)
ending-on s (s' ∷ ss) n = refl

apart_some : (q : Path) → Apart [] q → ⊥
apart_some q a = elim a [ ]

moves_some : (q q' : Path) → Moves [] q q' → ⊥
moves_some q q' a = elim a [ ]

pub elsewhere : (p q : Path) → Apart p q → (w v : Node) (m : Meeting) → LeadsAt p v m → Free m → Labels (ending p) w.head.label
    → standing q (altered_at p (Some w) v) ≡ standing q v
elsewhere p q (parting {s = s} {s' = s'} {ss = ss} {ss' = ss'} d) w v m l f b = parts_here s s' ss ss' w v m d l f b
elsewhere p q (together {s = s} {ss = ss} {ss' = ss'} a) w v m l f b =
    let n : ss ≡ [] → ⊥ = λ e. apart_some ss' (subst (λ x. Apart x ss') e a) in
    let c : Labels (ending ss) w.head.label = subst (λ x. Labels x w.head.label) (ending-on s ss n) b in
    further (λ o. o) s ss ss' ss' (Some w) v m n l (λ u k. elsewhere ss ss' a w u m k f c)

-- where a node was taken out, later items moved down
pub moved : (p q q' : Path) → Moves p q q' → (v u : Node) → LeadsAt p v (stands u) → standing q (altered_at p None v) ≡ standing q' v
moved p q q' (above {j = j} {k = k} {ss = ss} a b) v u l = item-moved j k v u (standing ss) a b l
moved p q q' (below {j = j} {k = k} {ss = ss} a b) v u l = item-kept j k v (standing ss) a b
moved p q q' beside v u l = refl
moved p q q' (aside {j = j} {n = n} {ss = ss}) v u l = name-aside j n v u (standing ss) l
moved p q q' (field {n = n} {s = s} {ss = ss} d) v u l = meet-other (name n) s None v (standing ss) d tt (stands_free (name n) v u l)
moved p q q' (qualifying {n = n} {s = s} {ss = ss} d) v u l = meet-other (qualifier n) s None v (standing ss) d tt (stands_free (qualifier n) v u l)
moved p q q' (earlier {s = s} {s' = s'} {s'' = s''} {ss = ss} {ss' = ss'} d) v u l = meet-beside s s'' s' ss None v l.0 (standing ss') d l.1
moved p q q' (onward {s = s} {ss = ss} {qs = qs} {qs' = qs'} a) v u l =
    further (λ o. o) s ss qs qs' None v (stands u) (λ e. moves_some qs qs' (subst (λ x. Moves x qs qs') e a)) l (λ w k. moved ss qs qs' a w u k)
