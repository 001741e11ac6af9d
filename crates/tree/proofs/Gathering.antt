-- The namespaces of nodes: in order, each once, those that the names use and no others.
use Rattle.std.proofs.Common.{◌≡◌, ◌≤◌, cond, ◌⊎◌, List, [], ◌∷◌, length, sym, refl, ◌∙◌, subst, inl, inr, ⊎_elim, arith}
use mathlib.Core.Logic.{⊎_map}
use Rattle.std.proofs.lemmas.Bool.{cond_both}
use Rattle.names.specs.Order.{Text, Before, same, before, Leading, Ascending}
use Rattle.names.specs.Reserved.{xml_uri}
use Rattle.tree.specs.Tree.{Label, named, item, Nodes, none, more}
use Rattle.tree.specs.Lawful.{inserted, noted, gathered, namespaces}
use Rattle.tree.specs.Rules.{Among, UsedBy, Used}
use Rattle.names.proofs.Ordering.{before-irreflexive, before-transitive}
use Rattle.names.proofs.Deciding.{same_true, same_false, before-decides, before-false}

-- what `inserted` makes of a list that has a first text v, by the three cases
by_case : (P : List Text → Type 0) (u v : Text) (vs : List Text) → (u ≡ v → P (v ∷ vs)) → (Before u v → P (u ∷ v ∷ vs))
    → (Before v u → P (v ∷ inserted u vs)) → P (inserted u (v ∷ vs))
by_case P u v vs f g h =
    cond_both (same u v) _ _ P (λ e. f (same_true u v e))
    (λ e. cond_both (before u v) _ _ P (λ b. g ((before-decides u v).0 b)) (λ b. h (before-false u v e b)))

-- a text put in its place: the order is kept
inserted-leading : (w u : Text) (vs : List Text) → Before w u → Leading w vs → Leading w (inserted u vs)
inserted-leading w u [] b l = b
inserted-leading w u (v ∷ vs) b l = by_case (Leading w) u v vs (λ e. l) (λ c. b) (λ c. l)

pub inserted-ascending : (u : Text) (vs : List Text) → Ascending vs → Ascending (inserted u vs)
inserted-ascending u [] a = (tt, tt)
inserted-ascending u (v ∷ vs) a =
    by_case Ascending u v vs (λ e. a) (λ c. (c, a)) (λ c. (inserted-leading v u vs c a.0, inserted-ascending u vs a.1))

-- it is there, with all that was there, and nothing else is
pub inserted-here : (u : Text) (vs : List Text) → Among u (inserted u vs)
inserted-here u [] = inl refl
inserted-here u (v ∷ vs) = by_case (Among u) u v vs inl (λ c. inl refl) (λ c. inr (inserted-here u vs))

pub inserted-kept : (w u : Text) (vs : List Text) → Among w vs → Among w (inserted u vs)
inserted-kept w u [] h = absurd h
inserted-kept w u (v ∷ vs) h = by_case (Among w) u v vs (λ e. h) (λ c. inr h) (λ c. ⊎_map (λ e. e) (inserted-kept w u vs) h)

pub inserted-only : (w u : Text) (vs : List Text) → Among w (inserted u vs) → (w ≡ u) ⊎ Among w vs
inserted-only w u [] = λ h. h
inserted-only w u (v ∷ vs) =
    by_case (λ xs. Among w xs → (w ≡ u) ⊎ Among w (v ∷ vs)) u v vs (λ e h. inr h) (λ c h. h)
    (λ c. ⊎_elim (λ e. inr (inl e)) (λ h. ⊎_map (λ e. e) inr (inserted-only w u vs h)))

-- the namespace of a name noted, unless it is xml
by_name : (P : List Text → Type 0) (u : Text) (us : List Text) → (u ≡ xml_uri → P us) → ((u ≡ xml_uri → ⊥) → P (inserted u us)) → P (cond (same u xml_uri) us (inserted u us))
by_name P u us f g = cond_both (same u xml_uri) _ _ P (λ e. f (same_true u xml_uri e)) (λ e. g (same_false u xml_uri e))

noted-ascending : (l : Label) (us : List Text) → Ascending us → Ascending (noted l us)
noted-ascending (named n) us a = by_name Ascending n.uri us (λ e. a) (λ e. inserted-ascending n.uri us a)
noted-ascending item us a = a

noted_here : (w : Text) (l : Label) (us : List Text) → UsedBy w l → (w ≡ xml_uri → ⊥) → Among w (noted l us)
noted_here w (named n) us p x =
    by_name (Among w) n.uri us (λ e. absurd (x (p ∙ e))) (λ e. subst (λ u. Among w (inserted u us)) p (inserted-here w us))
noted_here w item us p x = absurd p

noted-kept : (w : Text) (l : Label) (us : List Text) → Among w us → Among w (noted l us)
noted-kept w (named n) us h = by_name (Among w) n.uri us (λ e. h) (λ e. inserted-kept w n.uri us h)
noted-kept w item us h = h

noted-only : (w : Text) (l : Label) (us : List Text) → Among w (noted l us) → (UsedBy w l × (w ≡ xml_uri → ⊥)) ⊎ Among w us
noted-only w (named n) us =
    by_name (λ xs. Among w xs → ((w ≡ n.uri) × (w ≡ xml_uri → ⊥)) ⊎ Among w us) n.uri us (λ e h. inr h)
    (λ e h. ⊎_map (λ p. (p, λ q. e (sym p ∙ q))) (λ k. k) (inserted-only w n.uri us h))
noted-only w item us = inr

-- the namespaces of nodes added to others
gathered-ascending : (ns : Nodes) (us : List Text) → Ascending us → Ascending (gathered ns us)
gathered-ascending none us a = a
gathered-ascending (more h q p r) us a =
    noted-ascending h.label _ (gathered-ascending q _ (gathered-ascending p _ (gathered-ascending r us a)))

gathered-kept : (w : Text) (ns : Nodes) (us : List Text) → Among w us → Among w (gathered ns us)
gathered-kept w none us k = k
gathered-kept w (more h q p r) us k = noted-kept w h.label _ (gathered-kept w q _ (gathered-kept w p _ (gathered-kept w r us k)))

gathered-here : (w : Text) (ns : Nodes) (us : List Text) → Used w ns → (w ≡ xml_uri → ⊥) → Among w (gathered ns us)
gathered-here w none us u x = absurd u
gathered-here w (more h q p r) us (inl u) x = noted_here w h.label _ u x
gathered-here w (more h q p r) us (inr (inl u)) x = noted-kept w h.label _ (gathered-here w q _ u x)
gathered-here w (more h q p r) us (inr (inr (inl u))) x = noted-kept w h.label _ (gathered-kept w q _ (gathered-here w p _ u x))
gathered-here w (more h q p r) us (inr (inr (inr u))) x =
    noted-kept w h.label _ (gathered-kept w q _ (gathered-kept w p _ (gathered-here w r us u x)))

with_first : {A B C : Type 0} → (A → B) → A × C → B × C
with_first f p = (f p.0, p.1)

gathered-only : (w : Text) (ns : Nodes) (us : List Text) → Among w (gathered ns us) → (Used w ns × (w ≡ xml_uri → ⊥)) ⊎ Among w us
gathered-only w none us k = inr k
gathered-only w (more h q p r) us k =
    ⊎_elim (λ u. inl (with_first inl u))
    (λ a. ⊎_elim (λ u. inl (with_first (λ v. inr (inl v)) u))
    (λ b. ⊎_elim (λ u. inl (with_first (λ v. inr (inr (inl v))) u))
    (λ c. ⊎_map (with_first (λ v. inr (inr (inr v)))) (λ d. d) (gathered-only w r us c))
    (gathered-only w p _ b))
    (gathered-only w q _ a))
    (noted-only w h.label _ k)

-- the namespaces of nodes
pub namespaces_ascending : (ns : Nodes) → Ascending (namespaces ns)
unfolding namespaces
namespaces_ascending ns = gathered-ascending ns [] tt

pub namespaces_all : (ns : Nodes) (u : Text) → Used u ns → (u ≡ xml_uri → ⊥) → Among u (namespaces ns)
unfolding namespaces
namespaces_all ns u k x = gathered-here u ns [] k x

pub namespaces_only : (ns : Nodes) (u : Text) → Among u (namespaces ns) → Used u ns × (u ≡ xml_uri → ⊥)
unfolding namespaces
namespaces_only ns u k = ⊎_elim (λ p. p) (λ e. absurd e) (gathered-only u ns [] k)

-- the first of texts in order is before all others
pub ascending_first : (u : Text) (us : List Text) → Ascending (u ∷ us) → (w : Text) → Among w us → Before u w
ascending_first u [] a w h = absurd h
ascending_first u (v ∷ vs) a w h =
    ⊎_elim (λ e. subst (Before u) (sym e) a.0) (λ k. before-transitive u v w a.0 (ascending_first v vs a.1 w k)) h

-- texts in order that are all among others in order are no more than those
pub ascending_fewer : (us vs : List Text) → Ascending us → Ascending vs → ((w : Text) → Among w us → Among w vs) → length us ≤ length vs
ascending_fewer [] vs a b f = omega arith
ascending_fewer (u ∷ us) [] a b f = absurd (f u (inl refl))
ascending_fewer (u ∷ us) (v ∷ vs) a b f =
    ⊎_elim (λ e. let l = ascending_fewer us vs a.1 b.1 (others e) in omega arith)
    (λ k. let l = ascending_fewer (u ∷ us) vs a b.1 (whole k) in omega arith) (f u (inl refl))
  where
    -- where u is v, the others are among the others
    others : u ≡ v → (w : Text) → Among w us → Among w vs
    others e w h =
        ⊎_elim (λ d. absurd (before-irreflexive u (subst (Before u) (d ∙ sym e) (ascending_first u us a w h)))) (λ k. k) (f w (inr h))

    -- else u is behind v, and so are the others
    later : Among u vs → (w : Text) → Among w (u ∷ us) → Before v w
    later k w (inl e) = subst (Before v) (sym e) (ascending_first v vs b u k)
    later k w (inr h) = before-transitive v u w (ascending_first v vs b u k) (ascending_first u us a w h)

    whole : Among u vs → (w : Text) → Among w (u ∷ us) → Among w vs
    whole k w h = ⊎_elim (λ d. absurd (before-irreflexive v (subst (Before v) d (later k w h)))) (λ m. m) (f w h)

-- nodes that use no other namespaces than others have no more
pub namespaces_fewer : (ms ns : Nodes) → ((u : Text) → Used u ms → Used u ns) → length (namespaces ms) ≤ length (namespaces ns)
namespaces_fewer ms ns f =
    ascending_fewer (namespaces ms) (namespaces ns) (namespaces_ascending ms) (namespaces_ascending ns)
    (λ w h. let o = namespaces_only ms w h in namespaces_all ns w (f w o.0) o.1)
