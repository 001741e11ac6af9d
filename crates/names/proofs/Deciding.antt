-- Each test of texts and names answers what it tests for.
use Rattle.std.proofs.Common.{◌≡◌, Bool, true, false, ◌&&◌, eqb, ltb, ◌⊎◌, [], ◌∷◌, Decides, refl, ap, subst, ap₂, inl, inr}
use Rattle.std.proofs.lemmas.Bool.{false≢true}
use Rattle.std.proofs.lemmas.Bool.Decides.{Decides-eqb, Decides-ltb, Decides-and, Decides-or, Decides-like, not_from_Decides, same_from_decides}
use Rattle.std.proofs.ByRecursion.{Decides-by_and}
use Rattle.characters.specs.Classes.{is_xml}
use Rattle.names.specs.Order.{Text, Before, same, before, Name, NameBefore, same_name, name_before}
use Rattle.names.specs.Xml.{XmlText, all_xml}
use Rattle.names.proofs.Ordering.{before-total, name-total, name-irreflexive, same_parts}

-- texts
pub same-decides : (s t : Text) → Decides (same s t) (s ≡ t)
unfolding same
same-decides [] [] = (λ _. refl, λ _. refl)
same-decides [] (d ∷ t) = (λ e. cc, λ e. cc)
same-decides (c ∷ s) [] = (λ e. cc, λ e. cc)
same-decides (c ∷ s) (d ∷ t) =
    Decides-like (eqb c d && same s t) (λ p. ap₂ ◌∷◌ p.0 p.1) (λ e. (cc, cc))
    (Decides-and (eqb c d) (same s t) (Decides-eqb c d) (same-decides s t))

pub before-decides : (s t : Text) → Decides (before s t) (Before s t)
unfolding before
before-decides s [] = (λ e. absurd (false≢true e), λ h. absurd h)
before-decides [] (d ∷ t) = (λ _. tt, λ _. refl)
before-decides (c ∷ s) (d ∷ t) =
    Decides-or (ltb c d) (eqb c d && before s t) (Decides-ltb c d)
    (Decides-and (eqb c d) (before s t) (Decides-eqb c d) (before-decides s t))

pub same_true : (s t : Text) → same s t ≡ true → s ≡ t
same_true s t = (same-decides s t).0

pub same_refl : (s : Text) → same s s ≡ true
same_refl s = (same-decides s s).1 refl

pub same_false : (s t : Text) → same s t ≡ false → s ≡ t → ⊥
same_false s t = not_from_Decides (same s t) (same-decides s t)

-- of three cases the last, where the others are not
third : {P Q R : Type 0} → (P → ⊥) → (Q → ⊥) → P ⊎ (Q ⊎ R) → R
third f g (inl p) = absurd (f p)
third f g (inr (inl q)) = absurd (g q)
third f g (inr (inr r)) = r

-- a text that neither is another nor stands before it stands after it
pub before-false : (s t : Text) → same s t ≡ false → before s t ≡ false → Before t s
before-false s t e f = third (same_false s t e) (not_from_Decides (before s t) (before-decides s t) f) (before-total s t)

-- names
pub same_name-decides : (m n : Name) → Decides (same_name m n) (m ≡ n)
unfolding same_name
same_name-decides m n =
    Decides-like (same m.uri n.uri && same m.local n.local) (λ p. same_parts m n p.0 p.1) (λ e. (ap (λ (x : Name). x.uri) e, ap (λ (x : Name). x.local) e))
    (Decides-and (same m.uri n.uri) (same m.local n.local) (same-decides m.uri n.uri) (same-decides m.local n.local))

pub name_before-decides : (m n : Name) → Decides (name_before m n) (NameBefore m n)
unfolding name_before
name_before-decides m n =
    Decides-or (before m.uri n.uri) (same m.uri n.uri && before m.local n.local) (before-decides m.uri n.uri)
    (Decides-and (same m.uri n.uri) (before m.local n.local) (same-decides m.uri n.uri) (before-decides m.local n.local))

pub same_name-true : (m n : Name) → same_name m n ≡ true → m ≡ n
same_name-true m n = (same_name-decides m n).0

pub same_name-refl : (n : Name) → same_name n n ≡ true
same_name-refl n = (same_name-decides n n).1 refl

pub same_name-false : (m n : Name) → same_name m n ≡ false → m ≡ n → ⊥
same_name-false m n = not_from_Decides (same_name m n) (same_name-decides m n)

pub name_before-true : (m n : Name) → name_before m n ≡ true → NameBefore m n
name_before-true m n = (name_before-decides m n).0

-- a name that neither is another nor stands before it stands after it
pub name_before-false : (m n : Name) → same_name m n ≡ false → name_before m n ≡ false → NameBefore n m
name_before-false m n e f =
    third (same_name-false m n e) (not_from_Decides (name_before m n) (name_before-decides m n) f) (name-total m n)

-- what does not hold has the answer false
pub refuted : {P : Type 0} (r : Bool) → Decides r P → (P → ⊥) → r ≡ false
refuted r d f = same_from_decides r false d (λ e. absurd (false≢true e), λ p. absurd (f p))

-- a name that stands before another is not it
pub before-other : (m n : Name) → NameBefore m n → (same_name m n ≡ false) × (same_name n m ≡ false)
before-other m n b = (
  refuted (same_name m n) (same_name-decides m n) (λ e. name-irreflexive n (subst (λ x. NameBefore x n) e b)),
  refuted (same_name n m) (same_name-decides n m) (λ e. name-irreflexive m (subst (NameBefore m) e b)),
)

-- characters; a test decides that it answers true
pub each-decides : (b : Bool) → Decides b (b ≡ true)
each-decides b = (λ e. e, λ e. e)

pub xml_decides : (t : Text) → Decides (all_xml t) (XmlText t)
unfolding all_xml
xml_decides = Decides-by_and is_xml (λ c. is_xml c ≡ true) all_xml (λ c. each-decides (is_xml c)) refl (λ _ _. refl)
