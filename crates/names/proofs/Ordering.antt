-- The order of texts and of names: no text before itself, and of two texts that differ one is before the other.
use Rattle.std.proofs.Common.{◌≡◌, ◌<◌, ◌⊎◌, [], ◌∷◌, sym, refl, ◌∙◌, subst, ap₂, inl, inr, ⊎_elim, arith}
use Rattle.std.proofs.lemmas.Bool.{cases_order}
use Rattle.names.specs.Order.{Text, Before, Name, NameBefore}

-- what is before another by its first part or, the first parts being one, by the second
chained : {A : Type 0} (R : A → A → Type 0) {S T U : Type 0} (a b c : A) → (R a b → R b c → R a c) → (S → T → U)
    → R a b ⊎ ((a ≡ b) × S) → R b c ⊎ ((b ≡ c) × T) → R a c ⊎ ((a ≡ c) × U)
chained R a b c f g (inl p) (inl q) = inl (f p q)
chained R a b c f g (inl p) (inr q) = inl (subst (R a) q.0 p)
chained R a b c f g (inr p) (inl q) = inl (subst (λ x. R x c) (sym p.0) q)
chained R a b c f g (inr p) (inr q) = inr (p.0 ∙ q.0, g p.1 q.1)

compared : {A : Type 0} (R : A → A → Type 0) {P S T : Type 0} (a b : A) → (a ≡ b) ⊎ (R a b ⊎ R b a) → P ⊎ (S ⊎ T)
    → ((a ≡ b) × P) ⊎ ((R a b ⊎ ((a ≡ b) × S)) ⊎ (R b a ⊎ ((b ≡ a) × T)))
compared R a b (inl e) (inl p) = inl (e, p)
compared R a b (inl e) (inr (inl s)) = inr (inl (inr (e, s)))
compared R a b (inl e) (inr (inr t)) = inr (inr (inr (sym e, t)))
compared R a b (inr (inl h)) o = inr (inl (inl h))
compared R a b (inr (inr h)) o = inr (inr (inl h))

-- texts
pub before-irreflexive : (s : Text) → Before s s → ⊥
before-irreflexive [] h = h
before-irreflexive (c ∷ s) h = ⊎_elim (λ (l : c < c). omega arith) (λ p. before-irreflexive s p.1) h

pub before-transitive : (s t u : Text) → Before s t → Before t u → Before s u
before-transitive s t [] p q = absurd q
before-transitive s [] (e ∷ u) p q = absurd p
before-transitive [] (d ∷ t) (e ∷ u) p q = tt
before-transitive (c ∷ s) (d ∷ t) (e ∷ u) p q = chained ◌<◌ c d e (λ h k. omega arith) (before-transitive s t u) p q

pub before-total : (s t : Text) → (s ≡ t) ⊎ (Before s t ⊎ Before t s)
before-total [] [] = inl refl
before-total [] (d ∷ t) = inr (inl tt)
before-total (c ∷ s) [] = inr (inr tt)
before-total (c ∷ s) (d ∷ t) = ⊎_elim (λ p. inl (ap₂ ◌∷◌ p.0 p.1)) inr (compared ◌<◌ c d (cases_order c d) (before-total s t))

pub before-asymmetric : (s t : Text) → Before s t → Before t s → ⊥
before-asymmetric s t p q = before-irreflexive s (before-transitive s t s p q)

-- names
pub name-irreflexive : (n : Name) → NameBefore n n → ⊥
name-irreflexive n h = ⊎_elim (before-irreflexive n.uri) (λ p. before-irreflexive n.local p.1) h

pub name-transitive : (l m n : Name) → NameBefore l m → NameBefore m n → NameBefore l n
name-transitive l m n p q =
    chained Before l.uri m.uri n.uri (before-transitive l.uri m.uri n.uri) (before-transitive l.local m.local n.local) p q

-- names that agree in both parts are one
pub same_parts : (m n : Name) → m.uri ≡ n.uri → m.local ≡ n.local → m ≡ n
same_parts m n p q = λ i. record { uri = p i; local = q i }

pub name-total : (m n : Name) → (m ≡ n) ⊎ (NameBefore m n ⊎ NameBefore n m)
name-total m n =
    ⊎_elim (λ p. inl (same_parts m n p.0 p.1)) inr
    (compared Before m.uri n.uri (before-total m.uri n.uri) (before-total m.local n.local))

pub name-asymmetric : (m n : Name) → NameBefore m n → NameBefore n m → ⊥
name-asymmetric m n p q = name-irreflexive m (name-transitive m n m p q)
