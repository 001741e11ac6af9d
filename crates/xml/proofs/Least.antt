-- Walks over items: whatever is wrong with a text is wrong where a clean walk ended, or further on.
use Rattle.std.proofs.Common.{◌≡◌, ℕ, ◌+◌, ◌-◌, ◌<◌, ◌≤◌, Bool, true, false, ltb, leb, ◌⊎◌, [], length, Some, None, Option, refl, ap, subst₂, inl, inr, arith}
use Rattle.std.proofs.lemmas.Bool.{ltb-true, ltb-false, leb-true, leb-false}
use Rattle.names.specs.Order.{Text}
use Rattle.xml.specs.Faults.{Front, here, next, At, First}
use Rattle.xml.specs.Reader.{merge}

-- an item is never empty, and a text begins with one item at most
pub record Clear {T : Type 0} (Item : Text → T → Text → Type 0) : Type 0 where
  pub shorter : {s r : Text} {t : T} → Item s t r → length r < length s
  pub once : {s r q : Text} {t u : T} → Item s t r → Item s u q → (t ≡ u) × (r ≡ q)

-- no item stands where no text is
pub no_item : {T A : Type 0} {Item : Text → T → Text → Type 0} → Clear Item → {q r : Text} {t : T} → Item q t r → q ≡ [] → A
no_item clear i e = let h = clear.shorter i in let k = ap length e in absurd (omega arith)

module _ {T C : Type 0} (Item : Text → T → Text → Type 0) (after : ℕ → C → T → C) (Wrong : C → T → ℕ → Type 0) (Inner : T → ℕ → ℕ → Type 0) (Lacks : C → ℕ → Type 0) where
  abbrev pub Fr : ℕ → C → Text → ℕ → C → Text → Type 0
  Fr = Front Item after Wrong Inner Lacks

  abbrev pub Wr : C → Text → ℕ → ℕ → Type 0
  Wr = At Item after Wrong Inner Lacks

  -- a walk on which nothing was wrong
  pub data Clean : ℕ → C → Text → ℕ → C → Text → Type 0 where
    stay : {p : ℕ} {c : C} {s : Text} → Clean p c s p c s
    go : {p e : ℕ} {c d : C} {s r q : Text} {t : T} → ((k n : ℕ) → Wr c s k n → ⊥) → Item s t r
        → Clean (p + (length s - length r)) (after p c t) r e d q → Clean p c s e d q

  pub clean_front : {p e : ℕ} {c d : C} {s q : Text} → Clean p c s e d q → Fr p c s e d q
  clean_front stay = here
  clean_front (go h i w) = next i (clean_front w)

  -- no walk leads back
  pub front_up : {p e : ℕ} {c d : C} {s q : Text} → Fr p c s e d q → p ≤ e
  front_up here = omega arith
  front_up (next i f) = let h = front_up f in omega arith

  module _ (clear : Clear Item) where
    pub front_place : {p e : ℕ} {c d : C} {s q : Text} → Fr p c s e d q → e + length q ≡ p + length s
    front_place here = refl
    front_place (next i f) = let h = front_place f in let k = clear.shorter i in omega arith

    -- whatever is wrong behind whole items is wrong at the end of a clean walk, or behind the item there
    pub beyond : {p e g : ℕ} {c d b : C} {s q r : Text} {k n : ℕ} → Clean p c s e d q → Fr p c s g b r → Wr b r k n
        → (Wr d q k n × (g ≡ e)) ⊎ ((t : T) × (x : Text) × Item q t x × (e + (length q - length x) ≤ g))
    beyond stay here a = inl (a, refl)
    beyond stay (next {r = x} {t = t} i f) a = inr (t, x, i, front_up f)
    beyond (go h i w) here a = absurd (h _ _ a)
    beyond (go {p = p} {c = c} {s = s} h i w) (next {e = g} {d = b} {q = r} j f) a =
        let o = clear.once j i in
        beyond w (subst₂ (λ u y. Fr (p + (length s - length y)) (after p c u) y g b r) o.0 o.1 f) a

    -- whole items lead to the end of the text in one way
    ending : {p e g : ℕ} {c d b : C} {s q r : Text} → Fr p c s e d q → Fr p c s g b r → q ≡ [] → r ≡ [] → d ≡ b
    ending here here u v = refl
    ending here (next i f) u v = no_item clear i u
    ending (next i f) here u v = no_item clear i v
    ending (next {p = p} {c = c} {s = s} i f) (next {e = g} {d = b} {q = r} j k) u v =
        let o = clear.once j i in
        ending f (subst₂ (λ y z. Fr (p + (length s - length z)) (after p c y) z g b r) o.0 o.1 k) u v

    pub front_same : {p e e' : ℕ} {c d d' : C} {s : Text} → Fr p c s e d [] → Fr p c s e' d' [] → d ≡ d'
    front_same f g = ending f g refl refl

-- two families of faults, each with its least: the lesser of the two is the least of both
module _ {F G H : ℕ → ℕ → Type 0} (left : (p n : ℕ) → F p n → H p n) (right : (p n : ℕ) → G p n → H p n) (split : (p n : ℕ) → H p n → F p n ⊎ G p n) where
  pub both : (x y : Option (ℕ × ℕ)) → First F x → First G y → First H (merge x y)
  both None None f g = λ p n h. elim (split p n h) [ inl a ↦ f p n a | inr b ↦ g p n b ]
  both None (Some y) f g = (right _ _ g.0, λ q m h. elim (split q m h) [ inl a ↦ absurd (f q m a) | inr b ↦ g.1 q m b ])
  both (Some x) None f g = (left _ _ f.0, λ q m h. elim (split q m h) [ inl a ↦ f.1 q m a | inr b ↦ absurd (g q m b) ])
  both (Some x) (Some y) f g = go (ltb x.0 y.0) refl (ltb y.0 x.0) refl (leb x.1 y.1) refl
    where
      first : (x.0 ≤ y.0) × (y.0 ≤ x.0 → x.1 ≤ y.1) → First H (Some x)
      first l = (left _ _ f.0, λ q m h. elim (split q m h) [ inl a ↦ f.1 q m a | inr b ↦ let k = g.1 q m b in (omega arith, λ z. omega arith) ])

      second : (y.0 ≤ x.0) × (x.0 ≤ y.0 → y.1 ≤ x.1) → First H (Some y)
      second l = (right _ _ g.0, λ q m h. elim (split q m h) [ inl a ↦ let k = f.1 q m a in (omega arith, λ z. omega arith) | inr b ↦ g.1 q m b ])

      go : (a : Bool) → ltb x.0 y.0 ≡ a → (b : Bool) → ltb y.0 x.0 ≡ b → (c : Bool) → leb x.1 y.1 ≡ c → First H (merge (Some x) (Some y))
      go true p b q c r = rw p (first (let h = ltb-true _ _ p in (omega arith, λ z. omega arith)))
      go false p true q c r = rw (p, q) (second (let h = ltb-true _ _ q in (omega arith, λ z. omega arith)))
      go false p false q true r = rw (p, q, r) (first (let h = ltb-false _ _ q in let k = leb-true _ _ r in (omega arith, λ z. omega arith)))
      go false p false q false r = rw (p, q, r) (second (let h = ltb-false _ _ p in let k = leb-false _ _ r in (omega arith, λ z. omega arith)))
