-- The first reference to what is no character is the least fault inside an item.
use Rattle.std.proofs.Common.{◌≡◌, ℕ, ◌+◌, ◌<◌, ◌≤◌, Bool, true, false, cond, List, [], ◌∷◌, length, Some, sym, refl, ap, ◌∙◌, inl, inr, arith}
use Rattle.std.proofs.lemmas.Bool.{both_ways}
use Rattle.characters.specs.Classes.{is_xml}
use Rattle.names.specs.Order.{Text}
use Rattle.items.specs.Tokens.{Token, references_of}
use Rattle.items.specs.Grammar.{Item}
use Rattle.items.proofs.Widths.{Listed, Rising, references-ascend, reference_within}
use Rattle.xml.specs.Faults.{First}
use Rattle.xml.specs.Namespaces.{Member}
use Rattle.xml.specs.Rules.{Inner, refers, first_reference, inner}
use Rattle.xml.proofs.Whole.{through}

-- one of a list, whole or by its parts
listed : (k c : ℕ) (xs : List (ℕ × ℕ)) → Member (k, c) xs → Listed k c xs
listed k c [] h = h
listed k c (x ∷ xs) (inl e) = inl (ap (λ y. y.0) e, ap (λ y. y.1) e)
listed k c (x ∷ xs) (inr h) = inr (listed k c xs h)

-- the places ascend
rising_tail : (x : ℕ × ℕ) (xs : List (ℕ × ℕ)) → Rising (x ∷ xs) → Rising xs
rising_tail x [] h = tt
rising_tail x (y ∷ xs) h = h.1

rising_past : (k c : ℕ) (x : ℕ × ℕ) (xs : List (ℕ × ℕ)) → Rising (x ∷ xs) → Listed k c xs → x.0 < k
rising_past k c x [] h l = absurd l
rising_past k c x (y ∷ xs) h (inl e) = let a = h.0 in let b = e.0 in omega arith
rising_past k c x (y ∷ xs) h (inr l) = let a = h.0 in let b = rising_past k c y xs h.1 l in omega arith

-- the references of a list to what is no character
data Among (xs : List (ℕ × ℕ)) : ℕ → ℕ → Type 0 where
  among : {k : ℕ} (c : ℕ) → Member (k, c) xs → is_xml c ≡ false → Among xs k 5

module _ (x : ℕ × ℕ) (xs : List (ℕ × ℕ)) where
  later : (k n : ℕ) → Among xs k n → Among (x ∷ xs) k n
  later k n (among c m e) = among c (inr m) e

  earlier : is_xml x.1 ≡ true → (k n : ℕ) → Among (x ∷ xs) k n → Among xs k n
  earlier t k n (among c (inl m) e) = absurd (both_ways (is_xml x.1) (sym (ap (λ y. is_xml y.1) m) ∙ e) t)
  earlier t k n (among c (inr m) e) = among c m e

  from_here : Rising (x ∷ xs) → (k n : ℕ) → Among (x ∷ xs) k n → (x.0 ≤ k) × (k ≤ x.0 → 5 ≤ n)
  from_here r k n (among c (inl m) e) = let q = ap (λ y. y.0) m in (omega (arith, q), λ z. omega arith)
  from_here r k n (among c (inr m) e) = let q = rising_past k c x xs r (listed k c xs m) in (omega arith, λ z. omega arith)

none_among : (k n : ℕ) → Among [] k n → ⊥
none_among k n (among c m e) = m

first-among : (xs : List (ℕ × ℕ)) → Rising xs → First (Among xs) (first_reference xs)
first-among [] r = none_among
first-among (x ∷ xs) r = pick (is_xml x.1) refl (first-among xs (rising_tail x xs r))
  where
    pick : (b : Bool) → is_xml x.1 ≡ b → First (Among xs) (first_reference xs) → First (Among (x ∷ xs)) (cond b (first_reference xs) (Some (x.0, 5)))
    pick true e h = through (Among xs) (Among (x ∷ xs)) (later x xs) (earlier x xs e) _ h
    pick false e h = (among x.1 (inl refl) e, from_here x xs r)

refers_among : (t : Token) (k n : ℕ) → Inner t k n → Among (references_of t) k n
refers_among t k n (refers c m e) = among c m e

among_refers : (t : Token) (k n : ℕ) → Among (references_of t) k n → Inner t k n
among_refers t k n (among c m e) = refers c m e

pub inners : (t : Token) → First (Inner t) (inner t)
inners t = through (Among (references_of t)) (Inner t) (among_refers t) (refers_among t) _ (first-among (references_of t) (references-ascend t))

-- it stands inside
pub within : {s r : Text} {t : Token} {k n : ℕ} → Item s t r → Inner t k n → k + length r < length s
within {s = s} {r = r} {t = t} {k = k} i (refers c m e) = reference_within s r t i k c (listed k c (references_of t) m)
