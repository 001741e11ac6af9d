-- References: what the scanner takes for one.
use Rattle.std.proofs.Common.{◌≡◌, ℕ, ◌≤◌, Bool, true, false, cond, ◌&&◌, ◌||◌, eqb, leb, [], ◌∷◌, Some, None, codes, Decides, Option, refl, subst, ⊎_elim, arith}
use Rattle.std.specs.List.{AllByRecursion}
use Rattle.std.proofs.lemmas.Bool.{eqb-true, ne_eqb, both_ways, and_parts, or_cases, leb-true}
use Rattle.std.proofs.lemmas.Bool.Decides.{Decides-and}
use Rattle.std.proofs.ByRecursion.{Decides-by_and, All-weaker}
use Rattle.names.specs.Order.{Text, same}
use Rattle.items.specs.Grammar.{is_decimal, is_hexadecimal, number, Digits, Refers, ampersand, less, greater, quote, apostrophe, decimal, hexadecimal}
use Rattle.items.specs.Scan.{all_digits, is_digits, decimal_of, numeric, entity, referred}
use Rattle.items.proofs.Options.{none_some, same-inside}

-- Texts that are the same.
pub same_text : (a b : Text) → same a b ≡ true → a ≡ b
unfolding same
same_text [] [] e = refl
same_text [] (d ∷ b) e = absurd (both_ways false refl e)
same_text (c ∷ a) [] e = absurd (both_ways false refl e)
same_text (c ∷ a) (d ∷ b) e =
    let h = and_parts (eqb c d) (same a b) e in
    let p = eqb-true c d h.0 in
    let q = same_text a b h.1 in
    cc

-- Digits.
decides_digits : (f : ℕ → Bool) (t : Text) → Decides (is_digits f t) (Digits f t)
decides_digits f [] = (λ e. absurd (both_ways false refl e), λ h. absurd h)
decides_digits f (c ∷ t) =
    Decides-and _ _ ((λ e. e), (λ e. e)) (Decides-by_and f (λ d. f d ≡ true) (all_digits f) (λ d. ((λ e. e), (λ e. e))) refl (λ _ _. refl) t)

decimal-range : (c : ℕ) → is_decimal c ≡ true → (48 ≤ c) × (c ≤ 57)
decimal-range c e = let h = and_parts (leb 48 c) (leb c 57) e in (leb-true 48 c h.0, leb-true c 57 h.1)

-- no digit is a semicolon
hexadecimal_plain : (c : ℕ) → is_hexadecimal c ≡ true → eqb c 59 ≡ false
hexadecimal_plain c e =
    ne_eqb c 59
    (⊎_elim (λ d. let h = decimal-range c d in omega arith)
    (λ l. ⊎_elim (λ u. let h = leb-true 65 c (and_parts (leb 65 c) (leb c 70) u).0 in omega arith)
    (λ u. let h = leb-true 97 c (and_parts (leb 97 c) (leb c 102) u).0 in omega arith)
    (or_cases (leb 65 c && leb c 70) (leb 97 c && leb c 102) l))
    (or_cases (is_decimal c) ((leb 65 c && leb c 70) || (leb 97 c && leb c 102)) e))

decimal-plain : (c : ℕ) → is_decimal c ≡ true → eqb c 59 ≡ false
decimal-plain c e = ne_eqb c 59 (let h = decimal-range c e in omega arith)

digits_all : (f : ℕ → Bool) (t : Text) → Digits f t → AllByRecursion (λ d. f d ≡ true) t
digits_all f [] h = absurd h
digits_all f (c ∷ t) h = h

-- a reference goes up to the first semicolon
pub no_semicolon : {r : Text} {c : ℕ} → Refers r c → AllByRecursion (λ d. eqb d 59 ≡ false) r
no_semicolon ampersand = (refl, (refl, (refl, tt)))
no_semicolon less = (refl, (refl, tt))
no_semicolon greater = (refl, (refl, tt))
no_semicolon quote = (refl, (refl, (refl, (refl, tt))))
no_semicolon apostrophe = (refl, (refl, (refl, (refl, tt))))
no_semicolon (decimal {t = t} h) = (refl, All-weaker _ _ decimal-plain t (digits_all is_decimal t h))
no_semicolon (hexadecimal {t = t} h) = (refl, (refl, All-weaker _ _ hexadecimal_plain t (digits_all is_hexadecimal t h)))

-- the scanner takes every reference
decimal-taken : (t : Text) → Digits is_decimal t → numeric t ≡ Some (number 10 0 t)
decimal-taken [] h = absurd h
decimal-taken (c ∷ t) h =
    let k = decimal-range c h.0 in
    rw (ne_eqb c 120 (omega arith), (decides_digits is_decimal (c ∷ t)).1 h)

pub refers_taken : {r : Text} {c : ℕ} → Refers r c → referred r ≡ Some c
unfolding referred same
refers_taken ampersand = refl
refers_taken less = refl
refers_taken greater = refl
refers_taken quote = refl
refers_taken apostrophe = refl
refers_taken (decimal {t = t} h) = decimal-taken t h
refers_taken (hexadecimal {t = t} h) = rw ((decides_digits is_hexadecimal t).1 h)

-- and what it takes is a reference
module _ (c : ℕ) where
  by_test : (P : Type 0) (b : Bool) (n : ℕ) (o : Option ℕ) → (b ≡ true → n ≡ c → P) → (o ≡ Some c → P) → cond b (Some n) o ≡ Some c → P
  by_test P true n o f g e = f refl (same-inside e)
  by_test P false n o f g e = g e

  entity-refers : (t : Text) → entity t ≡ Some c → Refers t c
  entity-refers t =
      word (codes "amp") 38 ampersand (word (codes "lt") 60 less (word (codes "gt") 62 greater (word (codes "quot") 34 quote (word (codes "apos") 39 apostrophe none_some))))
    where
      word : (w : Text) (n : ℕ) → Refers w n → {o : Option ℕ} → (o ≡ Some c → Refers t c) → cond (same t w) (Some n) o ≡ Some c → Refers t c
      word w n r {o} g = by_test (Refers t c) (same t w) n o (λ e k. rw (same_text t w e, ← k) r) g

  decimal-refers : (t : Text) → decimal_of t ≡ Some c → Refers (35 ∷ t) c
  decimal-refers t = by_test _ (is_digits is_decimal t) _ None (λ b k. subst (Refers (35 ∷ t)) k (decimal ((decides_digits is_decimal t).0 b))) none_some

  numeric-refers : (t : Text) → numeric t ≡ Some c → Refers (35 ∷ t) c
  numeric-refers [] e = none_some e
  numeric-refers (d ∷ t) e = go (eqb d 120) refl e
    where
      go : (b : Bool) → eqb d 120 ≡ b → cond b (cond (is_digits is_hexadecimal t) (Some (number 16 0 t)) None) (decimal_of (d ∷ t)) ≡ Some c → Refers (35 ∷ d ∷ t) c
      go true p f =
          rw (eqb-true d 120 p)
          (by_test (Refers (35 ∷ 120 ∷ t) c) (is_digits is_hexadecimal t) _ None (λ b k. subst (Refers (35 ∷ 120 ∷ t)) k (hexadecimal ((decides_digits is_hexadecimal t).0 b))) none_some f)
      go false p f = decimal-refers (d ∷ t) f

pub taken_refers : (r : Text) (c : ℕ) → referred r ≡ Some c → Refers r c
unfolding referred
taken_refers [] c e = none_some e
taken_refers (d ∷ t) c e = go (eqb d 35) refl e
  where
    go : (b : Bool) → eqb d 35 ≡ b → cond b (numeric t) (entity (d ∷ t)) ≡ Some c → Refers (d ∷ t) c
    go true p f = rw (eqb-true d 35 p) (numeric-refers c t f)
    go false p f = entity-refers c (d ∷ t) f
