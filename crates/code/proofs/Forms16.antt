-- Which bytes UTF-16 reads as a character, and which it does not.
use Rattle.std.proofs.Common.{◌≡◌, ℕ, ◌<◌, ◌≤◌, List, [], ◌∷◌, ◌++◌, length, get_or, take, drop, Some, None, sym, refl, ap, ◌∙◌, subst, ap₂, ⊎_elim, arith}
use Rattle.code.specs.Codes.{Scalar, Begins}
use Rattle.code.specs.Utf16.{Order, Surrogates, leading, trailing, enc16}
use Rattle.code.specs.Utf16Laws.{enc16-one, enc16-two, IsOne, IsTwo, SecondToo, begins16, reads16, size-two}
use Rattle.code.proofs.Fronts.{front2}

both : (x : List ℕ) → length x ≡ 2 → get_or x 0 0 ∷ get_or x 1 0 ∷ [] ≡ x
both [] h = absurd (omega arith)
both (a ∷ []) h = absurd (omega arith)
both (a ∷ b ∷ []) h = refl
both (a ∷ b ∷ c ∷ x) h = absurd (omega arith)

third : (bs : List ℕ) → 4 ≤ length bs → take 2 (drop 2 bs) ≡ get_or bs 2 0 ∷ get_or bs 3 0 ∷ []
third [] h = absurd (omega arith)
third (a ∷ []) h = absurd (omega arith)
third (a ∷ b ∷ bs) h = front2 bs (omega arith)

joined : (bs : List ℕ) → take 4 bs ≡ take 2 bs ++ take 2 (drop 2 bs)
joined [] = refl
joined (a ∷ []) = refl
joined (a ∷ b ∷ bs) = refl

module _ (pair : ℕ → List ℕ) (o : Order pair) where
  -- what encode writes
  pub two_wrote : (v : ℕ) (x y : List ℕ) → 65536 ≤ v → x ≡ pair (leading v) → y ≡ pair (trailing v) → get_or x 0 0 ∷ get_or x 1 0 ∷ get_or y 0 0 ∷ get_or y 1 0 ∷ [] ≡ enc16 pair v
  two_wrote v x y h d e =
      ap₂ (λ (s t : List ℕ). s ++ t) (both x (ap length d ∙ o.two (leading v)) ∙ d) (both y (ap length e ∙ o.two (trailing v)) ∙ e) ∙ sym (enc16-two pair v h)

  -- the first unit is a, and the second, by their two bytes
  abbrev pub First : List ℕ → ℕ → Type 0
  First bs a = (u : ℕ) × (2 ≤ length bs) × (pair u ≡ get_or bs 0 0 ∷ get_or bs 1 0 ∷ []) × (a ≡ u) × (a < 65536)

  abbrev pub Second : List ℕ → ℕ → Type 0
  Second bs a = (u : ℕ) × (4 ≤ length bs) × (pair u ≡ get_or bs 2 0 ∷ get_or bs 3 0 ∷ []) × (a ≡ u) × (a < 65536)

  first : (bs : List ℕ) (a : ℕ) → First bs a → take 2 bs ≡ pair a
  first bs a f = front2 bs f.1 ∙ (sym f.2 ∙ ap pair (sym f.3))

  second : (bs : List ℕ) (a : ℕ) → Second bs a → take 2 (drop 2 bs) ≡ pair a
  second bs a f = third bs f.1 ∙ (sym f.2 ∙ ap pair (sym f.3))

  -- the bytes of v come first, and are n
  abbrev pub Found : List ℕ → ℕ → ℕ → Type 0
  Found bs v n = Begins (enc16 pair) v bs × (n ≡ length (enc16 pair v))

  pub one_found : (bs : List ℕ) (a : ℕ) → First bs a → Found bs a 2
  one_found bs a f =
      let P : List ℕ → Type 0 = λ l. (take (length l) bs ≡ l) × (2 ≡ length l) in
      subst P (sym (enc16-one pair a f.4)) (rw (o.two a) (first bs a f), sym (o.two a))

  pub two-found : (bs : List ℕ) (a b v : ℕ) → First bs a → Second bs b → Surrogates a b (Some v) → Found bs v 4
  two-found bs a b v f s p =
      let P : List ℕ → Type 0 = λ l. (take (length l) bs ≡ l) × (4 ≡ length l) in
      let m = size-two pair o (leading v) (trailing v) in
      subst P (sym (enc16-two pair v p.0))
      (rw m (joined bs ∙ ap₂ (λ (s t : List ℕ). s ++ t) (first bs a f ∙ ap pair p.2) (second bs b s ∙ ap pair p.3)), sym m)

  -- no character's bytes come first
  abbrev pub NoneFirst : List ℕ → Type 0
  NoneFirst bs = (v : ℕ) → Scalar v → Begins (enc16 pair) v bs → ⊥

  pub one-cut : (bs : List ℕ) → length bs < 2 → NoneFirst bs
  one-cut bs h v s b = ⊎_elim (λ (r : IsOne pair bs v). omega arith) (λ (r : IsTwo pair bs v). omega arith) (begins16 pair o bs v b)

  -- a is no scalar value, so a character would have a second unit
  two : (bs : List ℕ) (a : ℕ) → First bs a → (Scalar a → ⊥) → (v : ℕ) → Scalar v → Begins (enc16 pair) v bs → SecondToo pair bs a v
  two bs a f n v s b = ⊎_elim (λ (d : a ≡ v). absurd (n (rw d s))) (λ (r : SecondToo pair bs a v). r) (reads16 pair o bs a v f.4 (first bs a f) s b)

  pub two-cut : (bs : List ℕ) (a : ℕ) → First bs a → (Scalar a → ⊥) → length bs < 4 → NoneFirst bs
  two-cut bs a f n k v s b = let r = two bs a f n v s b in omega arith

  pub two-other : (bs : List ℕ) (a b : ℕ) → First bs a → Second bs b → (Scalar a → ⊥) → Surrogates a b None → NoneFirst bs
  two-other bs a b f d n k v s w =
      let r = two bs a f n v s w in
      let t : b ≡ trailing v = o.apart b (trailing v) d.4 (omega arith) (sym (second bs b d) ∙ r.3) in
      k v r.0 s.0 r.2 t
