-- The end of a header: further characters, and `?>`.
use Rattle.std.proofs.Common.{◌≡◌, ℕ, zero, suc, ◌+◌, ◌-◌, ◌<◌, ◌≤◌, Bool, true, false, eqb, ◌≢◌, ◌⊎◌, List, [], ◌∷◌, ◌++◌, length, get_or, codes, refl, ap, subst, inl, inr, ⊎_elim, arith}
use Rattle.std.proofs.lemmas.Bool.{eqb-true, false≢true}
use Rattle.packet.specs.Texts.{Plain}
use Rattle.packet.specs.Parts.{Closing}

-- Plain, character by character. Where p is true a `?` stands just before
abbrev Fine : Bool → List ℕ → Type 0
Fine p [] = Unit {0}
Fine p (c ∷ f) = (p ≡ true → c ≡ 62 → ⊥) × (c ≢ 60) × Fine (eqb c 63) f

-- what is before `?>`, or `>` alone behind a `?`
abbrev Split : ℕ → Bool → List ℕ → Type 0
Split n p t = ((f : List ℕ) × Fine p f × (length f + 1 ≤ n) × (t ≡ f ++ (63 ∷ 62 ∷ []))) ⊎ ((p ≡ true) × (t ≡ 62 ∷ []))

split : (n : ℕ) (p : Bool) (t : List ℕ) → Closing n p t → Split n p t
split n p [] x = absurd x
split n p (c ∷ t) (inl x) = let e = x.1 in let o = x.2 in inr (x.0, cc)
split n p (c ∷ t) (inr x) = more (split (n - 1) (eqb c 63) t x.3)
  where
    more : Split (n - 1) (eqb c 63) t → Split n p (c ∷ t)
    more (inl y) = inl (c ∷ y.0, (x.0, x.2, y.1), omega arith, ap (λ s. c ∷ s) y.3)
    more (inr y) = let e = eqb-true c 63 y.0 in let o = y.1 in inl ([], tt, omega arith, cc)

join : (n : ℕ) (p : Bool) (f : List ℕ) → Fine p f → length f + 1 ≤ n → Closing n p (f ++ (63 ∷ 62 ∷ []))
join n p [] x h = inr ((λ _ e. omega arith), omega arith, (λ e. omega arith), inl (refl, refl, refl))
join n p (c ∷ f) x h = inr (x.0, omega arith, x.1, join (n - 1) (eqb c 63) f x.2 (omega arith))

-- Fine is Plain: no `<`, no `?>`, and back
no_less : (p : Bool) (f : List ℕ) → Fine p f → (i : ℕ) → i < length f → get_or f i 0 ≢ 60
no_less p [] x i h = omega arith
no_less p (c ∷ f) x zero h = x.1
no_less p (c ∷ f) x (suc i) h = no_less (eqb c 63) f x.2 i (omega arith)

no_close : (p : Bool) (ys zs : List ℕ) → Fine p (ys ++ (63 ∷ 62 ∷ zs)) → ⊥
no_close p [] zs x = x.2.0 refl refl
no_close p (y ∷ ys) zs x = no_close (eqb y 63) ys zs x.2

-- where p is true, f may not begin with `>`
fine : (p : Bool) (f : List ℕ) → Plain f → (p ≡ true → (zs : List ℕ) → f ≡ 62 ∷ zs → ⊥) → Fine p f
fine p [] l h = tt
fine p (c ∷ f) l h = (
  (λ pt e. h pt f (ap (λ d. d ∷ f) e)),
  l.0 0 (omega arith),
  fine (eqb c 63) f ((λ i b. l.0 (suc i) (omega arith)), (λ ys zs e. l.1 (c ∷ ys) zs (ap (λ s. c ∷ s) e)))
      (λ q zs e. let d = eqb-true c 63 q in l.1 [] zs (cc)),
)

pub closing_from : (t : List ℕ) → Closing 129 false t → (f : List ℕ) × (length f ≤ 128) × Plain f × (t ≡ f ++ codes "?>")
closing_from t x = ⊎_elim
    (λ y. (y.0, omega arith, (no_less false y.0 y.1, (λ ys zs e. no_close false ys zs (subst (Fine false) e y.1))), y.3))
    (λ y. absurd (false≢true y.0))
    (split 129 false t x)

pub closing_to : (f : List ℕ) → length f ≤ 128 → Plain f → Closing 129 false (f ++ codes "?>")
closing_to f h l = join 129 false f (fine false f l (λ e. absurd (false≢true e))) (omega arith)
