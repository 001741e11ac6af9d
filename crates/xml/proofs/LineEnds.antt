-- Where the characters of a text stood before its line ends were made one: the places ascend, so the least fault stays the least.
use Rattle.std.proofs.Common.{◌≡◌, ℕ, zero, suc, ◌+◌, ◌<◌, ◌≤◌, Bool, true, false, cond, ◌&&◌, eqb, List, [], ◌∷◌, length, get_or, refl, ap, ⊎_elim, arith}
use Rattle.std.proofs.lemmas.Bool.{cases_lt}
use Rattle.names.specs.Order.{Text}
use Rattle.xml.specs.Faults.{Least}
use Rattle.xml.specs.Reading.{unix_from, unixed, origins_from, origin, UnixFault, MarkupFault, of}

-- numbers from k on that ascend, with n behind the first
abbrev Rises : ℕ → List ℕ → ℕ → Type 0
Rises k xs n = ((i : ℕ) → i ≤ n → k ≤ get_or xs i 0) × ((i j : ℕ) → i < j → j ≤ n → get_or xs i 0 < get_or xs j 0)

one : (k : ℕ) → Rises k (k ∷ []) 0
one k = (from, λ i j h l. absurd (omega arith))
  where
    from : (i : ℕ) → i ≤ 0 → k ≤ get_or (k ∷ []) i 0
    from zero h = omega arith
    from (suc i) h = absurd (omega arith)

more : (k : ℕ) (xs : List ℕ) (n : ℕ) → Rises (k + 1) xs n → Rises k (k ∷ xs) (suc n)
more k xs n r = (from, up)
  where
    from : (i : ℕ) → i ≤ suc n → k ≤ get_or (k ∷ xs) i 0
    from zero h = omega arith
    from (suc i) h = let a = r.0 i (omega arith) in omega arith

    up : (i j : ℕ) → i < j → j ≤ suc n → get_or (k ∷ xs) i 0 < get_or (k ∷ xs) j 0
    up i zero h l = absurd (omega arith)
    up zero (suc j) h l = let a = r.0 j (omega arith) in omega arith
    up (suc i) (suc j) h l = r.1 i j (omega arith) (omega arith)

past : (k : ℕ) (xs : List ℕ) (n : ℕ) → Rises (k + 1) xs n → Rises k xs n
past k xs n r = (λ i h. let a = r.0 i h in omega arith, r.1)

rises : (b : Bool) (k : ℕ) (s : Text) → Rises k (origins_from b k s) (length (unix_from b s))
rises b k [] = one k
rises b k (c ∷ s) = pick (eqb c 13) (b && eqb c 10) (rises true (k + 1) s) (rises false (k + 1) s)
  where
    xs : Bool → List ℕ
    xs a = origins_from a (k + 1) s

    us : Bool → Text
    us a = unix_from a s

    pick : (u v : Bool) → Rises (k + 1) (xs true) (length (us true)) → Rises (k + 1) (xs false) (length (us false))
        → Rises k (cond u (k ∷ xs true) (cond v (xs false) (k ∷ xs false))) (length (cond u (10 ∷ us true) (cond v (us false) (c ∷ us false))))
    pick true v f g = more k _ _ f
    pick false true f g = past k _ _ g
    pick false false f g = more k _ _ g

pub origin-rises : (s : Text) (i j : ℕ) → i < j → j ≤ length (unixed s) → origin s i < origin s j
unfolding unixed origin
origin-rises s = (rises false 0 s).1

-- the least fault before and after
module _ (s : Text) (placed : (i n : ℕ) → UnixFault (unixed s) i n → i ≤ length (unixed s)) where
  keeps : (i j : ℕ) → i ≤ j → j ≤ length (unixed s) → origin s i ≤ origin s j
  keeps i j h l =
      ⊎_elim (λ a. let r = origin-rises s i j a l in omega arith)
      (λ (a : j ≤ i). let e : i ≡ j = omega arith in let f = ap (origin s) e in omega arith) (cases_lt i j)

  reflects : (i j : ℕ) → origin s i ≤ origin s j → i ≤ length (unixed s) → i ≤ j
  reflects i j h l = ⊎_elim (λ a. let r = origin-rises s j i a l in absurd (omega arith)) (λ a. a) (cases_lt j i)

  pub least_onto : {i n : ℕ} → Least (UnixFault (unixed s)) i n → Least (MarkupFault s) (origin s i) n
  least_onto {i = i} {n = n} h = (of h.0, least)
    where
      least : (q m : ℕ) → MarkupFault s q m → (origin s i ≤ q) × (q ≤ origin s i → n ≤ m)
      least q m (of {i = j} f) =
          let a = h.1 j m f in
          let l = placed j m f in
          (keeps i j a.0 l, λ z. a.1 (reflects j i z l))

  pub least_back : {p n : ℕ} → Least (MarkupFault s) p n → (i : ℕ) × (p ≡ origin s i) × Least (UnixFault (unixed s)) i n
  least_back {n = n} h = back h.0 h.1
    where
      back : {p : ℕ} → MarkupFault s p n → ((q m : ℕ) → MarkupFault s q m → (p ≤ q) × (q ≤ p → n ≤ m))
          → (i : ℕ) × (p ≡ origin s i) × Least (UnixFault (unixed s)) i n
      back (of {i = i} f) k =
          (i, refl, (f, λ j m g. let a = k (origin s j) m (of g) in (reflects i j a.0 (placed i n f), λ z. a.1 (keeps j i z (placed i n f)))))

-- there is no fault before exactly when there is none after
pub none_onto : (s : Text) → ((i n : ℕ) → UnixFault (unixed s) i n → ⊥) → (p n : ℕ) → MarkupFault s p n → ⊥
none_onto s h p n (of f) = h _ n f

pub none_back : (s : Text) → ((p n : ℕ) → MarkupFault s p n → ⊥) → (i n : ℕ) → UnixFault (unixed s) i n → ⊥
none_back s h i n f = h (origin s i) n (of f)
