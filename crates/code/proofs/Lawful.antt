-- What follows from the laws of a text code alone.
use Rattle.std.proofs.Common.{◌≡◌, ℕ, ◌≤◌, List, ◌++◌, length, take, sym, refl, ap, ◌∙◌, ⊎_elim, arith}
use Rattle.std.proofs.lemmas.List.{take_at, take-take}
use Rattle.std.proofs.lemmas.Bool.{cases_lt}
use Rattle.code.specs.Codes.{Scalar, Begins, Laws}

-- of two that come first the shorter begins the longer
shorter : (enc : ℕ → List ℕ) (v w : ℕ) (bs : List ℕ) → length (enc v) ≤ length (enc w) → Begins enc v bs → Begins enc w bs → Begins enc v (enc w)
shorter enc v w bs h p q = ap (take (length (enc v))) (sym q) ∙ (take-take (length (enc v)) (length (enc w)) bs h ∙ p)

-- at most one character's bytes come first
pub decode_unique : {enc : ℕ → List ℕ} {unit : ℕ} → Laws enc unit → (v w : ℕ) (bs : List ℕ) → Scalar v → Scalar w → Begins enc v bs → Begins enc w bs → v ≡ w
decode_unique {enc} l v w bs s t p q =
    ⊎_elim
    (λ h. l.apart v w s t (shorter enc v w bs (omega arith) p q))
    (λ h. sym (l.apart w v t s (shorter enc w v bs h q p)))
    (cases_lt (length (enc v)) (length (enc w)))

-- the bytes of a character come first in what begins with them
pub begins_own : (enc : ℕ → List ℕ) (v : ℕ) (rest : List ℕ) → Begins enc v (enc v ++ rest)
begins_own enc v rest = take_at (enc v) rest (length (enc v)) refl

-- four bytes tell as much as all
pub first-four : {enc : ℕ → List ℕ} {unit : ℕ} → Laws enc unit → (v : ℕ) (bs : List ℕ) → Scalar v → take (length (enc v)) (take 4 bs) ≡ take (length (enc v)) bs
first-four {enc} l v bs s = take-take (length (enc v)) 4 bs (l.few v s)

-- the unit is not 0
pub unit_some : {enc : ℕ → List ℕ} {unit : ℕ} → Laws enc unit → 1 ≤ unit
unit_some {enc} {unit} l = omega (arith, l.some 32 (omega arith, λ h. omega arith), l.space)
