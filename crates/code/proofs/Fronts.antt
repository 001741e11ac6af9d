-- The first few elements of a list, one by one.
use Rattle.std.proofs.Common.{◌≡◌, ℕ, ◌≤◌, List, [], ◌∷◌, length, get_or, take, refl, arith}

pub front1 : (bs : List ℕ) → 1 ≤ length bs → take 1 bs ≡ get_or bs 0 0 ∷ []
front1 [] h = absurd (omega arith)
front1 (a ∷ bs) h = refl

pub front2 : (bs : List ℕ) → 2 ≤ length bs → take 2 bs ≡ get_or bs 0 0 ∷ get_or bs 1 0 ∷ []
front2 [] h = absurd (omega arith)
front2 (a ∷ []) h = absurd (omega arith)
front2 (a ∷ b ∷ bs) h = refl

pub front3 : (bs : List ℕ) → 3 ≤ length bs → take 3 bs ≡ get_or bs 0 0 ∷ get_or bs 1 0 ∷ get_or bs 2 0 ∷ []
front3 [] h = absurd (omega arith)
front3 (a ∷ []) h = absurd (omega arith)
front3 (a ∷ b ∷ []) h = absurd (omega arith)
front3 (a ∷ b ∷ c ∷ bs) h = refl

pub front4 : (bs : List ℕ) → 4 ≤ length bs → take 4 bs ≡ get_or bs 0 0 ∷ get_or bs 1 0 ∷ get_or bs 2 0 ∷ get_or bs 3 0 ∷ []
front4 [] h = absurd (omega arith)
front4 (a ∷ []) h = absurd (omega arith)
front4 (a ∷ b ∷ []) h = absurd (omega arith)
front4 (a ∷ b ∷ c ∷ []) h = absurd (omega arith)
front4 (a ∷ b ∷ c ∷ d ∷ bs) h = refl
