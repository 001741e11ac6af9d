-- A reader: it walks over the items, looks at each character besides, and answers the lesser of the two faults.
use Rattle.std.specs.Prelude.{ℕ, zero, suc, ◌+◌, ◌-◌, Bool, true, false, cond, [], ◌∷◌, length, Some, None, Option, nat_le, nat_lt}
use Rattle.names.specs.Order.{Text}
use Rattle.xml.specs.Faults.{Answer, taken, refused}

-- the lesser of two faults
abbrev pub is_lesser : ℕ × ℕ → ℕ × ℕ → Bool
is_lesser x y = cond (nat_lt x.0 y.0) true (cond (nat_lt y.0 x.0) false (nat_le x.1 y.1))

abbrev pub merge : Option (ℕ × ℕ) → Option (ℕ × ℕ) → Option (ℕ × ℕ)
merge None y = y
merge (Some x) None = Some x
merge (Some x) (Some y) = cond (is_lesser x y) (Some x) (Some y)

-- the first character that fails a test, counted from p
abbrev pub first_bad : (ℕ → Bool) → ℕ → Text → Option (ℕ × ℕ)
first_bad bad p [] = None
first_bad bad p (c ∷ s) = cond (bad c) (Some (p, 5)) (first_bad bad (p + 1) s)

-- where a walk ended, and what was wrong there
pub record Halt (C : Type 0) : Type 0 where
  pub place : ℕ
  pub context : C
  pub rest : Text
  pub wrong : Option (ℕ × ℕ)

module _ {T C : Type 0} (item : Text → Option (T × Text)) (after : ℕ → C → T → C) (check : C → T → Option ℕ) (inner : T → Option (ℕ × ℕ)) (lacks : C → Option ℕ) where
  abbrev pub at_once : Option ℕ → Option (ℕ × ℕ)
  at_once None = None
  at_once (Some n) = Some (0, n)

  -- what is wrong with what begins here
  abbrev pub judged : C → Option (T × Text) → Option (ℕ × ℕ)
  judged c None = Some (0, 6)
  judged c (Some x) = merge (at_once (check c x.0)) (inner x.0)

  abbrev pub judge : C → Text → Option (ℕ × ℕ)
  judge c [] = at_once (lacks c)
  judge c (x ∷ q) = judged c (item (x ∷ q))

  abbrev pub halt : ℕ → C → Text → Halt C
  halt p c q = record { place = p; context = c; rest = q; wrong = judge c q }

  -- on to the next item, if nothing is wrong
  abbrev pub carry : Halt C → Option (ℕ × ℕ) → Option (T × Text) → (T → Text → Halt C) → Halt C
  carry h (Some x) i f = h
  carry h None None f = h
  carry h None (Some x) f = f x.0 x.1

  unfoldable pub walk : ℕ → ℕ → C → Text → Halt C
  walk zero p c q = halt p c q
  walk (suc k) p c q = carry (halt p c q) (judge c q) (item q) (λ t r. walk k (p + (length q - length r)) (after p c t) r)

  abbrev pub placed : ℕ → Option (ℕ × ℕ) → Option (ℕ × ℕ)
  placed p None = None
  placed p (Some x) = Some (p + x.0, x.1)

  abbrev pub answer : C → Option (ℕ × ℕ) → Answer C
  answer c None = taken c
  answer c (Some x) = refused x.0 x.1

  module _ (bad : ℕ → Bool) where
    abbrev pub answer_of : Text → Halt C → Answer C
    answer_of s h = answer h.context (merge (placed h.place h.wrong) (first_bad bad 0 s))

    abbrev pub read : C → Text → Answer C
    read c s = answer_of s (walk (length s) 0 c s)
