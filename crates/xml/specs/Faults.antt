-- The faults of a text that is made of items, and the least of them. What an item is, what is wrong with one where it stands and
-- what is lacking at the end are given; a text that is no item is not described.
use Rattle.std.specs.Prelude.{◌≡◌, ℕ, ◌+◌, ◌-◌, ◌<◌, ◌≤◌, [], length, Some, None, Option, ◌≢◌, slice_index}
use Rattle.names.specs.Order.{Text}

module _ {T C : Type 0} (Item : Text → T → Text → Type 0) (after : ℕ → C → T → C) (Wrong : C → T → ℕ → Type 0) (Inner : T → ℕ → ℕ → Type 0) (Lacks : C → ℕ → Type 0) where
  -- whole items lead from the place p with the text s to come, in the context c, to the place e with q to come, in the context d
  pub data Front : ℕ → C → Text → ℕ → C → Text → Type 0 where
    here : {p : ℕ} {c : C} {s : Text} → Front p c s p c s
    next : {p e : ℕ} {c d : C} {s r q : Text} {t : T} → Item s t r → Front (p + (length s - length r)) (after p c t) r e d q → Front p c s e d q

  -- what is wrong with what begins here: how far on, and the number
  pub data At (c : C) (q : Text) : ℕ → ℕ → Type 0 where
    ill_formed : (q ≢ []) → ((t : T) (r : Text) → Item q t r → ⊥) → At c q 0 6
    misplaced : {t : T} {r : Text} {n : ℕ} → Item q t r → Wrong c t n → At c q 0 n
    inside : {t : T} {r : Text} {k n : ℕ} → Item q t r → Inner t k n → At c q k n
    unfinished : {n : ℕ} → q ≡ [] → Lacks c n → At c q 0 n

  module _ (Forbidden : ℕ → Type 0) (c : C) (s : Text) where
    -- a fault of the text, by place and number: a forbidden character, or something wrong behind whole items
    pub data Fault : ℕ → ℕ → Type 0 where
      forbidden : (p : ℕ) → p < length s → Forbidden (slice_index s p) → Fault p 5
      stands : {e : ℕ} {d : C} {q : Text} {k n : ℕ} → Front 0 c s e d q → At d q k n → Fault (e + k) n

-- the least by place, then by number
abbrev pub Least : (ℕ → ℕ → Type 0) → ℕ → ℕ → Type 0
Least F p n = F p n × ((q m : ℕ) → F q m → (p ≤ q) × (q ≤ p → n ≤ m))

-- what a test says of the numbers that it tests for: none holds, or the least that does
abbrev pub Lowest : (ℕ → Type 0) → Option ℕ → Type 0
Lowest P None = (n : ℕ) → P n → ⊥
Lowest P (Some n) = P n × ((m : ℕ) → P m → n ≤ m)

-- the same for places with numbers
abbrev pub First : (ℕ → ℕ → Type 0) → Option (ℕ × ℕ) → Type 0
First F None = (p n : ℕ) → F p n → ⊥
First F (Some x) = Least F x.0 x.1

-- what a reader answers: what it has read, or the place and the number of a refusal
pub data Answer (C : Type 0) : Type 0 where
  taken : C → Answer C
  refused : ℕ → ℕ → Answer C
