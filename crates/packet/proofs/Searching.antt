-- What a search through the numbers from a up to b finds.
use Rattle.std.proofs.Common.{◌≡◌, ℕ, ◌+◌, ◌-◌, ◌<◌, ◌≤◌, Some, None, Option, MatchOption, sym, ◌∙◌, subst, arith}
use Rattle.std.specs.Prelude.{IsTrue, IfSome, IsSomeAnd}
use Rattle.std.proofs.lemmas.Iterator.Adapters.{option_map_id}
use Rattle.std.specs.Iterator.Runs.{Run, SomeRun, AllItemsGive, IsFirstToGive, ItemsCountUp}
use denote.Param.Members.{Mut, Called}

module _ {S B F : Type 0} {steps : S → Option ℕ → S → Type 0} (g : Mut F (ℕ × Unit {0}) (Option B)) (f : F) (s : S) (a b : ℕ) (P : ℕ → Option B → Type 0) (numbers : (p : Run steps) → p.from ≡ s → ItemsCountUp p a b) (calls : (x : ℕ) (r : Option B) (h : F) → Called g f (x, tt) r h → (h ≡ f) × P x r) where
  -- each call leaves the closure as it was
  keeps : (c : ℕ × Unit {0}) (r : Option B) (h : F) → Called g f c r h → h ≡ f
  keeps (x, tt) r h k = (calls x r h k).0

  -- P gives something of one of the numbers, or nothing of any
  pub searched : (result : Option B) → SomeRun steps s (λ p. MatchOption result (IsTrue p.whole × AllItemsGive p g f None) (λ y. (i : ℕ) × (i < p.len) × (p.len ≡ i + 1) × IsFirstToGive p g f (Some y) None i)) → MatchOption result ((q : ℕ) → a ≤ q → q < b → P q None) (λ y. (q : ℕ) × (a ≤ q) × (q < b) × P q (Some y))
  searched None (p, from, x) = λ q l h.
      let up = numbers p from in
      let long = up.1 x.0 in
      let at : p.at (q - a) ≡ Some (a + (q - a)) = sym (option_map_id (p.at (q - a))) ∙ up.3 (q - a) (omega arith) in
      let here : IfSome (Some (a + (q - a))) (λ x. Called g f (x, tt) None f) = subst (λ o. IfSome o (λ x. Called g f (x, tt) None f)) at (x.1 keeps (q - a)) in
      let same : a + (q - a) ≡ q = omega arith in
      subst (λ (n : ℕ). P n None) same (calls (a + (q - a)) None f here).1
  searched (Some y) (p, from, x) = by (p.at x.0) ((numbers p from).2 x.0) (x.3 keeps).0
    where
      by : (o : Option ℕ) → IfSome o (λ z. (z ≡ a + x.0) × (z < b)) → IsSomeAnd o (λ z. Called g f (z, tt) (Some y) f) → (q : ℕ) × (a ≤ q) × (q < b) × P q (Some y)
      by (Some z) e k = (z, omega arith, e.1, (calls z (Some y) f k).1)
      by None e k = absurd k
