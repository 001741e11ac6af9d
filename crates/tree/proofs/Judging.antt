-- What is known when a call is not refused.
use Rattle.std.proofs.Common.{◌≡◌, ℕ, Bool, true, false, cond, not, List, [], ◌∷◌, Some, None, Ok, Err, Option, Result, refl, ap, ◌∙◌}
use Rattle.std.proofs.lemmas.Bool.{not-false, or_parts}
use Rattle.tree.specs.declared.failure.TreeFault.{TreeFault}
use Rattle.tree.specs.Tree.{Node, Tree}
use Rattle.tree.specs.Paths.{Step, Path, is_name, is_wrong, first_wrong, walk, walked, lookup, top}
use Rattle.tree.specs.Calls.{refusal, judged, upon}
use Rattle.names.proofs.Never.{never}

-- a refusal that was not due
pub judged-on : {A : Type 0} (b : Bool) (f : TreeFault) (fs : List (Option TreeFault)) (a a' : A) → judged (refusal b f ∷ fs) a ≡ Ok a'
    → (b ≡ false) × (judged fs a ≡ Ok a')
judged-on true f fs a a' e = never cc
judged-on false f fs a a' e = (refl, e)

pub judged-end : {A : Type 0} (a a' : A) → judged [] a ≡ Ok a' → a ≡ a'
judged-end a a' e = cc

pub upon-on : {A B : Type 0} (r : Result A TreeFault) (f : A → Result B TreeFault) (b : B) → upon r f ≡ Ok b → (a : A) × (r ≡ Ok a) × (f a ≡ Ok b)
upon-on (Ok a) f b e = (a, refl, e)
upon-on (Err x) f b e = never cc

-- the path is well-formed and the walk along it not refused
pub lookup-on : (t : Tree) (s : Step) (ss : Path) (o : Option Node) → lookup t (s ∷ ss) ≡ Ok o → (first_wrong 1 (s ∷ ss) ≡ None) × (walk 1 s ss (top t) ≡ Ok o)
lookup-on t s ss o e = go (first_wrong 1 (s ∷ ss)) refl e
  where
    go : (m : Option ℕ) → first_wrong 1 (s ∷ ss) ≡ m → walked m (s ∷ ss) (top t) ≡ Ok o → (first_wrong 1 (s ∷ ss) ≡ None) × (walk 1 s ss (top t) ≡ Ok o)
    go None x y = (x, y)
    go (Some i) x y = never cc

pub on_lookup : (t : Tree) (s : Step) (ss : Path) (o : Option Node) → first_wrong 1 (s ∷ ss) ≡ None → walk 1 s ss (top t) ≡ Ok o → lookup t (s ∷ ss) ≡ Ok o
on_lookup t s ss o a b = ap (λ m. walked m (s ∷ ss) (top t)) a ∙ b

-- its first step is a name
pub first-name : (s : Step) (ss : Path) → first_wrong 1 (s ∷ ss) ≡ None → is_name s ≡ true
first-name s ss e = go (is_wrong 1 s ss) refl e
  where
    go : (b : Bool) → is_wrong 1 s ss ≡ b → cond b (Some 1) (first_wrong 2 ss) ≡ None → is_name s ≡ true
    go true x y = never cc
    go false x y = not-false (is_name s) (or_parts (not (is_name s)) _ x).0
