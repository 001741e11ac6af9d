-- What is proved of the calls with a path.
use Rattle.std.specs.Prelude.{◌≡◌, ℕ, suc, ◌<◌, ◌≤◌, ◌≢◌, [], ◌∷◌, Some, None, Ok, Option}
use Rattle.names.specs.Order.{Name}
use Rattle.tree.specs.Tree.{Head, Nodes, none, Node, Tree}
use Rattle.tree.specs.Lawful.{Lawful}
use Rattle.tree.specs.Paths.{Step, name, number, qualifier, Path, top, standing}
use Rattle.tree.specs.Calls.{Value, form_of, characters_of, Holder, holder_form, ending, label_at, node, given, get, set, make, remove}

-- two steps lead from a node to different nodes
abbrev pub Differ : Step → Step → Type 0
Differ (name m) (name n) = n ≢ m
Differ (name m) (number k) = Unit {0}
Differ (name m) (qualifier n) = Unit {0}
Differ (number j) (name n) = Unit {0}
Differ (number j) (number k) = (1 ≤ j) × (1 ≤ k) × (k ≢ j)
Differ (number j) (qualifier n) = Unit {0}
Differ (qualifier m) (name n) = Unit {0}
Differ (qualifier m) (number k) = Unit {0}
Differ (qualifier m) (qualifier n) = n ≢ m

-- two paths part at some step: neither leads through the end of the other
pub data Apart : Path → Path → Type 0 where
  parting : {s s' : Step} {ss ss' : Path} → Differ s s' → Apart (s ∷ ss) (s' ∷ ss')
  together : {s : Step} {ss ss' : Path} → Apart ss ss' → Apart (s ∷ ss) (s ∷ ss')

-- When the node at the first path is removed, what stands at the second is what stood at the third: the same path, unless it leads
-- through an item behind the removed one, which moves down.
pub data Moves : Path → Path → Path → Type 0 where
  above : {j k : ℕ} {ss : Path} → 1 ≤ j → j ≤ k → Moves (number j ∷ []) (number k ∷ ss) (number (suc k) ∷ ss)
  below : {j k : ℕ} {ss : Path} → 1 ≤ k → k < j → Moves (number j ∷ []) (number k ∷ ss) (number k ∷ ss)
  beside : {j : ℕ} {n : Name} {ss : Path} → Moves (number j ∷ []) (qualifier n ∷ ss) (qualifier n ∷ ss)
  aside : {j : ℕ} {n : Name} {ss : Path} → Moves (number j ∷ []) (name n ∷ ss) (name n ∷ ss)
  field : {n : Name} {s : Step} {ss : Path} → Differ (name n) s → Moves (name n ∷ []) (s ∷ ss) (s ∷ ss)
  qualifying : {n : Name} {s : Step} {ss : Path} → Differ (qualifier n) s → Moves (qualifier n ∷ []) (s ∷ ss) (s ∷ ss)
  earlier : {s s' s'' : Step} {ss ss' : Path} → Differ s s' → Moves (s ∷ s'' ∷ ss) (s' ∷ ss') (s' ∷ ss')
  onward : {s : Step} {ss qs qs' : Path} → Moves ss qs qs' → Moves (s ∷ ss) (s ∷ qs) (s ∷ qs')

-- the first path ends on the way along the second
pub data OnTheWay : Path → Path → Type 0 where
  begun : {s : Step} {ss : Path} → OnTheWay [] (s ∷ ss)
  along : {s : Step} {qs ss : Path} → OnTheWay qs ss → OnTheWay (s ∷ qs) (s ∷ ss)

-- name, form and value of a node, if there is one
abbrev pub head_of : Option Node → Option Head
head_of None = None
head_of (Some v) = Some v.head

-- the qualifiers of the node at a path; where none stands there are none
abbrev pub qualifiers_of : Option Node → Nodes
qualifiers_of None = none
qualifiers_of (Some v) = v.qualifiers

abbrev pub qualifiers_at : Tree → Path → Nodes
qualifiers_at t p = qualifiers_of (standing p (top t))

-- A call at the path p has changed t into t' and left all else as it was: nodes on the way keep name, form and value, and what
-- stands at a path apart from p is what stood there.
pub record ElseSame (t : Tree) (p : Path) (t' : Tree) : Type 0 where
  pub about : t'.about ≡ t.about
  pub way : (q : Path) → OnTheWay q p → head_of (standing q (top t')) ≡ head_of (standing q (top t))
  pub elsewhere : (q : Path) → Apart p q → standing q (top t') ≡ standing q (top t)

-- what holds after an accepted set: at the path stands the node with its new value, and the qualifiers that were there
pub record AfterSet (t : Tree) (p : Path) (x : Value) (t' : Tree) : Type 0 where
  pub lawful : Lawful t'
  pub answer : get t' p ≡ Ok (Some (form_of x, characters_of x))
  pub qualifiers : qualifiers_at t' p ≡ qualifiers_at t p
  pub there : standing p (top t') ≡ Some (given (ending p) x (standing p (top t)))
  pub others : ElseSame t p t'

-- after an accepted make: where nothing was, there is a structure or an array with no parts and no qualifiers
pub record AfterMake (t : Tree) (p : Path) (f : Holder) (t' : Tree) : Type 0 where
  pub lawful : Lawful t'
  pub before : get t p ≡ Ok None
  pub answer : get t' p ≡ Ok (Some (holder_form f, []))
  pub there : standing p (top t') ≡ Some (node (label_at (ending p)) (holder_form f) [] none none)
  pub others : ElseSame t p t'

-- after an accepted remove: where a name led, nothing stands, and all else is as it was but for items that moved down
abbrev pub Named : Step → Type 0
Named (name n) = Unit {0}
Named (number k) = ⊥
Named (qualifier n) = Unit {0}

pub record AfterRemove (t : Tree) (p : Path) (t' : Tree) : Type 0 where
  pub lawful : Lawful t'
  pub gone : Named (ending p) → get t' p ≡ Ok None
  pub about : t'.about ≡ t.about
  pub way : (q : Path) → OnTheWay q p → head_of (standing q (top t')) ≡ head_of (standing q (top t))
  pub elsewhere : (q q' : Path) → Moves p q q' → standing q (top t') ≡ standing q' (top t)

-- the calls on a lawful tree
pub record Edits : Type 0 where
  pub set : (t t' : Tree) (p : Path) (x : Value) → Lawful t → set t p x ≡ Ok t' → AfterSet t p x t'
  pub make : (t t' : Tree) (p : Path) (f : Holder) → Lawful t → make t p f ≡ Ok t' → AfterMake t p f t'
  pub remove : (t t' : Tree) (p : Path) → Lawful t → remove t p ≡ Ok t' → AfterRemove t p t'
