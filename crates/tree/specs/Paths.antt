-- Paths into a tree, and the node that stands at one.
use Rattle.std.specs.Prelude.{ℕ, zero, suc, ◌+◌, ◌-◌, Bool, true, false, cond, not, ◌&&◌, ◌||◌, List, [], ◌∷◌, Some, None, Ok, Err, Option, Result, ◌==◌}
use Rattle.tree.specs.declared.form.Form.TheVariants.{Structure}
use Rattle.tree.specs.declared.failure.TreeFault.{TreeFault}
use Rattle.tree.specs.declared.failure.TreeFault.TheVariants.{Nowhere, Unsuited}
use Rattle.names.specs.Order.{Name, same_name, name_before}
use Rattle.tree.specs.Tree.{Label, named, item, Nodes, none, more, Node, cons, Tree, is_array, is_structure}

-- a step leads to a property or field by its name, to an item by its number, from 1 on, or to a qualifier by its name
pub data Step : Type 0 where
  name : Name → Step
  number : ℕ → Step
  qualifier : Name → Step

abbrev pub Path : Type 0
Path = List Step

abbrev pub is_name : Step → Bool
is_name (name n) = true
is_name (number k) = false
is_name (qualifier n) = false

abbrev pub is_qualifier : Step → Bool
is_qualifier (name n) = false
is_qualifier (number k) = false
is_qualifier (qualifier n) = true

abbrev pub is_zero : Step → Bool
is_zero (name n) = false
is_zero (number k) = k == 0
is_zero (qualifier n) = false

abbrev pub is_last : Path → Bool
is_last [] = true
is_last (s ∷ ss) = false

-- the step with number i is ill-formed: the first is no name, a qualifier is not the last, an item has number 0, or it is the tenth
abbrev pub is_wrong : ℕ → Step → Path → Bool
is_wrong i s ss = (i == 1 && not (is_name s)) || ((is_qualifier s && not (is_last ss)) || (is_zero s || i == 10))

-- the first ill-formed step, counted from i
abbrev pub first_wrong : ℕ → Path → Option ℕ
first_wrong i [] = None
first_wrong i (s ∷ ss) = cond (is_wrong i s ss) (Some i) (first_wrong (i + 1) ss)

-- where a path is ill-formed; a path without steps is so at 0
abbrev pub misstep : Path → Option ℕ
misstep [] = Some 0
misstep (s ∷ ss) = first_wrong 1 (s ∷ ss)

-- One step from a node.
abbrev pub is_named : Name → Label → Bool
is_named n (named m) = same_name m n
is_named n item = false

-- the node of that name
abbrev pub find : Name → Nodes → Option Node
find n none = None
find n (more h q p r) = cond (is_named n h.label) (Some (record { head = h; qualifiers = q; parts = p })) (find n r)

-- what a step meets: nothing of its kind can be there; an item further than one past the last; a free place; a node
pub data Meeting : Type 0 where
  unsuited : Meeting
  beyond : Meeting
  vacant : Meeting
  stands : Node → Meeting

abbrev pub met_name : Option Node → Meeting
met_name None = vacant
met_name (Some v) = stands v

-- the item with k others before it
abbrev pub met_item : ℕ → Nodes → Meeting
met_item zero none = vacant
met_item (suc k) none = beyond
met_item zero (more h q p r) = stands (record { head = h; qualifiers = q; parts = p })
met_item (suc k) (more h q p r) = met_item k r

-- a name suits a structure, a number an array, a qualifier every node
abbrev pub meet : Step → Node → Meeting
meet (name n) v = cond (is_structure v.head.form) (met_name (find n v.parts)) unsuited
meet (number k) v = cond (is_array v.head.form) (met_item (k - 1) v.parts) unsuited
meet (qualifier n) v = met_name (find n v.qualifiers)

-- a tree is walked from a node without a name, a structure whose fields are the properties
abbrev pub top : Tree → Node
top t = record { head = record { label = item; form = Structure; value = [] }; qualifiers = none; parts = t.properties }

-- the node that stands at the end of a path, if there is one
abbrev pub on_to : Meeting → (Node → Option Node) → Option Node
on_to unsuited f = None
on_to beyond f = None
on_to vacant f = None
on_to (stands v) f = f v

abbrev pub standing : Path → Node → Option Node
standing [] v = Some v
standing (s ∷ ss) v = on_to (meet s v) (standing ss)

-- The walk along a path, with its refusals: the step that cannot be taken has number i.
abbrev pub through : ℕ → Meeting → (Node → Result (Option Node) TreeFault) → Result (Option Node) TreeFault
through i unsuited f = Err (Unsuited i)
through i beyond f = Err (Nowhere i)
through i vacant f = Err (Nowhere i)
through i (stands v) f = f v

-- the last step may end at a free place
abbrev pub arrived : ℕ → Meeting → Result (Option Node) TreeFault
arrived i unsuited = Err (Unsuited i)
arrived i beyond = Err (Nowhere i)
arrived i vacant = Ok None
arrived i (stands v) = Ok (Some v)

abbrev pub walk : ℕ → Step → Path → Node → Result (Option Node) TreeFault
walk i s [] v = arrived i (meet s v)
walk i s (s' ∷ ss) v = through i (meet s v) (walk (i + 1) s' ss)

abbrev pub walked : Option ℕ → Path → Node → Result (Option Node) TreeFault
walked (Some i) p v = Err (Nowhere i)
walked None [] v = Err (Nowhere 0)
walked None (s ∷ ss) v = walk 1 s ss v

-- the node at a path or the free place there, or the refusal: first an ill-formed path, then the first step that fails
abbrev pub lookup : Tree → Path → Result (Option Node) TreeFault
lookup t p = walked (misstep p) p (top t)

-- Putting a node, or nothing, where a path leads.
abbrev pub joined : Option Node → Nodes → Nodes
joined None r = r
joined (Some v) r = cons v r

-- by name: in the place of the node of that name, or between those that stand before and after it
abbrev pub precedes : Name → Label → Bool
precedes n (named m) = name_before n m
precedes n item = true

abbrev pub put_named : Name → Option Node → Nodes → Nodes
put_named n w none = joined w none
put_named n w (more h q p r) =
    cond (is_named n h.label) (joined w r) (cond (precedes n h.label) (joined w (more h q p r)) (more h q p (put_named n w r)))

-- by position: in the place of the item with k others before it, or behind the last
abbrev pub put_item : ℕ → Option Node → Nodes → Nodes
put_item zero w none = joined w none
put_item (suc k) w none = none
put_item zero w (more h q p r) = joined w r
put_item (suc k) w (more h q p r) = more h q p (put_item k w r)

abbrev pub replace : Step → Option Node → Node → Node
replace (name n) w v = record { head = v.head; qualifiers = v.qualifiers; parts = put_named n w v.parts }
replace (number k) w v = record { head = v.head; qualifiers = v.qualifiers; parts = put_item (k - 1) w v.parts }
replace (qualifier n) w v = record { head = v.head; qualifiers = put_named n w v.qualifiers; parts = v.parts }

abbrev pub rebuilt : Meeting → Node → (Node → Node) → Node
rebuilt unsuited v f = v
rebuilt beyond v f = v
rebuilt vacant v f = v
rebuilt (stands u) v f = f u

abbrev pub altered : Step → Path → Option Node → Node → Node
altered s [] w v = replace s w v
altered s (s' ∷ ss) w v = rebuilt (meet s v) v (λ u. replace s (Some (altered s' ss w u)) v)

abbrev pub altered_at : Path → Option Node → Node → Node
altered_at [] w v = v
altered_at (s ∷ ss) w v = altered s ss w v

-- the tree with that node, or without one, at the end of the path
abbrev pub with_at : Tree → Path → Option Node → Tree
with_at t p w = record { about = t.about; properties = (altered_at p w (top t)).parts }
