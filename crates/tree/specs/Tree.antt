-- What a tree is.
use Rattle.std.specs.Prelude.{Bool, true, false}
use Rattle.tree.specs.declared.form.Form.{Form}
use Rattle.tree.specs.declared.form.Form.TheVariants.{Text as TextForm, Uri, Structure, Bag, Sequence, Alternative}
use Rattle.names.specs.Order.{Text, Name}

-- a node is known by its name, or, being an item, by its position alone
pub data Label : Type 0 where
  named : Name → Label
  item : Label

-- what a node has besides its qualifiers and its parts
pub record Head : Type 0 where
  pub label : Label
  pub form : Form
  pub value : Text

-- nodes in a row: the first with its qualifiers and its parts (fields or items), and those after it
pub data Nodes : Type 0 where
  none : Nodes
  more : Head → Nodes → Nodes → Nodes → Nodes

-- a node by itself
pub record Node : Type 0 where
  pub head : Head
  pub qualifiers : Nodes
  pub parts : Nodes

abbrev pub cons : Node → Nodes → Nodes
cons v r = more v.head v.qualifiers v.parts r

-- a tree: what it is about, and its properties. Trees are equal when all that they hold is
pub record Tree : Type 0 where
  pub about : Text
  pub properties : Nodes

-- a text and a URI are simple: they have a value and no parts
abbrev pub is_simple : Form → Bool
is_simple TextForm = true
is_simple Uri = true
is_simple Structure = false
is_simple Bag = false
is_simple Sequence = false
is_simple Alternative = false

-- an array has items
abbrev pub is_array : Form → Bool
is_array TextForm = false
is_array Uri = false
is_array Structure = false
is_array Bag = true
is_array Sequence = true
is_array Alternative = true

-- a structure has fields
abbrev pub is_structure : Form → Bool
is_structure TextForm = false
is_structure Uri = false
is_structure Structure = true
is_structure Bag = false
is_structure Sequence = false
is_structure Alternative = false
