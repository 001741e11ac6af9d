-- The calls with a path: get, set, make and remove, as functions of a tree.
use Rattle.std.specs.Prelude.{Bool, true, false, not, ◌&&◌, List, [], ◌∷◌, length, Some, None, Ok, Err, Option, Result}
use Rattle.tree.specs.declared.form.Form.{Form}
use Rattle.tree.specs.declared.form.Form.TheVariants.{Text as TextForm, Uri, Structure, Bag, Sequence, Alternative}
use Rattle.tree.specs.declared.failure.TreeFault.{TreeFault}
use Rattle.tree.specs.declared.failure.TreeFault.TheVariants.{Nowhere, Unsuited, Occupied, Unlawful, Forbidden, Limit}
use Rattle.names.specs.Order.{Text, same_name}
use Rattle.names.specs.Reserved.{lang_name}
use Rattle.names.specs.Xml.{all_xml}
use Rattle.tree.specs.Names.{is_language_tag, is_lawful_name, is_qualifier_name}
use Rattle.tree.specs.Tree.{Label, named, item, Nodes, none, Node, Tree, is_simple}
use Rattle.tree.specs.Lawful.{is_within}
use Rattle.tree.specs.Paths.{Step, name, number, qualifier, Path, is_qualifier, lookup, with_at}

-- what a simple node can be given
pub data Value : Type 0 where
  text : Text → Value
  uri : Text → Value

abbrev pub form_of : Value → Form
form_of (text x) = TextForm
form_of (uri x) = Uri

abbrev pub characters_of : Value → Text
characters_of (text x) = x
characters_of (uri x) = x

-- what can be made empty
pub data Holder : Type 0 where
  structure : Holder
  bag : Holder
  sequence : Holder
  alternative : Holder

abbrev pub holder_form : Holder → Form
holder_form structure = Structure
holder_form bag = Bag
holder_form sequence = Sequence
holder_form alternative = Alternative

-- Refusals in their order: the first that is due, or the answer.
abbrev pub refusal : Bool → TreeFault → Option TreeFault
refusal true f = Some f
refusal false f = None

abbrev pub judged : {A : Type 0} → List (Option TreeFault) → A → Result A TreeFault
judged [] a = Ok a
judged (None ∷ fs) a = judged fs a
judged (Some f ∷ fs) a = Err f

abbrev pub upon : {A B : Type 0} → Result A TreeFault → (A → Result B TreeFault) → Result B TreeFault
upon (Ok a) f = f a
upon (Err e) f = Err e

-- the step that a path ends with
abbrev pub ending : Path → Step
ending [] = number 0
ending (s ∷ []) = s
ending (s ∷ s' ∷ ss) = ending (s' ∷ ss)

-- a path that ends in the qualifier xml:lang
abbrev pub is_lang : Step → Bool
is_lang (name n) = false
is_lang (number k) = false
is_lang (qualifier n) = same_name n lang_name

-- a node that is new at the end of a path has its name from there
abbrev pub label_at : Step → Label
label_at (name n) = named n
label_at (number k) = item
label_at (qualifier n) = named n

abbrev pub is_unlawful_step : Step → Bool
is_unlawful_step (name n) = not (is_lawful_name n)
is_unlawful_step (number k) = false
is_unlawful_step (qualifier n) = not (is_qualifier_name n)

-- its namespace has a character that is none of XML
abbrev pub is_forbidden_step : Step → Bool
is_forbidden_step (name n) = not (all_xml n.uri)
is_forbidden_step (number k) = false
is_forbidden_step (qualifier n) = not (all_xml n.uri)

abbrev pub is_new : Option Node → Bool
is_new None = true
is_new (Some v) = false

-- a structure or an array stands there
abbrev pub is_holder : Option Node → Bool
is_holder None = false
is_holder (Some v) = not (is_simple v.head.form)

abbrev pub is_uri : Value → Bool
is_uri (text x) = false
is_uri (uri x) = true

abbrev pub node : Label → Form → Text → Nodes → Nodes → Node
node l f x q p = record { head = record { label = l; form = f; value = x }; qualifiers = q; parts = p }

-- the node with its new value: what stands there keeps its name and its qualifiers
abbrev pub given : Step → Value → Option Node → Node
given s x None = node (label_at s) (form_of x) (characters_of x) none none
given s x (Some v) = node v.head.label (form_of x) (characters_of x) v.qualifiers v.parts

-- Get: form and value of the node at a path, or nothing where none stands.
abbrev pub answered : Option Node → Option (Form × Text)
answered None = None
answered (Some v) = Some (v.head.form, v.head.value)

abbrev pub get : Tree → Path → Result (Option (Form × Text)) TreeFault
get t p = upon (lookup t p) (λ v. Ok (answered v))

-- Set: a value for the simple node at a path, or for a new one.
abbrev pub set_refusals : Tree → Path → Value → Option Node → List (Option TreeFault)
set_refusals t p x v =
    refusal (is_holder v) (Unsuited 0)
    ∷ refusal (is_lang (ending p) && is_uri x) (Unsuited 0)
    ∷ refusal (is_new v && is_unlawful_step (ending p)) (Unlawful (length p))
    ∷ refusal (is_lang (ending p) && not (is_language_tag (characters_of x))) (Unlawful 0)
    ∷ refusal (is_new v && is_forbidden_step (ending p)) (Forbidden (length p))
    ∷ refusal (not (all_xml (characters_of x))) (Forbidden 0)
    ∷ refusal (not (is_within (with_at t p (Some (given (ending p) x v))))) Limit
    ∷ []

abbrev pub set : Tree → Path → Value → Result Tree TreeFault
set t p x = upon (lookup t p) (λ v. judged (set_refusals t p x v) (with_at t p (Some (given (ending p) x v))))

-- Make: an empty structure or array, where no node stands. A qualifier can be neither.
abbrev pub make_refusals : Tree → Path → Holder → Option Node → List (Option TreeFault)
make_refusals t p f v =
    refusal (is_qualifier (ending p)) (Unsuited (length p))
    ∷ refusal (not (is_new v)) (Occupied (length p))
    ∷ refusal (is_unlawful_step (ending p)) (Unlawful (length p))
    ∷ refusal (is_forbidden_step (ending p)) (Forbidden (length p))
    ∷ refusal (not (is_within (with_at t p (Some (node (label_at (ending p)) (holder_form f) [] none none))))) Limit
    ∷ []

abbrev pub make : Tree → Path → Holder → Result Tree TreeFault
make t p f =
    upon (lookup t p) (λ v. judged (make_refusals t p f v) (with_at t p (Some (node (label_at (ending p)) (holder_form f) [] none none))))

-- Remove: the node at a path, with all that is under it.
abbrev pub remove : Tree → Path → Result Tree TreeFault
remove t p = upon (lookup t p) (λ v. judged (refusal (is_new v) (Nowhere (length p)) ∷ []) (with_at t p None))
