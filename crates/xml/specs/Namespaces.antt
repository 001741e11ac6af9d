-- Namespaces: the bindings in force, and what a name means under them.
use Rattle.std.specs.Prelude.{◌≡◌, Bool, true, false, cond, ◌||◌, ◌⊎◌, List, [], ◌∷◌, Some, None, codes, Option, ◌≢◌}
use Rattle.names.specs.Order.{Text, Name, same}
use Rattle.names.specs.Reserved.{xml_uri, xmlns_uri}
use Rattle.items.specs.Tokens.{QName, bare, prefixed, chars, Attr}

-- one of a list, and two of a list that are equal
abbrev pub Member : {A : Type 0} → A → List A → Type 0
Member x [] = ⊥
Member x (y ∷ ys) = (x ≡ y) ⊎ Member x ys

abbrev pub Repeats : {A : Type 0} → List A → Type 0
Repeats [] = ⊥
Repeats (x ∷ xs) = Member x xs ⊎ Repeats xs

-- bindings of prefixes to namespaces, innermost first; the default namespace is bound to the empty prefix
abbrev pub Scope : Type 0
Scope = List (Text × Text)

-- xml is bound everywhere
abbrev pub base : Scope
base = (codes "xml", xml_uri) ∷ []

-- the innermost binding of a prefix counts
abbrev pub bound : Scope → Text → Option Text
bound [] p = None
bound (b ∷ sc) p = cond (same b.0 p) (Some b.1) (bound sc p)

-- the prefix that an attribute of this name declares: xmlns the default, xmlns:p the prefix p
abbrev pub declares : QName → Option Text
declares (bare l) = cond (same l (codes "xmlns")) (Some []) None
declares (prefixed p l) = cond (same p (codes "xmlns")) (Some l) None

abbrev pub binding : Option Text → Text → Scope → Scope
binding None v sc = sc
binding (Some p) v sc = (p, v) ∷ sc

-- the bindings inside an element with these attributes
abbrev pub in_force : List Attr → Scope → Scope
in_force [] sc = sc
in_force (a ∷ as') sc = binding (declares a.name) (chars a.value) (in_force as' sc)

-- What names mean.
abbrev pub within : Text → Option Text → Option Name
within l None = None
within l (Some u) = Some (record { uri = u; local = l })

-- without a prefix an element has the default namespace, if there is one, and an attribute none
abbrev pub default_of : Option Text → Text
default_of None = []
default_of (Some u) = u

abbrev pub element_name : Scope → QName → Option Name
element_name sc (bare l) = Some (record { uri = default_of (bound sc []); local = l })
element_name sc (prefixed p l) = within l (bound sc p)

abbrev pub attribute_name : Scope → QName → Option Name
attribute_name sc (bare l) = Some (record { uri = []; local = l })
attribute_name sc (prefixed p l) = within l (bound sc p)

-- an attribute by its expanded name
pub record Field : Type 0 where
  pub name : Name
  pub value : Text

-- the names of the attributes that declare nothing, each expanded or not
abbrev pub is_declared : Option Text → Bool
is_declared None = false
is_declared (Some p) = true

abbrev pub expansions : Scope → List Attr → List (Option Name)
expansions sc [] = []
expansions sc (a ∷ as') = cond (is_declared (declares a.name)) (expansions sc as') (attribute_name sc a.name ∷ expansions sc as')

abbrev pub expanded_names : List (Option Name) → List Name
expanded_names [] = []
expanded_names (None ∷ ns) = expanded_names ns
expanded_names (Some n ∷ ns) = n ∷ expanded_names ns

abbrev pub field_of : Option Name → Text → List Field → List Field
field_of None v fs = fs
field_of (Some n) v fs = record { name = n; value = v } ∷ fs

-- the attributes that declare nothing
abbrev pub fields : Scope → List Attr → List Field
fields sc [] = []
fields sc (a ∷ as') = cond (is_declared (declares a.name)) (fields sc as') (field_of (attribute_name sc a.name) (chars a.value) (fields sc as'))

-- a declaration that is not allowed: of xmlns, of xml as anything else, of anything else as xml or xmlns, of a prefix as nothing
abbrev pub WrongBinding : Text → Text → Type 0
WrongBinding p v =
    (p ≡ codes "xmlns") ⊎ (((p ≡ codes "xml") × (v ≢ xml_uri)) ⊎ (((p ≢ codes "xml") × (v ≡ xml_uri)) ⊎ ((v ≡ xmlns_uri) ⊎ ((p ≢ []) × (v ≡ [])))))

abbrev pub WronglyBinds : Option Text → Text → Type 0
WronglyBinds None v = ⊥
WronglyBinds (Some p) v = WrongBinding p v

abbrev pub SomeWrong : List Attr → Type 0
SomeWrong [] = ⊥
SomeWrong (a ∷ as') = WronglyBinds (declares a.name) (chars a.value) ⊎ SomeWrong as'

-- The prefixes that a name could be resolved by, each once: those whose innermost binding is to a namespace; xml is not counted.
abbrev pub is_among : Text → List Text → Bool
is_among p [] = false
is_among p (q ∷ qs) = same p q || is_among p qs

abbrev pub prefixes_past : List Text → Scope → List Text
prefixes_past seen [] = []
prefixes_past seen (b ∷ sc) =
    cond (is_among b.0 seen || (same b.0 (codes "xml") || same b.1 [])) (prefixes_past (b.0 ∷ seen) sc) (b.0 ∷ prefixes_past (b.0 ∷ seen) sc)

unfoldable pub prefixes : Scope → List Text
prefixes sc = prefixes_past [] sc
