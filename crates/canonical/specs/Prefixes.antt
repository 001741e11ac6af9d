-- The prefixes that stand for namespaces in canonical text.
use Rattle.std.specs.Prelude.{ℕ, ◌+◌, ◌/◌, ◌%◌, Bool, cond, ◌||◌, List, [], ◌∷◌, ◌++◌, codes, nat_lt}
use Rattle.names.specs.Order.{Text, Name, same}
use Rattle.markup.specs.Elements.{Attribute}

-- the namespaces with prefixes of their own: Dublin Core, XMP basic, TIFF
unfoldable pub dc_uri : Text
dc_uri = codes "http://purl.org/dc/elements/1.1/"

unfoldable pub xmp_uri : Text
xmp_uri = codes "http://ns.adobe.com/xap/1.0/"

unfoldable pub tiff_uri : Text
tiff_uri = codes "http://ns.adobe.com/tiff/1.0/"

abbrev pub is_known : Text → Bool
is_known u = same u dc_uri || (same u xmp_uri || same u tiff_uri)

-- a number below a hundred, in decimal
abbrev pub decimal : ℕ → Text
decimal k = cond (nat_lt k 10) ((48 + k) ∷ []) ((48 + k / 10) ∷ (48 + k % 10) ∷ [])

-- the prefix of a namespace: its own, or n with the number k
abbrev pub prefix_as : ℕ → Text → Text
prefix_as k u = cond (same u dc_uri) (codes "dc") (cond (same u xmp_uri) (codes "xmp") (cond (same u tiff_uri) (codes "tiff") (110 ∷ decimal k)))

-- only those without a prefix of their own are numbered
abbrev pub number_after : ℕ → Text → ℕ
number_after k u = cond (is_known u) k (k + 1)

-- the prefix of u among the namespaces us in order, of which the first to be numbered has the number k
abbrev pub prefix_from : ℕ → List Text → Text → Text
prefix_from k [] u = []
prefix_from k (v ∷ vs) u = cond (same u v) (prefix_as k v) (prefix_from (number_after k v) vs u)

unfoldable pub prefix : List Text → Text → Text
prefix us u = prefix_from 1 us u

-- a name with its prefix
abbrev pub qualified : List Text → Name → Text
qualified us n = prefix us n.uri ++ (58 ∷ n.local)

-- an attribute declares each namespace
abbrev pub declared_from : ℕ → List Text → List Attribute
declared_from k [] = []
declared_from k (u ∷ us) = record { name = codes "xmlns:" ++ prefix_as k u; value = u } ∷ declared_from (number_after k u) us
