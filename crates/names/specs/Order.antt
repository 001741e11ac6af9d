-- Texts, and the order in which names stand.
use Rattle.std.specs.Prelude.{◌≡◌, ℕ, ◌<◌, Bool, true, false, ◌&&◌, ◌||◌, ◌⊎◌, List, [], ◌∷◌, ◌==◌, nat_lt}

-- a text, by the numbers of its characters
abbrev pub Text : Type 0
Text = List ℕ

-- one text stands before another: at the first difference its character has the lower number, or it ends there
abbrev pub Before : Text → Text → Type 0
Before s [] = ⊥
Before [] (d ∷ t) = Unit {0}
Before (c ∷ s) (d ∷ t) = (c < d) ⊎ ((c ≡ d) × Before s t)

-- the tests
unfoldable pub same : Text → Text → Bool
same [] [] = true
same [] (d ∷ t) = false
same (c ∷ s) [] = false
same (c ∷ s) (d ∷ t) = c == d && same s t

unfoldable pub before : Text → Text → Bool
before s [] = false
before [] (d ∷ t) = true
before (c ∷ s) (d ∷ t) = nat_lt c d || (c == d && before s t)

-- a name: the URI of its namespace and its local part. Two names are one only if both parts agree
pub record Name : Type 0 where
  pub uri : Text
  pub local : Text

-- names stand in order of their URIs, and those of one URI in order of their local parts
abbrev pub NameBefore : Name → Name → Type 0
NameBefore m n = Before m.uri n.uri ⊎ ((m.uri ≡ n.uri) × Before m.local n.local)

unfoldable pub same_name : Name → Name → Bool
same_name m n = same m.uri n.uri && same m.local n.local

unfoldable pub name_before : Name → Name → Bool
name_before m n = before m.uri n.uri || (same m.uri n.uri && before m.local n.local)

-- Texts that stand in order, none twice.
abbrev pub Leading : Text → List Text → Type 0
Leading u [] = Unit {0}
Leading u (v ∷ vs) = Before u v

abbrev pub Ascending : List Text → Type 0
Ascending [] = Unit {0}
Ascending (u ∷ us) = Leading u us × Ascending us
