-- How a character is spelt in marked-up text.
use Rattle.std.specs.Prelude.{◌≡◌, ℕ, ◌<◌, cond, List, [], ◌∷◌, length, Some, None, codes, Option, ◌==◌}
use Rattle.std.specs.Borrow.{Bor}
use Rattle.std.specs.List.{flat_map}
use Rattle.characters.specs.declared.escapes.Where.{Where}
use Rattle.characters.specs.declared.escapes.Where.TheVariants.{Content, Attribute}

-- in content and in attribute values alike: `&`, `<`, `>` and U+000D
abbrev pub spelt : ℕ → List ℕ
spelt c =
    cond (c == 38) (codes "&amp;") (cond (c == 60) (codes "&lt;") (cond (c == 62) (codes "&gt;") (cond (c == 13) (codes "&#xD;") (c ∷ []))))

-- in attribute values also `"`, U+0009 and U+000A
abbrev pub spelt_quoted : ℕ → List ℕ
spelt_quoted c =
    cond (c == 34) (codes "&quot;") (cond (c == 9) (codes "&#x9;") (cond (c == 10) (codes "&#xA;") (spelt c)))

unfoldable pub spelling : Where → ℕ → List ℕ
spelling Content c = spelt c
spelling Attribute c = spelt_quoted c

-- a text with each of its characters spelt
abbrev pub spellings : Where → List ℕ → List ℕ
spellings w cs = flat_map (spelling w) cs

-- what is told of a character: its spelling, whose bytes are its characters, where that is longer than itself, or that it stands
-- for itself
abbrev pub Escaped : Where → ℕ → Option (Bor (List ℕ)) → Type 0
Escaped w c (Some s) = (s.now ≡ spelling w c) × (1 < length s.now)
Escaped w c None = spelling w c ≡ c ∷ []
