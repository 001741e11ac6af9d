-- What a reader of spelt text may rely on.
use Rattle.std.specs.Prelude.{ℕ, ◌≢◌}
use Rattle.characters.specs.declared.escapes.Where.{Where}
use Rattle.characters.specs.declared.escapes.Where.TheVariants.{Content, Attribute}

-- the characters that a reader of spelt text never meets: U+000D and angle brackets, and in an attribute also `"`, U+0009 and U+000A
abbrev pub Quiet : Where → ℕ → Type 0
Quiet Content d = (d ≢ 13) × (d ≢ 60) × (d ≢ 62)
Quiet Attribute d = (d ≢ 13) × (d ≢ 60) × (d ≢ 62) × (d ≢ 9) × (d ≢ 10) × (d ≢ 34)
