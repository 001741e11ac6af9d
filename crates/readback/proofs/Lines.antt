-- Line ends: a text without U+000D stays as it is.
use Rattle.std.proofs.Common.{◌≡◌, ◌≢◌, [], ◌∷◌, refl, ap}
use Rattle.std.specs.List.{AllByRecursion}
use Rattle.std.proofs.lemmas.Bool.{ne_eqb}
use Rattle.names.specs.Order.{Text}
use Rattle.xml.specs.Reading.{unixed}

-- no U+000D stands in it
abbrev pub Calm : Text → Type 0
Calm s = AllByRecursion (λ c. c ≢ 13) s

pub calm_unixed : (s : Text) → Calm s → unixed s ≡ s
unfolding unixed
calm_unixed [] h = refl
calm_unixed (c ∷ s) h = rw (ne_eqb c 13 h.0) (ap (λ t. c ∷ t) (calm_unixed s h.1))
