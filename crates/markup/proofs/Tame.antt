-- Texts in which every `<` is followed by a character, and not by `?`.
use Rattle.std.proofs.Common.{◌≡◌, ◌≢◌, [], ◌∷◌, ◌++◌, refl, subst}
use Rattle.std.specs.List.{AllByRecursion}
use Rattle.names.specs.Order.{Text}
use Rattle.markup.specs.Clean.{NoInstruction}

-- a text goes on, and not with `?`
abbrev pub Onward : Text → Type 0
Onward [] = ⊥
Onward (d ∷ t) = d ≢ 63

-- behind each `<` the text goes on, and not with `?`; so a tame text does not end in `<`
abbrev pub Tame : Text → Type 0
Tame [] = Unit {0}
Tame (c ∷ t) = (c ≡ 60 → Onward t) × Tame t

pub onward_append : (s t : Text) → Onward s → Onward (s ++ t)
onward_append [] t h = absurd h
onward_append (d ∷ s) t h = h

-- tame texts one behind the other
pub tame_append : (s t : Text) → Tame s → Tame t → Tame (s ++ t)
tame_append [] t h k = k
tame_append (c ∷ s) t h k = (λ e. onward_append s t (h.0 e), tame_append s t h.1 k)

-- a text without `<`
pub plain-tame : (t : Text) → AllByRecursion (λ d. d ≢ 60) t → Tame t
plain-tame [] h = tt
plain-tame (c ∷ t) h = (λ e. absurd (h.0 e), plain-tame t h.1)

-- in a tame text `<?` stands nowhere
wild : (ys zs : Text) → Tame (ys ++ (60 ∷ 63 ∷ zs)) → ⊥
wild [] zs h = h.0 refl refl
wild (y ∷ ys) zs h = wild ys zs h.1

pub tame_none : (t : Text) → Tame t → NoInstruction t
tame_none t h ys zs e = wild ys zs (subst Tame e h)
