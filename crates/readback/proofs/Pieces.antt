-- Texts and values as they are spelt: the pieces that they are read as.
use Rattle.std.proofs.Common.{◌≡◌, ℕ, ◌+◌, true, eqb, ◌≢◌, List, [], ◌∷◌, ◌++◌, length, codes, sym, refl, ap, subst, append-nil, arith}
use Rattle.std.specs.List.{AllByRecursion}
use Rattle.std.proofs.lemmas.Bool.{eqb-true, eqb-false, cond_both}
use Rattle.characters.specs.Classes.{In, white_ranges, is_white}
use Rattle.characters.proofs.Deciding.{white_decides}
use Rattle.characters.specs.Spelling.{spelling, spellings}
use Rattle.characters.specs.declared.escapes.Where.{Where}
use Rattle.characters.specs.declared.escapes.Where.TheVariants.{Content, Attribute as Quoted}
use Rattle.names.specs.Order.{Text}
use Rattle.items.specs.Tokens.{Piece, literal, chars, Words}
use Rattle.items.specs.Grammar.{Each, no_more, next, Refers, ampersand, less, greater, quote, hexadecimal, InText, InValue, spaced, Stops, Item, run}

-- a character is read as one piece, as wide as its spelling
abbrev pub piece : Where → ℕ → Piece
piece w c = record { width = length (spelling w c); char = c }

abbrev pub pieces : Where → Text → List Piece
pieces w [] = []
pieces w (c ∷ t) = piece w c ∷ pieces w t

pub chars-pieces : (w : Where) (t : Text) → chars (pieces w t) ≡ t
chars-pieces w [] = refl
chars-pieces w (c ∷ t) = ap (λ s. c ∷ s) (chars-pieces w t)

-- a piece of a text
abbrev InText-as : ℕ → Text → Type 0
InText-as c l = InText l (record { width = length l; char = c })

text_reference : {r : Text} (c d : ℕ) → Refers r d → eqb c d ≡ true → InText (38 ∷ (r ++ (59 ∷ []))) (record { width = length r + 2; char = c })
text_reference {r} c d h e = subst (λ x. InText (38 ∷ (r ++ (59 ∷ []))) (record { width = length r + 2; char = x })) (sym (eqb-true c d e)) (InText.reference h)

in_text : (c : ℕ) → InText (spelling Content c) (piece Content c)
unfolding spelling
in_text c =
    cond_both (eqb c 38) _ _ (InText-as c) (text_reference c 38 ampersand)
    (λ a. cond_both (eqb c 60) _ _ (InText-as c) (text_reference c 60 less)
    (λ b. cond_both (eqb c 62) _ _ (InText-as c) (text_reference c 62 greater)
    (λ _. cond_both (eqb c 13) _ _ (InText-as c) (text_reference c 13 (hexadecimal {t = codes "D"} (refl, tt)))
    (λ _. InText.itself c (eqb-false c 38 a) (eqb-false c 60 b)))))

-- a piece of a value: white space that stands for itself is a space
abbrev InValue-as : ℕ → Text → Type 0
InValue-as c l = InValue 34 l (record { width = length l; char = c })

value-reference : {r : Text} (c d : ℕ) → Refers r d → eqb c d ≡ true → InValue 34 (38 ∷ (r ++ (59 ∷ []))) (record { width = length r + 2; char = c })
value-reference {r} c d h e = subst (λ x. InValue 34 (38 ∷ (r ++ (59 ∷ []))) (record { width = length r + 2; char = x })) (sym (eqb-true c d e)) (InValue.reference h)

spaced-same : (c : ℕ) → c ≢ 9 → c ≢ 10 → c ≢ 13 → spaced c ≡ c
spaced-same c h k l = cond_both (is_white c) 32 c (λ d. d ≡ c) (λ e. let w : In white_ranges c = (white_decides c).0 e in omega arith) (λ _. refl)

in_value : (c : ℕ) → InValue 34 (spelling Quoted c) (piece Quoted c)
unfolding spelling
in_value c =
    cond_both (eqb c 34) _ _ (InValue-as c) (value-reference c 34 quote)
    (λ a. cond_both (eqb c 9) _ _ (InValue-as c) (value-reference c 9 (hexadecimal {t = codes "9"} (refl, tt)))
    (λ b. cond_both (eqb c 10) _ _ (InValue-as c) (value-reference c 10 (hexadecimal {t = codes "A"} (refl, tt)))
    (λ d. cond_both (eqb c 38) _ _ (InValue-as c) (value-reference c 38 ampersand)
    (λ e. cond_both (eqb c 60) _ _ (InValue-as c) (value-reference c 60 less)
    (λ f. cond_both (eqb c 62) _ _ (InValue-as c) (value-reference c 62 greater)
    (λ _. cond_both (eqb c 13) _ _ (InValue-as c) (value-reference c 13 (hexadecimal {t = codes "D"} (refl, tt)))
    (λ g. subst (λ x. InValue 34 (c ∷ []) (literal x)) (spaced-same c (eqb-false c 9 b) (eqb-false c 10 d) (eqb-false c 13 g)) (InValue.itself c (eqb-false c 34 a) (eqb-false c 38 e) (eqb-false c 60 f)))))))))

-- texts and values
each-text : (t : Text) → Each InText (spellings Content t) (pieces Content t)
each-text [] = no_more
each-text (c ∷ t) = next (in_text c) (each-text t)

pub each-value : (t : Text) → Each (InValue 34) (spellings Quoted t) (pieces Quoted t)
each-value [] = no_more
each-value (c ∷ t) = next (in_value c) (each-value t)

-- `>` never stands for itself, so `]]>` does not stand in a text
no_greater : (c : ℕ) → piece Content c ≡ literal 62 → ⊥
unfolding spelling
no_greater c e =
    let d : c ≡ 62 = ap (λ (p : Piece). p.char) e in
    let w : length (spelling Content c) ≡ 1 = ap (λ (p : Piece). p.width) e in
    let v : length (spelling Content c) ≡ 4 = ap (λ x. length (spelling Content x)) d in
    omega arith

no_greaters : (t : Text) → AllByRecursion (λ p. p ≡ literal 62 → ⊥) (pieces Content t)
no_greaters [] = tt
no_greaters (c ∷ t) = (no_greater c, no_greaters t)

buried : (ys zs : List Piece) → AllByRecursion (λ p. p ≡ literal 62 → ⊥) (ys ++ (literal 93 ∷ literal 93 ∷ literal 62 ∷ zs)) → ⊥
buried [] zs h = h.1.1.0 refl
buried (y ∷ ys) zs h = buried ys zs h.1

-- a text that is not empty is a run, up to the next `<` or the end
pub text_item : (c : ℕ) (t r : Text) → Stops r → Item (spellings Content (c ∷ t) ++ r) (Words (piece Content c) (pieces Content t)) r
text_item c t r h = run (each-text (c ∷ t)) (λ ys zs e. buried ys zs (subst (AllByRecursion (λ p. p ≡ literal 62 → ⊥)) e (no_greaters (c ∷ t)))) h

-- white space
abbrev pub Blank : ℕ → Type 0
Blank c = is_white c ≡ true

abbrev pub literals : Text → List Piece
literals [] = []
literals (c ∷ t) = literal c ∷ literals t

in_blank : (c : ℕ) → Blank c → InText (c ∷ []) (literal c)
in_blank c h = let w : In white_ranges c = (white_decides c).0 h in InText.itself c (omega arith) (omega arith)

each_blank : (t : Text) → AllByRecursion Blank t → Each InText t (literals t)
each_blank [] h = no_more
each_blank (c ∷ t) h = next (in_blank c h.0) (each_blank t h.1)

no_blank_greater : (c : ℕ) → Blank c → literal c ≡ literal 62 → ⊥
no_blank_greater c h e = let w : In white_ranges c = (white_decides c).0 h in let d : c ≡ 62 = ap (λ (p : Piece). p.char) e in omega arith

no_blank_greaters : (t : Text) → AllByRecursion Blank t → AllByRecursion (λ p. p ≡ literal 62 → ⊥) (literals t)
no_blank_greaters [] h = tt
no_blank_greaters (c ∷ t) h = (no_blank_greater c h.0, no_blank_greaters t h.1)

-- white space to the end is a run
pub blank_item : (c : ℕ) (t : Text) → AllByRecursion Blank (c ∷ t) → Item (c ∷ t) (Words (literal c) (literals t)) []
blank_item c t h =
    subst (λ s. Item s (Words (literal c) (literals t)) []) (append-nil (c ∷ t))
    (run (each_blank (c ∷ t) h) (λ ys zs e. buried ys zs (subst (AllByRecursion (λ p. p ≡ literal 62 → ⊥)) e (no_blank_greaters (c ∷ t) h))) tt)
