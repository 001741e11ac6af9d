-- What is known of a list from the few elements that it begins with, and of bytes in a row.
use Rattle.std.specs.Prelude.{◌≡◌, ℕ, zero, suc, ◌<◌, ◌≤◌, List, [], ◌∷◌, ◌++◌, length, take, drop, slice_index, refl}
use Rattle.std.proofs.Common.{sym, ap, ◌∙◌, arith, length-take, length-drop}
use Rattle.std.proofs.lemmas.List.{get_or-take}

pub starts : (bs x : List ℕ) → take (length x) bs ≡ x → (length x ≤ length bs) × ((i : ℕ) → i < length x → slice_index bs i ≡ slice_index x i)
starts bs x e = (omega (arith, length-take (length x) bs, ap length e), λ i h. sym (get_or-take (length x) bs i 0 h) ∙ ap (λ l. slice_index l i) e)

-- a list that begins with two others in a row
starts_both : (bs x y : List ℕ) → take (length (x ++ y)) bs ≡ x ++ y → (take (length x) bs ≡ x) × (take (length y) (drop (length x) bs) ≡ y)
starts_both bs [] y e = (refl, e)
starts_both [] (a ∷ x) y e = let z : ◌≡◌ {A = ℕ} 0 1 = cc in absurd (omega arith)
starts_both (b ∷ bs) (a ∷ x) y e =
    let t : take (length (x ++ y)) bs ≡ x ++ y = cc in
    let h : b ≡ a = cc in
    let r = starts_both bs x y t in
    let p = r.0 in
    (cc, r.1)

pub starts_two : (bs x : List ℕ) → length x ≡ 2 → take (length x) bs ≡ x → (2 ≤ length bs) × (take 2 bs ≡ x)
starts_two bs x h e =
    let t : take 2 bs ≡ x = rw h at e in
    (omega (arith, length-take 2 bs, ap length t), t)

pub starts_four : (bs x y : List ℕ) → length x ≡ 2 → length y ≡ 2 → take (length (x ++ y)) bs ≡ x ++ y → (4 ≤ length bs) × (take 2 bs ≡ x) × (take 2 (drop 2 bs) ≡ y)
starts_four bs x y h k e =
    let r = starts_both bs x y e in
    let p : take 2 bs ≡ x = rw h at r.0 in
    let q : take 2 (drop 2 bs) ≡ y = rw (h, k) at r.1 in
    (omega (arith, length-take 2 bs, ap length p, length-take 2 (drop 2 bs), length-drop 2 bs, ap length q), p, q)

-- no element is above 255
abbrev pub Small : List ℕ → Type 0
Small l = (i : ℕ) → slice_index l i < 256

none : Small []
none zero = omega arith
none (suc i) = omega arith

more : (a : ℕ) (l : List ℕ) → a < 256 → Small l → Small (a ∷ l)
more a l h f zero = h
more a l h f (suc i) = f i

pub small1 : (a : ℕ) → a < 256 → Small (a ∷ [])
small1 a h = more a [] h none

pub small2 : (a b : ℕ) → a < 256 → b < 256 → Small (a ∷ b ∷ [])
small2 a b h i = more a (b ∷ []) h (small1 b i)

pub small3 : (a b c : ℕ) → a < 256 → b < 256 → c < 256 → Small (a ∷ b ∷ c ∷ [])
small3 a b c h i j = more a (b ∷ c ∷ []) h (small2 b c i j)

pub small4 : (a b c d : ℕ) → a < 256 → b < 256 → c < 256 → d < 256 → Small (a ∷ b ∷ c ∷ d ∷ [])
small4 a b c d h i j k = more a (b ∷ c ∷ d ∷ []) h (small3 b c d i j k)

pub small_both : (x y : List ℕ) → Small x → Small y → Small (x ++ y)
small_both [] y f g i = g i
small_both (a ∷ x) y f g zero = f 0
small_both (a ∷ x) y f g (suc i) = small_both x y (λ j. f (suc j)) g i
