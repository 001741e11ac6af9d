-- Texts that stand one behind the other, and that no two characters stand at one place.
use Rattle.std.proofs.Common.{◌≡◌, ℕ, ◌+◌, ◌-◌, ◌<◌, ◌≤◌, min, ◌==◌, Bool, true, false, Option, Some, List, [], ◌∷◌, ◌++◌, length, get_or, take, drop, sym, refl, ap, ◌∙◌, subst, ap₂, ⊎_elim, arith, length-append, length-drop, length-take}
use lib.ListN.{length-map}
use Rattle.std.proofs.lemmas.List.{append_assoc, map-append, take-append-drop, drop-drop, take_at, drop_at, take-take, drop-take, take-map, drop_more, take_more, append-nil}
use Rattle.std.specs.Bool.{then_some}
use Rattle.std.proofs.lemmas.Bool.{cases_lt, eqb-true, eqb-false}
use Rattle.medium.proofs.Held.{held_same}
use Rattle.medium.specs.Cells.{Cell, byte, held}
use Rattle.code.specs.Codes.{Scalar, Begins, Laws}
use Rattle.text.specs.Stands.{Holds, Stepped, Expected, bytes_of, Scalars, Stands}

-- how far bytes that stand reach
pub reach : (cs : List Cell) (k : ℕ) (bs : List ℕ) → 1 ≤ length bs → Holds cs k bs → k + length bs ≤ length cs
reach cs k bs h e =
    let l = ap length e in
    let m : length (take (length bs) (drop k cs)) ≡ min (length bs) (length cs - k) = simp (length-take, length-drop) in
    let n : length (held bs) ≡ length bs = length-map bs byte in
    omega arith

-- bytes one behind the other
pub front : (cs : List Cell) (k : ℕ) (xs ys : List ℕ) → Holds cs k (xs ++ ys) → Holds cs k xs
front cs k xs ys e =
    sym (take-take (length xs) (length (xs ++ ys)) (drop k cs) (rw length-append (omega arith)))
    ∙ ap (take (length xs)) (e ∙ map-append byte xs ys)
    ∙ take_at (held xs) (held ys) (length xs) (length-map xs byte)

pub back : (cs : List Cell) (k : ℕ) (xs ys : List ℕ) → Holds cs k (xs ++ ys) → Holds cs (k + length xs) ys
back cs k xs ys e =
    ap (take (length ys)) (sym (drop-drop (length xs) k cs))
    ∙ sym (drop-take (length xs) (length ys) (drop k cs))
    ∙ ap (λ n. drop (length xs) (take n (drop k cs))) (sym (length-append xs ys))
    ∙ ap (drop (length xs)) (e ∙ map-append byte xs ys)
    ∙ drop_at (held xs) (held ys) (length xs) (length-map xs byte)

take_add : {A : Type 0} (m n : ℕ) (l : List A) → take (m + n) l ≡ take m l ++ take n (drop m l)
take_add m n l =
    sym (take-append-drop m (take (m + n) l)) ∙ ap₂ ◌++◌ (take-take m (m + n) l (omega arith)) (drop-take m n l)

pub join : (cs : List Cell) (k : ℕ) (xs ys : List ℕ) → Holds cs k xs → Holds cs (k + length xs) ys → Holds cs k (xs ++ ys)
join cs k xs ys e f =
    ap (λ n. take n (drop k cs)) (length-append xs ys)
    ∙ take_add (length xs) (length ys) (drop k cs)
    ∙ ap₂ ◌++◌ e (ap (take (length ys)) (drop-drop (length xs) k cs) ∙ f)
    ∙ sym (map-append byte xs ys)

module _ (enc : ℕ → List ℕ) (unit : ℕ) (laws : Laws enc unit) where
  begins : (cs : List Cell) (k v w : ℕ) → length (enc v) ≤ length (enc w) → Holds cs k (enc v) → Holds cs k (enc w) → Begins enc v (enc w)
  begins cs k v w h e f =
      held_same (take (length (enc v)) (enc w)) (enc v)
      (sym (take-map byte (length (enc v)) (enc w)) ∙ ap (take (length (enc v))) (sym f) ∙ take-take (length (enc v)) (length (enc w)) (drop k cs) h ∙ e)

  -- at most one character stands at a place
  pub only : (cs : List Cell) (k v w : ℕ) → Scalar v → Scalar w → Holds cs k (enc v) → Holds cs k (enc w) → v ≡ w
  only cs k v w sv sw e f =
      ⊎_elim (λ h. laws.apart v w sv sw (begins cs k v w (omega arith) e f)) (λ h. sym (laws.apart w v sw sv (begins cs k w v (omega arith) f e)))
      (cases_lt (length (enc v)) (length (enc w)))

  -- the character that stands at a place, taken if it is the one that is wanted
  pub expected : (cs : List Cell) (k v e w : ℕ) (r : Option ℕ) → Stepped enc cs k (Some (v, e)) → r ≡ then_some (v == w) e → Expected enc cs k w r
  expected cs k v e w r s p = rw p (by (v == w) refl)
    where
      by : (b : Bool) → (v == w) ≡ b → Expected enc cs k w (then_some b e)
      by true q = subst (λ (x : ℕ). Expected enc cs k x (Some e)) (eqb-true v w q) s
      by false q = λ t h. eqb-false v w q (only cs k v w s.0 t s.1 h)

  pub bytes_append : (xs ys : List ℕ) → bytes_of enc (xs ++ ys) ≡ bytes_of enc xs ++ bytes_of enc ys
  bytes_append [] ys = refl
  bytes_append (x ∷ xs) ys = ap (λ zs. enc x ++ zs) (bytes_append xs ys) ∙ sym (append_assoc (enc x) (bytes_of enc xs) (bytes_of enc ys))

  scalars_append : (xs ys : List ℕ) → Scalars xs → Scalars ys → Scalars (xs ++ ys)
  scalars_append [] ys p q = q
  scalars_append (x ∷ xs) ys p q = (p.0, scalars_append xs ys p.1 q)

  scalars_split : (xs ys : List ℕ) → Scalars (xs ++ ys) → Scalars xs × Scalars ys
  scalars_split [] ys p = (tt, p)
  scalars_split (x ∷ xs) ys p = let r = scalars_split xs ys p.1 in ((p.0, r.0), r.1)

  -- a text in two parts
  pub stands_join : (cs : List Cell) (k : ℕ) (xs ys : List ℕ) → Stands enc cs k xs → Stands enc cs (k + length (bytes_of enc xs)) ys → Stands enc cs k (xs ++ ys)
  stands_join cs k xs ys p q =
      (scalars_append xs ys p.0 q.0, subst (Holds cs k) (sym (bytes_append xs ys)) (join cs k (bytes_of enc xs) (bytes_of enc ys) p.1 q.1))

  pub stands_front : (cs : List Cell) (k : ℕ) (xs ys : List ℕ) → Stands enc cs k (xs ++ ys) → Stands enc cs k xs
  stands_front cs k xs ys p =
      ((scalars_split xs ys p.0).0, front cs k (bytes_of enc xs) (bytes_of enc ys) (subst (Holds cs k) (bytes_append xs ys) p.1))

  pub stands_back : (cs : List Cell) (k : ℕ) (xs ys : List ℕ) → Stands enc cs k (xs ++ ys) → Stands enc cs (k + length (bytes_of enc xs)) ys
  stands_back cs k xs ys p =
      ((scalars_split xs ys p.0).1, back cs k (bytes_of enc xs) (bytes_of enc ys) (subst (Holds cs k) (bytes_append xs ys) p.1))

  -- a text and its first character
  pub stands_more : (cs : List Cell) (k v : ℕ) (vs : List ℕ) → Scalar v → Holds cs k (enc v) → Stands enc cs (k + length (enc v)) vs → Stands enc cs k (v ∷ vs)
  stands_more cs k v vs s h p = ((s, p.0), join cs k (enc v) (bytes_of enc vs) h p.1)

  pub stands_head : (cs : List Cell) (k v : ℕ) (vs : List ℕ) → Stands enc cs k (v ∷ vs) → Holds cs k (enc v)
  stands_head cs k v vs p = front cs k (enc v) (bytes_of enc vs) p.1

  pub stands_tail : (cs : List Cell) (k v : ℕ) (vs : List ℕ) → Stands enc cs k (v ∷ vs) → Stands enc cs (k + length (enc v)) vs
  stands_tail cs k v vs p = (p.0.1, back cs k (enc v) (bytes_of enc vs) p.1)

  -- the character at an index of a text that stands
  pub at_index : (cs : List Cell) (k : ℕ) (w : List ℕ) (i : ℕ) → i < length w → Stands enc cs k w → Scalar (get_or w i 0) × Holds cs (k + length (bytes_of enc (take i w))) (enc (get_or w i 0))
  at_index cs k w i h p =
      let q = subst (Stands enc cs k) (sym (take-append-drop i w)) p in
      let r = subst (Stands enc cs (k + length (bytes_of enc (take i w)))) (drop_more w i 0 h) (stands_back cs k (take i w) (drop i w) q) in
      (r.0.0, stands_head cs (k + length (bytes_of enc (take i w))) (get_or w i 0) (drop (i + 1) w) r)

  -- one character more of a text that stands so far
  pub word_more : (cs : List Cell) (k : ℕ) (w : List ℕ) (i b e : ℕ) → i < length w → Stands enc cs k (take i w) → b ≡ k + length (bytes_of enc (take i w)) → Scalar (get_or w i 0) → Holds cs b (enc (get_or w i 0)) → e ≡ b + length (enc (get_or w i 0)) → Stands enc cs k (take (i + 1) w) × (e ≡ k + length (bytes_of enc (take (i + 1) w)))
  word_more cs k w i b e h p q s t r =
      let x = get_or w i 0 in
      let here : Holds cs (k + length (bytes_of enc (take i w))) (enc x) = subst (λ n. Holds cs n (enc x)) q t in
      let one : Stands enc cs (k + length (bytes_of enc (take i w))) (x ∷ []) = stands_more cs _ x [] s here (tt, refl) in
      let long : length (bytes_of enc (take (i + 1) w)) ≡ length (bytes_of enc (take i w)) + length (enc x) =
      ap (λ zs. length (bytes_of enc zs)) (take_more w i 0 h) ∙ ap length (bytes_append (take i w) (x ∷ []))
      ∙ length-append (bytes_of enc (take i w)) (enc x ++ []) ∙ ap (λ zs. length (bytes_of enc (take i w)) + length zs) (append-nil (enc x)) in
      (subst (Stands enc cs k) (sym (take_more w i 0 h)) (stands_join cs k (take i w) (x ∷ []) p one), omega arith)

  -- texts of as many characters that stand at one place are one text
  pub same_text : (cs : List Cell) (k : ℕ) (xs ys : List ℕ) → length xs ≡ length ys → Stands enc cs k xs → Stands enc cs k ys → xs ≡ ys
  same_text cs k [] [] l p q = refl
  same_text cs k [] (y ∷ ys) l p q = absurd (omega arith)
  same_text cs k (x ∷ xs) [] l p q = absurd (omega arith)
  same_text cs k (x ∷ xs) (y ∷ ys) l p q =
      let e : x ≡ y = only cs k x y p.0.0 q.0.0 (stands_head cs k x xs p) (stands_head cs k y ys q) in
      ap₂ ◌∷◌ e
      (same_text cs (k + length (enc x)) xs ys (omega arith) (stands_tail cs k x xs p) (subst (λ (z : ℕ). Stands enc cs (k + length (enc z)) ys) (sym e) (stands_tail cs k y ys q)))
