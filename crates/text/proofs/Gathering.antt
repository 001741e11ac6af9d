-- The bytes from a place on, up to the fourth, a lost cell or the end: whether they begin with a character says whether one
-- stands there.
use Rattle.std.proofs.Common.{◌≡◌, ℕ, ◌+◌, ◌-◌, ◌<◌, ◌≤◌, min, ◌≢◌, List, [], ◌∷◌, ◌++◌, length, get_or, take, drop, Ok, Err, Result, MatchResult, sym, ap, ◌∙◌, subst, ap₂, ⊎_elim, arith, length-append, length-drop, length-take}
use lib.ListN.{length-map}
use Rattle.std.proofs.lemmas.List.{take-take, take-map, take_more, map_push, get_or-take, get_or-drop, get_or-map}
use Rattle.std.proofs.lemmas.Bool.{cases_lt}
use Rattle.medium.proofs.Held.{byte_not_lost, held_same}
use Rattle.medium.specs.Cells.{Cell, byte, held, lost}
use Rattle.medium.specs.declared.failure.MediumFault.TheVariants.{OutOfRange, Lost}
use Rattle.code.specs.Codes.{Scalar, Begins, Laws, Decoded}
use Rattle.code.specs.declared.failure.CodeFault.{CodeFault}
use Rattle.code.specs.declared.failure.CodeFault.TheVariants.{Unread, NoCharacter}
use Rattle.text.specs.Stands.{Holds, Cut, NoChar, CharAt}
use Rattle.text.specs.Gathers.{Ended}

-- one more byte
pub more : (cs : List Cell) (k : ℕ) (bs : List ℕ) (b : ℕ) → Holds cs k bs → k + length bs < length cs → get_or cs (k + length bs) lost ≡ byte b → Holds cs k (bs ++ b ∷ [])
more cs k bs b e l f =
    let n : length (bs ++ b ∷ []) ≡ length bs + 1 = simp length-append in
    ap (λ j. take j (drop k cs)) n
    ∙ take_more (drop k cs) (length bs) lost (simp length-drop (omega arith))
    ∙ ap₂ (λ xs x. xs ++ x ∷ []) e (get_or-drop k cs (length bs) lost ∙ f)
    ∙ sym (map_push byte bs b)

module _ (cs : List Cell) (k : ℕ) (bs : List ℕ) (hold : Holds cs k bs) where
  -- a cell that holds one of these bytes is not lost
  not_lost : (i : ℕ) → i < length bs → get_or cs (k + i) lost ≢ lost
  not_lost i h =
      byte_not_lost _ (get_or bs i 0)
      (sym (get_or-take (length bs) (drop k cs) i lost h ∙ get_or-drop k cs i lost) ∙ ap (λ c. get_or c i lost) hold ∙ get_or-map byte bs i 0 lost h)

  not_lost_from : (q : ℕ) → k ≤ q → q < k + length bs → get_or cs q lost ≢ lost
  not_lost_from q a h =
      let e : k + (q - k) ≡ q = omega arith in
      subst (λ j. get_or cs j lost ≢ lost) e (not_lost (q - k) (omega arith))

  within : length bs ≤ length cs - k
  within =
      let l = ap length hold in
      let m : length (take (length bs) (drop k cs)) ≡ min (length bs) (length cs - k) = simp (length-take, length-drop) in
      let n : length (held bs) ≡ length bs = length-map bs byte in
      omega arith

module _ (cs : List Cell) (k : ℕ) (bs : List ℕ) (hold : Holds cs k bs) where
  -- bytes that begin these stand there too
  front : (xs : List ℕ) → take (length xs) bs ≡ xs → Holds cs k xs
  front xs e =
      let l = ap length e in
      let m : length (take (length xs) bs) ≡ min (length xs) (length bs) = simp length-take in
      let h : length xs ≤ length bs = omega arith in
      sym (take-take (length xs) (length bs) (drop k cs) h) ∙ ap (take (length xs)) hold ∙ take-map byte (length xs) bs ∙ ap held e

  -- and what stands there and is not longer begins these
  begins : (xs : List ℕ) → length xs ≤ length bs → Holds cs k xs → take (length xs) bs ≡ xs
  begins xs h e =
      held_same (take (length xs) bs) xs
      (sym (take-map byte (length xs) bs) ∙ ap (take (length xs)) (sym hold) ∙ take-take (length xs) (length bs) (drop k cs) h ∙ e)

  -- nothing of at most four bytes that stands there is longer than these, by the reason that they ended
  not_longer : (f : CodeFault) → Ended cs k (length bs) f → (xs : List ℕ) → length xs ≤ 4 → Holds cs k xs → length xs ≤ length bs
  not_longer (Unread (OutOfRange p)) r xs h e = absurd r
  not_longer (Unread (Lost p)) r xs h e =
      ⊎_elim
      (λ l. absurd (not_lost cs k xs e (length bs) l (subst (λ j. get_or cs j lost ≡ lost) r.0 r.3)))
      (λ g. g)
      (cases_lt (length bs) (length xs))
  not_longer (NoCharacter p) r xs h e =
      ⊎_elim
      (λ l. let w = within cs k xs e in let z = r.1 (omega arith) in omega arith)
      (λ g. g)
      (cases_lt (length bs) (length xs))

  -- the lost cell behind these is the first of the four from k on; where there is none, none of the four is lost
  cut : (p : ℕ) → Ended cs k (length bs) (Unread (Lost p)) → Cut cs k p
  cut p r = (omega arith, omega arith, r.2, r.3, λ q a h. not_lost_from cs k bs hold q a (omega arith))

  uncut : (p : ℕ) → Ended cs k (length bs) (NoCharacter p) → (q : ℕ) → Cut cs k q → ⊥
  uncut p r q c =
      ⊎_elim
      (λ l. not_lost_from cs k bs hold q c.0 l c.3)
      (λ g. let z = r.1 (omega arith) in omega arith)
      (cases_lt q (k + length bs))

  module _ (enc : ℕ → List ℕ) (unit : ℕ) (laws : Laws enc unit) where
    none : (f : CodeFault) → Ended cs k (length bs) f → ((v : ℕ) → Scalar v → Begins enc v bs → ⊥) → NoChar enc cs k
    none f r n v s h = n v s (begins (enc v) (not_longer f r (enc v) (laws.few v s) h) h)

    refused_for : (f : CodeFault) → Ended cs k (length bs) f → ((v : ℕ) → Scalar v → Begins enc v bs → ⊥) → CharAt enc cs k (Err f)
    refused_for (Unread (OutOfRange p)) r n = r
    refused_for (Unread (Lost p)) r n = (none (Unread (Lost p)) r n, cut p r)
    refused_for (NoCharacter p) r n = (none (NoCharacter p) r n, r.0, uncut p r)

    refused_by : (d f : CodeFault) → Decoded enc bs (Err d) → Ended cs k (length bs) f → CharAt enc cs k (Err f)
    refused_by (Unread e) f n r = absurd n
    refused_by (NoCharacter p) f n r = refused_for f r n.1

-- what decode says of the bytes that were got, said of the cells: its character, or the fault that was kept for them
pub answered : (enc : ℕ → List ℕ) (cs : List Cell) (k : ℕ) (bs : List ℕ) (unit : ℕ) (f : CodeFault) (d r : Result (ℕ × ℕ) CodeFault) → Laws enc unit → Holds cs k bs → Ended cs k (length bs) f → Decoded enc bs d → MatchResult d (λ c. r ≡ Ok c) (λ _. r ≡ Err f) → CharAt enc cs k r
answered enc cs k bs unit f (Ok c) r laws hold end dec e = rw e (dec.0, front cs k bs hold (enc c.0) dec.1, dec.2)
answered enc cs k bs unit f (Err d) r laws hold end dec e = rw e (refused_by cs k bs hold enc unit laws d f dec end)
