-- Texts that stand at one place of a range: the one goes on where the other ends.
use Rattle.std.proofs.Common.{◌≡◌, ℕ, zero, suc, ◌+◌, ◌<◌, ◌≤◌, List, [], ◌∷◌, length, take, drop, Ok, Err, Result, sym, refl, ap, ◌∙◌, subst, ap₂, ⊎_elim, arith, length-append, length-take}
use Rattle.std.proofs.lemmas.Bool.{cases_order}
use Rattle.std.proofs.lemmas.List.{drop-take, take_all}
use Rattle.medium.specs.Cells.{Cell}
use Rattle.code.specs.Codes.{Laws}
use Rattle.code.specs.declared.failure.CodeFault.{CodeFault}
use Rattle.text.specs.Stands.{CharAt, Holds, NoChar, Scalars, Stands, bytes_of}
use Rattle.text.proofs.Standing as standing
use Rattle.packet.proofs.Walks as walks
use Rattle.decoding.specs.Passage.{Characters, DecodesRight}

module _ (enc : ℕ → List ℕ) (unit : ℕ) (laws : Laws enc unit) where
  size : (v : ℕ) (vs : List ℕ) → length (bytes_of enc (v ∷ vs)) ≡ length (enc v) + length (bytes_of enc vs)
  size v vs = length-append (enc v) (bytes_of enc vs)

  module _ (cs : List Cell) where
    -- two texts of as many bytes are one
    same_bytes : (k : ℕ) (xs ys : List ℕ) → length (bytes_of enc xs) ≡ length (bytes_of enc ys) → Stands enc cs k xs → Stands enc cs k ys → xs ≡ ys
    same_bytes k [] [] l p q = refl
    same_bytes k [] (y ∷ ys) l p q = absurd (omega (arith, size y ys, laws.some y q.0.0))
    same_bytes k (x ∷ xs) [] l p q = absurd (omega (arith, size x xs, laws.some x p.0.0))
    same_bytes k (x ∷ xs) (y ∷ ys) l p q =
        let e : x ≡ y = standing.only enc unit laws cs k x y p.0.0 q.0.0 (standing.stands_head enc unit laws cs k x xs p) (standing.stands_head enc unit laws cs k y ys q) in
        let m : length (enc x) ≡ length (enc y) = ap (λ v. length (enc v)) e in
        ap₂ ◌∷◌ e
        (same_bytes (k + length (enc x)) xs ys (omega (arith, size x xs, size y ys, m)) (standing.stands_tail enc unit laws cs k x xs p)
        (subst (λ v. Stands enc cs (k + length (enc v)) ys) (sym e) (standing.stands_tail enc unit laws cs k y ys q)))

    -- where a shorter text ends, a character of the longer stands
    goes_on : (k : ℕ) (xs ys : List ℕ) → length (bytes_of enc xs) < length (bytes_of enc ys) → Stands enc cs k xs → Stands enc cs k ys → NoChar enc cs (k + length (bytes_of enc xs)) → ⊥
    goes_on k xs [] l p q n = absurd (omega arith)
    goes_on k [] (y ∷ ys) l p q n = n y q.0.0 (subst (λ i. Holds cs i (enc y)) (omega arith) (standing.stands_head enc unit laws cs k y ys q))
    goes_on k (x ∷ xs) (y ∷ ys) l p q n =
        let e : x ≡ y = standing.only enc unit laws cs k x y p.0.0 q.0.0 (standing.stands_head enc unit laws cs k x xs p) (standing.stands_head enc unit laws cs k y ys q) in
        let m : length (enc x) ≡ length (enc y) = ap (λ v. length (enc v)) e in
        goes_on (k + length (enc x)) xs ys (omega (arith, size x xs, size y ys, m)) (standing.stands_tail enc unit laws cs k x xs p)
        (subst (λ v. Stands enc cs (k + length (enc v)) ys) (sym e) (standing.stands_tail enc unit laws cs k y ys q))
        (subst (NoChar enc cs) (omega (arith, size x xs)) n)

    -- no two answers are right
    module _ (k : ℕ) where
      shorter_fails : (xs ys : List ℕ) (f : CodeFault) → Stands enc cs k xs → Stands enc cs k ys → CharAt enc cs (k + length (bytes_of enc xs)) (Err f) → length (bytes_of enc xs) < length (bytes_of enc ys) → ⊥
      shorter_fails xs ys f p q c l =
          goes_on k xs ys l p q (walks.none_here enc unit laws cs (k + length (bytes_of enc xs)) f c)

      same_end : (xs ys : List ℕ) (f g : CodeFault) → Stands enc cs k xs → Stands enc cs k ys → CharAt enc cs (k + length (bytes_of enc xs)) (Err f) → CharAt enc cs (k + length (bytes_of enc ys)) (Err g) → f ≡ g
      same_end xs ys f g p q c d =
          ⊎_elim (λ e. walks.fault_once enc unit laws cs (k + length (bytes_of enc ys)) f g (subst (λ n. CharAt enc cs (k + n) (Err f)) e c) d)
          (λ o. ⊎_elim (λ h. absurd (shorter_fails xs ys f p q c h)) (λ h. absurd (shorter_fails ys xs g q p d h)) o)
          (cases_order (length (bytes_of enc xs)) (length (bytes_of enc ys)))

  once : (cs : List Cell) (k end : ℕ) (r s : Result (List ℕ) CodeFault) → Characters enc cs k end r → Characters enc cs k end s → r ≡ s
  once cs k end (Ok xs) (Ok ys) p q = ap Ok (same_bytes (take end cs) k xs ys (omega (arith, p.1, q.1)) p.0 q.0)
  once cs k end (Ok xs) (Err g) p q = absurd (shorter_fails (take end cs) k q.0 xs g q.1 p.0 q.3 (omega (arith, p.1, q.2)))
  once cs k end (Err f) (Ok ys) p q = absurd (shorter_fails (take end cs) k p.0 ys f p.1 q.0 p.3 (omega (arith, p.2, q.1)))
  once cs k end (Err f) (Err g) p q = ap Err (same_end (take end cs) k p.0 q.0 f g p.1 q.1 p.3 q.3)

  -- a range holds what the whole medium holds in it
  in_range : (cs : List Cell) (k : ℕ) (bs : List ℕ) → Holds cs k bs → Holds (take (k + length bs) cs) k bs
  in_range cs k bs h = ap (take (length bs)) (drop-take k (length bs) cs) ∙ take_all (length bs) (take (length bs) (drop k cs)) short ∙ h
    where
      short : length (take (length bs) (drop k cs)) ≤ length bs
      short = omega (arith, length-take (length bs) (drop k cs))

  back : (cs : List Cell) (k : ℕ) (vs : List ℕ) → Scalars vs → Holds cs k (bytes_of enc vs) → Characters enc cs k (k + length (bytes_of enc vs)) (Ok vs)
  back cs k vs s h = ((s, in_range cs k (bytes_of enc vs) h), refl)

  -- characters further on begin at higher places
  grows : (vs : List ℕ) (i j : ℕ) → Scalars vs → i < j → i < length vs → length (bytes_of enc (take i vs)) < length (bytes_of enc (take j vs))
  grows [] i j s l h = absurd (omega arith)
  grows (v ∷ vs) i zero s l h = absurd (omega arith)
  grows (v ∷ vs) zero (suc j) s l h = omega (arith, size v (take j vs), laws.some v s.0)
  grows (v ∷ vs) (suc i) (suc j) s l h =
      let r = grows vs i j s.1 (omega arith) (omega arith) in
      omega (arith, size v (take i vs), size v (take j vs), r)

pub decodes_right : DecodesRight
decodes_right enc unit laws =
    record {
      once = once enc unit laws;
      back = back enc unit laws;
      rising = λ k vs i j s l h. omega (arith, grows enc unit laws vs i j s l h);
    }
