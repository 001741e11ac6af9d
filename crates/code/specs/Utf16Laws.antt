-- That UTF-16 keeps the laws of a text code, whatever the order of the bytes.
use Rattle.std.specs.Prelude.{◌≡◌, ℕ, ◌*◌, ◌/◌, ◌%◌, ◌<◌, ◌≤◌, ◌⊎◌, List, ◌++◌, length, take, drop, ◌≢◌, slice_index, refl}
use Rattle.std.proofs.Common.{sym, subst, ◌∙◌, inl, inr, ⊎_elim, arith, length-append}
use Rattle.std.proofs.lemmas.List.{take_all}
use Rattle.std.proofs.lemmas.Bool.{lt-ltb, le-ltb, cond-true, cond-false, cases_lt}
use Rattle.code.specs.Codes.{Scalar, Begins, Laws}
use Rattle.code.specs.Starts.{starts_two, starts_four, Small, small2, small_both}
use Rattle.code.specs.Utf16.{Order, big_pair, little_pair, leading, trailing, enc16}

pub big_order : Order big_pair
big_order = record {
  two = λ u. refl;
  bytes = λ u h. small2 _ _ (omega arith) (omega arith);
  apart = λ u w h k e. let p : u / 256 ≡ w / 256 = cc in let q : u % 256 ≡ w % 256 = cc in omega arith;
}

pub little_order : Order little_pair
little_order = record {
  two = λ u. refl;
  bytes = λ u h. small2 _ _ (omega arith) (omega arith);
  apart = λ u w h k e. let p : u / 256 ≡ w / 256 = cc in let q : u % 256 ≡ w % 256 = cc in omega arith;
}

pub enc16-one : (pair : ℕ → List ℕ) (v : ℕ) → v < 65536 → enc16 pair v ≡ pair v
unfolding enc16
enc16-one pair v h = cond-true _ _ _ (lt-ltb v 65536 h)

pub enc16-two : (pair : ℕ → List ℕ) (v : ℕ) → 65536 ≤ v → enc16 pair v ≡ pair (leading v) ++ pair (trailing v)
unfolding enc16
enc16-two pair v h = cond-false _ _ _ (le-ltb v 65536 h)

-- what holds at both forms holds of the bytes of v
pub by_units : (pair : ℕ → List ℕ) (P : List ℕ → Type 0) (v : ℕ) → (v < 65536 → P (pair v)) → (65536 ≤ v → P (pair (leading v) ++ pair (trailing v))) → P (enc16 pair v)
by_units pair P v f g = ⊎_elim (λ h. subst P (sym (enc16-one pair v h)) (f h)) (λ h. subst P (sym (enc16-two pair v h)) (g h)) (cases_lt v 65536)

abbrev pub IsOne : (ℕ → List ℕ) → List ℕ → ℕ → Type 0
IsOne pair bs v = (v < 65536) × (2 ≤ length bs) × (take 2 bs ≡ pair v)

abbrev pub IsTwo : (ℕ → List ℕ) → List ℕ → ℕ → Type 0
IsTwo pair bs v = (65536 ≤ v) × (4 ≤ length bs) × (take 2 bs ≡ pair (leading v)) × (take 2 (drop 2 bs) ≡ pair (trailing v))

-- where the bytes of v come first, the first units are those of v
pub begins16 : (pair : ℕ → List ℕ) → Order pair → (bs : List ℕ) (v : ℕ) → Begins (enc16 pair) v bs → IsOne pair bs v ⊎ IsTwo pair bs v
begins16 pair o bs v =
    by_units pair (λ l. take (length l) bs ≡ l → IsOne pair bs v ⊎ IsTwo pair bs v) v
    (λ h b. let r = starts_two bs _ (o.two v) b in inl (h, r.0, r.1))
    (λ h b. let r = starts_four bs _ _ (o.two (leading v)) (o.two (trailing v)) b in inr (h, r.0, r.1, r.2))

-- v has two units, the first of them a
abbrev pub SecondToo : (ℕ → List ℕ) → List ℕ → ℕ → ℕ → Type 0
SecondToo pair bs a v = (65536 ≤ v) × (4 ≤ length bs) × (a ≡ leading v) × (take 2 (drop 2 bs) ≡ pair (trailing v))

-- what the first unit tells of v
pub reads16 : (pair : ℕ → List ℕ) → Order pair → (bs : List ℕ) (a v : ℕ) → a < 65536 → take 2 bs ≡ pair a → Scalar v → Begins (enc16 pair) v bs → (a ≡ v) ⊎ SecondToo pair bs a v
reads16 pair o bs a v h e s b =
    ⊎_elim
    (λ (r : IsOne pair bs v). inl (o.apart a v h r.0 (sym e ∙ r.2)))
    (λ (r : IsTwo pair bs v). inr (r.0, r.1, o.apart a (leading v) h (omega arith) (sym e ∙ r.2), r.3))
    (begins16 pair o bs v b)

-- no number of one unit has that unit for a surrogate
lone : (u v : ℕ) → Scalar u → Scalar v → 65536 ≤ v → u ≢ leading v
lone u v s t h e = omega (arith, s.1 (omega arith))

-- the first unit of w tells v, if it is the only one, and if there is a second
apart_one : (pair : ℕ → List ℕ) → Order pair → (v w : ℕ) → Scalar v → Scalar w → Begins (enc16 pair) v (enc16 pair w) → IsOne pair (enc16 pair w) w → v ≡ w
apart_one pair o v w sv sw b p =
    ⊎_elim sym
    (λ (q : SecondToo pair (enc16 pair w) w v). absurd (lone w v sw sv q.0 q.2))
    (reads16 pair o (enc16 pair w) w v p.0 p.2 sv b)

both_units : (v w : ℕ) → 65536 ≤ v → 65536 ≤ w → leading v ≡ leading w → trailing v ≡ trailing w → v ≡ w
both_units v w h k d e = omega arith

apart_two : (pair : ℕ → List ℕ) → Order pair → (v w : ℕ) → Scalar v → Scalar w → Begins (enc16 pair) v (enc16 pair w) → IsTwo pair (enc16 pair w) w → v ≡ w
apart_two pair o v w sv sw b p =
    ⊎_elim
    (λ (e : leading w ≡ v). absurd (lone v w sv sw p.0 (sym e)))
    (λ (q : SecondToo pair (enc16 pair w) (leading w) v). both_units v w q.0 p.0 (sym q.2) (o.apart (trailing v) (trailing w) (omega arith) (omega arith) (sym q.3 ∙ p.3)))
    (reads16 pair o (enc16 pair w) (leading w) v (omega arith) p.2 sv b)

apart16 : (pair : ℕ → List ℕ) → Order pair → (v w : ℕ) → Scalar v → Scalar w → Begins (enc16 pair) v (enc16 pair w) → v ≡ w
apart16 pair o v w sv sw b =
    ⊎_elim (apart_one pair o v w sv sw b) (apart_two pair o v w sv sw b)
    (begins16 pair o (enc16 pair w) w (take_all (length (enc16 pair w)) (enc16 pair w) (omega arith)))

bytes16 : (pair : ℕ → List ℕ) → Order pair → (v : ℕ) → Scalar v → (i : ℕ) → slice_index (enc16 pair v) i < 256
bytes16 pair o v s =
    by_units pair Small v
    (λ h. o.bytes v h)
    (λ h. small_both (pair (leading v)) (pair (trailing v)) (o.bytes (leading v) (omega arith)) (o.bytes (trailing v) (omega arith)))

pub size-two : (pair : ℕ → List ℕ) → Order pair → (a b : ℕ) → length (pair a ++ pair b) ≡ 4
size-two pair o a b = rw (length-append, o.two a, o.two b) refl

pub utf16_laws : (pair : ℕ → List ℕ) → Order pair → Laws (enc16 pair) 2
utf16_laws pair o = record {
  some = λ v s. by_units pair (λ l. 1 ≤ length l) v (λ h. omega (arith, o.two v)) (λ h. omega (arith, size-two pair o (leading v) (trailing v)));
  few = λ v s. by_units pair (λ l. length l ≤ 4) v (λ h. omega (arith, o.two v)) (λ h. omega (arith, size-two pair o (leading v) (trailing v)));
  bytes = bytes16 pair o;
  apart = apart16 pair o;
  space = rw (enc16-one pair 32 (omega arith)) (o.two 32);
  newline = rw (enc16-one pair 10 (omega arith)) (o.two 10);
  whole = λ v s. by_units pair (λ l. (n : ℕ) × (length l ≡ n * 2)) v (λ h. (1, o.two v)) (λ h. (2, size-two pair o (leading v) (trailing v)));
}
