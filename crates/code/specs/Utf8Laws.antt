-- That UTF-8 keeps the laws of a text code.
use Rattle.std.specs.Prelude.{◌≡◌, ℕ, ◌+◌, ◌/◌, ◌%◌, ◌<◌, ◌≤◌, ◌⊎◌, List, length, take, slice_index, refl}
use Rattle.std.proofs.Common.{sym, subst, ◌∙◌, inl, inr, ⊎_elim, arith}
use Rattle.std.proofs.lemmas.Bool.{lt-ltb, le-ltb, cond-true, cond-false, cases_lt}
use Rattle.code.specs.Codes.{Scalar, Begins, Laws}
use Rattle.code.specs.Starts.{starts, Small, small1, small2, small3, small4}
use Rattle.code.specs.Utf8.{one, two, three, four, enc8}

pub enc8-one : (v : ℕ) → v < 128 → enc8 v ≡ one v
unfolding enc8
enc8-one v h = cond-true _ _ _ (lt-ltb v 128 h)

pub enc8-two : (v : ℕ) → 128 ≤ v → v < 2048 → enc8 v ≡ two v
unfolding enc8
enc8-two v l h = cond-false _ _ _ (le-ltb v 128 l) ∙ cond-true _ _ _ (lt-ltb v 2048 h)

pub enc8-three : (v : ℕ) → 2048 ≤ v → v < 65536 → enc8 v ≡ three v
unfolding enc8
enc8-three v l h = cond-false _ _ _ (le-ltb v 128 (omega arith)) ∙ cond-false _ _ _ (le-ltb v 2048 l) ∙ cond-true _ _ _ (lt-ltb v 65536 h)

pub enc8-four : (v : ℕ) → 65536 ≤ v → enc8 v ≡ four v
unfolding enc8
enc8-four v l = cond-false _ _ _ (le-ltb v 128 (omega arith)) ∙ cond-false _ _ _ (le-ltb v 2048 (omega arith)) ∙ cond-false _ _ _ (le-ltb v 65536 l)

-- what holds at each of the four forms holds of the bytes of v
pub by_width : (P : List ℕ → Type 0) (v : ℕ) → (v < 128 → P (one v)) → (128 ≤ v → v < 2048 → P (two v)) → (2048 ≤ v → v < 65536 → P (three v)) → (65536 ≤ v → P (four v)) → P (enc8 v)
by_width P v f1 f2 f3 f4 =
    ⊎_elim (λ h. subst P (sym (enc8-one v h)) (f1 h))
    (λ l. ⊎_elim (λ h. subst P (sym (enc8-two v l h)) (f2 l h))
    (λ l. ⊎_elim (λ h. subst P (sym (enc8-three v l h)) (f3 l h)) (λ l. subst P (sym (enc8-four v l)) (f4 l)) (cases_lt v 65536))
    (cases_lt v 2048))
    (cases_lt v 128)

abbrev pub IsOne : List ℕ → ℕ → Type 0
IsOne bs v = (v < 128) × (1 ≤ length bs) × (slice_index bs 0 ≡ v)

abbrev pub IsTwo : List ℕ → ℕ → Type 0
IsTwo bs v = (128 ≤ v) × (v < 2048) × (2 ≤ length bs) × (slice_index bs 0 ≡ 192 + v / 64) × (slice_index bs 1 ≡ 128 + v % 64)

abbrev pub IsThree : List ℕ → ℕ → Type 0
IsThree bs v = (2048 ≤ v) × (v < 65536) × (3 ≤ length bs) × (slice_index bs 0 ≡ 224 + v / 64 / 64) × (slice_index bs 1 ≡ 128 + v / 64 % 64) × (slice_index bs 2 ≡ 128 + v % 64)

abbrev pub IsFour : List ℕ → ℕ → Type 0
IsFour bs v = (65536 ≤ v) × (4 ≤ length bs) × (slice_index bs 0 ≡ 240 + v / 64 / 64 / 64) × (slice_index bs 1 ≡ 128 + v / 64 / 64 % 64) × (slice_index bs 2 ≡ 128 + v / 64 % 64) × (slice_index bs 3 ≡ 128 + v % 64)

abbrev pub Starts : List ℕ → List ℕ → Type 0
Starts bs l = take (length l) bs ≡ l

abbrev pub Forms : List ℕ → ℕ → Type 0
Forms bs v = IsOne bs v ⊎ (IsTwo bs v ⊎ (IsThree bs v ⊎ IsFour bs v))

-- where the bytes of v come first, the first bytes have one of the four forms
pub begins8 : (bs : List ℕ) (v : ℕ) → Begins enc8 v bs → Forms bs v
begins8 bs v =
    by_width (λ l. Starts bs l → Forms bs v) v
    (λ h b. let r = starts bs (one v) b in inl (h, r.0, r.1 0 (omega arith)))
    (λ l h b. let r = starts bs (two v) b in inr (inl (l, h, r.0, r.1 0 (omega arith), r.1 1 (omega arith))))
    (λ l h b. let r = starts bs (three v) b in inr (inr (inl (l, h, r.0, r.1 0 (omega arith), r.1 1 (omega arith), r.1 2 (omega arith)))))
    (λ l b. let r = starts bs (four v) b in inr (inr (inr (l, r.0, r.1 0 (omega arith), r.1 1 (omega arith), r.1 2 (omega arith), r.1 3 (omega arith)))))

apart8 : (v w : ℕ) → Scalar v → Scalar w → Begins enc8 v (enc8 w) → v ≡ w
apart8 v w sv sw =
    by_width (λ l. Begins enc8 v l → v ≡ w) w
    (λ h b. let x = begins8 (one w) v b in omega arith)
    (λ l h b. let x = begins8 (two w) v b in omega arith)
    (λ l h b. let x = begins8 (three w) v b in omega arith)
    (λ l b. let x = begins8 (four w) v b in omega arith)

bytes8 : (v : ℕ) → Scalar v → (i : ℕ) → slice_index (enc8 v) i < 256
bytes8 v s =
    by_width Small v
    (λ h. small1 _ (omega arith))
    (λ l h. small2 _ _ (omega arith) (omega arith))
    (λ l h. small3 _ _ _ (omega arith) (omega arith) (omega arith))
    (λ l. small4 _ _ _ _ (omega arith) (omega arith) (omega arith) (omega arith))

pub utf8_laws : Laws enc8 1
utf8_laws = record {
  some = λ v s. by_width (λ l. 1 ≤ length l) v (λ h. omega arith) (λ l h. omega arith) (λ l h. omega arith) (λ l. omega arith);
  few = λ v s. by_width (λ l. length l ≤ 4) v (λ h. omega arith) (λ l h. omega arith) (λ l h. omega arith) (λ l. omega arith);
  bytes = bytes8;
  apart = apart8;
  space = rw (enc8-one 32 (omega arith)) refl;
  newline = rw (enc8-one 10 (omega arith)) refl;
  whole = λ v s. (length (enc8 v), omega arith);
}
