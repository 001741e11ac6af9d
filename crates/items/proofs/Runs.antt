-- Ends of marked sections and of instructions, where they must not stand.
use Rattle.std.proofs.Common.{◌≡◌, ℕ, true, false, ◌&&◌, eqb, List, [], ◌∷◌, length, refl, ap, ⊎_elim, arith}
use Rattle.std.proofs.lemmas.Bool.{eqb-true, both_ways, and_parts, cases_Bool, or_from, or_parts}
use Rattle.names.specs.Order.{Text}
use Rattle.items.specs.Tokens.{Piece, literal}
use Rattle.items.specs.Grammar.{NoCdataEnd, NoInstructionEnd}
use Rattle.items.specs.Scan.{is_literal, ends_here, has_cdata_end}

-- lists that are the same have the same head and the same tail
module _ {A : Type 0} {x y : A} {xs ys : List A} where
  pub same_head : x ∷ xs ≡ y ∷ ys → x ≡ y
  same_head e = cc

  pub same-tail : x ∷ xs ≡ y ∷ ys → xs ≡ ys
  same-tail e = cc

pub nil_cons : {A B : Type 0} {x : A} {xs : List A} → [] ≡ x ∷ xs → B
nil_cons e = let n = ap length e in absurd (omega arith)

-- `]]>` in a run
is_literal_lem : (c : ℕ) (p : Piece) → is_literal c p ≡ true → p ≡ literal c
is_literal_lem c p e =
    let h = and_parts (eqb p.width 1) (eqb p.char c) e in
    let w = eqb-true p.width 1 h.0 in
    let d = eqb-true p.char c h.1 in
    λ i. record { width = w i; char = d i }

ends_here_lem : (ps : List Piece) → ends_here ps ≡ true → (zs : List Piece) × (ps ≡ literal 93 ∷ literal 93 ∷ literal 62 ∷ zs)
ends_here_lem [] e = absurd (both_ways false refl e)
ends_here_lem (a ∷ []) e = absurd (both_ways false refl e)
ends_here_lem (a ∷ b ∷ []) e = absurd (both_ways false refl e)
ends_here_lem (a ∷ b ∷ c ∷ zs) e =
    let h = and_parts (is_literal 93 a) (is_literal 93 b && is_literal 62 c) e in
    let k = and_parts (is_literal 93 b) (is_literal 62 c) h.1 in
    (zs, rw (is_literal_lem 93 a h.0, is_literal_lem 93 b k.0, is_literal_lem 62 c k.1))

pub run_clean : (ps : List Piece) → NoCdataEnd ps → has_cdata_end ps ≡ false
unfolding has_cdata_end
run_clean [] h = refl
run_clean (p ∷ ps) h =
    or_from (ends_here (p ∷ ps)) (has_cdata_end ps)
    (⊎_elim (λ e. let z = ends_here_lem (p ∷ ps) e in absurd (h [] z.0 z.1)) (λ e. e) (cases_Bool (ends_here (p ∷ ps))))
    (run_clean ps (λ ys zs e. h (p ∷ ys) zs (ap (λ qs. p ∷ qs) e)))

pub clean_run : (ps : List Piece) → has_cdata_end ps ≡ false → NoCdataEnd ps
unfolding has_cdata_end
clean_run [] h [] zs e = nil_cons e
clean_run [] h (y ∷ ys) zs e = nil_cons e
clean_run (p ∷ ps) h [] zs e = both_ways (ends_here (p ∷ ps)) (or_parts (ends_here (p ∷ ps)) (has_cdata_end ps) h).0 (ap ends_here e)
clean_run (p ∷ ps) h (y ∷ ys) zs e = clean_run ps (or_parts (ends_here (p ∷ ps)) (has_cdata_end ps) h).1 ys zs (same-tail e)

-- `?>` in the data of an instruction
pub no_end_nil : NoInstructionEnd []
no_end_nil [] zs e = nil_cons e
no_end_nil (y ∷ ys) zs e = nil_cons e

pub no_end_cons : (c : ℕ) (t : Text) → (c ≡ 63 → (zs : Text) → t ≡ 62 ∷ zs → ⊥) → NoInstructionEnd t → NoInstructionEnd (c ∷ t)
no_end_cons c t f h [] zs e = f (same_head e) zs (same-tail e)
no_end_cons c t f h (y ∷ ys) zs e = h ys zs (same-tail e)

pub no_end_tail : (c : ℕ) (t : Text) → NoInstructionEnd (c ∷ t) → NoInstructionEnd t
no_end_tail c t h ys zs e = h (c ∷ ys) zs (ap (λ u. c ∷ u) e)
