-- The ways out of decode.
use Rattle.std.proofs.Common.{◌≡◌, ℕ, List, length, Some, None, Option, Ok, Err, ◌≤◌, refl}
use Rattle.std.specs.Option.{ok_or}
use Rattle.code.specs.Codes.{Scalar, Begins, Decoded, Tested}
use Rattle.code.specs.Tails.{TailBits}
use Rattle.code.specs.Utf8.{enc8}
use Rattle.code.specs.declared.failure.CodeFault.{CodeFault}
use Rattle.code.specs.declared.failure.CodeFault.TheVariants.{Unread, NoCharacter}
use Rattle.code.proofs.Forms8.{NoneFirst}

-- the bytes of v come first, and are n
pub answered : (enc : ℕ → List ℕ) (bs : List ℕ) (v ch n : ℕ) → Tested v (Ok ch) → Begins enc v bs × (n ≡ length (enc v)) → Decoded enc bs (Ok (ch, n))
answered enc bs v ch n t f = rw t.1 (t.0, f.0, f.1)

-- only v could come first, and it is no scalar value
pub no_scalar : (enc : ℕ → List ℕ) (bs : List ℕ) (v : ℕ) (e : CodeFault) → Tested v (Err e) → ((w : ℕ) → Begins enc w bs → w ≡ v) → Decoded enc bs (Err e)
no_scalar enc bs v (NoCharacter p) t f = (t.0, λ w s b. let q = f w b in t.1 (rw q at s))
no_scalar enc bs v (Unread e) t f = t

pub not_scalar : (v : ℕ) (e : CodeFault) → Tested v (Err e) → Scalar v → ⊥
not_scalar v (NoCharacter p) t = t.1
not_scalar v (Unread e) t = absurd t

-- one of the bytes is no tail byte
pub no_tail : (bs : List ℕ) (b : ℕ) (e : CodeFault) → TailBits b (Err e) → ((128 ≤ b → 192 ≤ b) → NoneFirst bs) → Decoded enc8 bs (Err e)
no_tail bs b (NoCharacter p) t f = (t.0, f t.1)
no_tail bs b (Unread e) t f = t

-- there is no number, so no character either
pub none_made : {X : Type 0} (enc : ℕ → List ℕ) (bs : List ℕ) (o : Option X) (e : CodeFault) → o ≡ None → Err e ≡ ok_or o (NoCharacter 0) → ((v : ℕ) → Scalar v → Begins enc v bs → ⊥) → Decoded enc bs (Err e)
none_made {X} enc bs None e n h f = let q : e ≡ NoCharacter 0 = cc in rw q (refl, f)
none_made {X} enc bs (Some x) e n h f = let z : ◌≡◌ {A = Option X} (Some x) None = n in absurd cc
