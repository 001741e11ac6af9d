-- How many bytes a character has: some, and no more than there are.
use Rattle.std.proofs.Common.{◌≡◌, ℕ, ◌<◌, ◌≤◌, min, List, length, Ok, Err, Result, sym, ap, ◌∙◌, arith, length-take}
use Rattle.std.specs.Result.{result_unwrap_or}
use Rattle.code.specs.Codes.{Laws, Decoded}
use Rattle.code.specs.declared.failure.CodeFault.{CodeFault}

module _ (enc : ℕ → List ℕ) (unit : ℕ) (laws : Laws enc unit) (bs : List ℕ) where
  -- at least one byte, and no more than there are
  abbrev pub Front : ℕ × ℕ → Type 0
  Front c = (0 < c.1) × (c.1 ≤ length bs)

  decoded : (c : ℕ × ℕ) → Decoded enc bs (Ok c) → Front c
  decoded c d =
      let one : 1 ≤ length (enc c.0) = laws.some c.0 d.0 in
      let least : min (length (enc c.0)) (length bs) ≡ length (enc c.0) = sym (length-take (length (enc c.0)) bs) ∙ ap length d.1 in
      let count = d.2 in
      (omega arith, omega arith)

  -- so it is with the character that comes first, or with what is taken in its place
  pub front : (d : Result (ℕ × ℕ) CodeFault) (c : ℕ × ℕ) → Decoded enc bs d → Front c → Front (result_unwrap_or d c)
  front (Ok x) c d h = decoded x d
  front (Err e) c d h = h
