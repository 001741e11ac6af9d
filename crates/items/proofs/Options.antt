-- Answers that may be missing.
use Rattle.std.proofs.Common.{◌≡◌, ℕ, Some, None, arith}

pub none_some : {A B : Type 0} {x : A} → None ≡ Some x → B
none_some e = let z : ◌≡◌ {A = ℕ} 0 1 = cc in absurd (omega arith)

pub same-inside : {A : Type 0} {x y : A} → Some x ≡ Some y → x ≡ y
same-inside e = cc
