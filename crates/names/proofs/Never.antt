-- Two different constructors are never equal: of an equation between them `never cc` proves anything.
use Rattle.std.proofs.Common.{◌≡◌, ℕ, arith}

pub never : {A : Type 0} → ◌≡◌ {A = ℕ} 0 1 → A
never e = absurd (omega arith)
