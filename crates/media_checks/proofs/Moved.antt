-- From what a medium leaves to what its lender has back.
use Rattle.std.proofs.Common.{◌≡◌, ℕ, List, Result, sym, subst}
use Rattle.medium.specs.declared.failure.MediumFault.{MediumFault}
use Rattle.medium.specs.Cells.{Cell}
use Rattle.medium.specs.Access.{Put}

-- what holds of the lent as the medium left it holds of what comes back
pub ended : {A : Type 0} (P : A → Type 0) {y : A} (x : A) → y ≡ x → P x → P y
ended P x e p = subst P (sym e) p

-- a put on one list of cells is a put on an equal one
pub from_start : (cs cs' ds : List Cell) (k b : ℕ) (r : Result (Unit {0}) MediumFault) → cs ≡ cs' → Put cs k b ds r → Put cs' k b ds r
from_start cs cs' ds k b r e p = subst (λ xs. Put xs k b ds r) e p
