-- A byte that was put through a window is fetched from the medium underneath.
use Rattle.std.proofs.Common.{◌≡◌, ℕ, ◌+◌, ◌<◌, List, length, get_or, set, Ok, Err, Result, ap, ◌∙◌, subst, arith, length-set}
use Rattle.std.proofs.lemmas.List.{get_or-set_same}
use Rattle.medium.specs.Cells.{Cell, byte, lost, window}
use Rattle.medium.specs.Access.{Fetched}
use Rattle.medium.specs.declared.failure.MediumFault.{MediumFault}
use Rattle.medium.specs.declared.failure.MediumFault.TheVariants.{OutOfRange, Lost}
use Rattle.medium.proofs.Held.{byte_not_lost}
use Rattle.medium.proofs.Windows as win
use Rattle.media_checks.specs.After.{PutFetched}

-- a place of the window is a place of the medium
pub inside : (from len : ℕ) (cs : List Cell) (k : ℕ) → k < length (window from len cs) → from + k < length cs
inside from len cs k h = let e = win.size from len cs in omega arith

fetched : (cs ds seen : List Cell) (from k b : ℕ) (r : Result ℕ MediumFault) → from + k < length cs → ds ≡ set cs (from + k) (byte b) → Fetched ds (from + k) r → PutFetched cs seen from k b ds r
fetched cs ds seen from k b (Ok x) h e f =
    let p : get_or ds (from + k) lost ≡ byte b = ap (λ zs. get_or zs (from + k) lost) e ∙ get_or-set_same cs (from + k) (byte b) lost h in
    let q = f.1 in
    (cc, e)
fetched cs ds seen from k b (Err (OutOfRange p)) h e f = let l = ap length e ∙ length-set cs (from + k) (byte b) in absurd (omega arith)
fetched cs ds seen from k b (Err (Lost p)) h e f =
    absurd (byte_not_lost (get_or ds (from + k) lost) b (ap (λ zs. get_or zs (from + k) lost) e ∙ get_or-set_same cs (from + k) (byte b) lost h) f.2)

-- the same with the window's own numbers and cells, which are those that it was given
pub answer : (cs cs' ds seen : List Cell) (from from' len k b : ℕ) (r : Result ℕ MediumFault) → cs' ≡ cs → from' ≡ from → k < length (window from' len cs') → ds ≡ set cs' (from' + k) (byte b) → Fetched ds (from + k) r → PutFetched cs seen from k b ds r
answer cs cs' ds seen from from' len k b r c f h e g =
    let i : from' + k < length cs' = inside from' len cs' k h in
    fetched cs ds seen from k b r (subst (λ (n : ℕ). n + k < length cs) f (subst (λ (xs : List Cell). from' + k < length xs) c i)) (cc) g
