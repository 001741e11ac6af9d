-- A part of some cells as a medium of its own.
use Rattle.std.proofs.Common.{◌≡◌, ℕ, ◌+◌, ◌-◌, ◌<◌, min, List, length, get_or, take, drop, set, Ok, Err, Result, sym, refl, ap, ◌∙◌, arith, length-drop, length-take}
use lib.Seq.{take-set-lt}
use Rattle.std.proofs.lemmas.List.{get_or-take, get_or-drop, drop-set-add, drop-set-lt, take-set-le}
use Rattle.medium.specs.Cells.{Cell, byte, lost, window}
use Rattle.std.specs.Result.{MatchResult, IsErrAnd}
use Rattle.medium.specs.Access.{Fetched, Refuses, Put, Replaced}
use Rattle.medium.specs.declared.failure.MediumFault.{MediumFault}
use Rattle.medium.specs.declared.failure.MediumFault.TheVariants.{OutOfRange, Lost}

pub size : (from len : ℕ) (cs : List Cell) → length (window from len cs) ≡ min len (length cs - from)
size from len cs = simp (length-take, length-drop)

pub at : (from len : ℕ) (cs : List Cell) (k : ℕ) → k < length (window from len cs) → get_or (window from len cs) k lost ≡ get_or cs (from + k) lost
at from len cs k h =
    let e = size from len cs in
    let l : k < len = omega arith in
    get_or-take len (drop from cs) k lost l ∙ get_or-drop from cs k lost

-- underneath, such a place can only be lost
pub refused : (from len : ℕ) (cs : List Cell) (k : ℕ) (e : MediumFault) → k < length (window from len cs) → Refuses cs (from + k) e → Refuses (window from len cs) k (Lost k)
refused from len cs k (OutOfRange p) h r = let e = size from len cs in absurd (omega arith)
refused from len cs k (Lost p) h r = (refl, h, at from len cs k h ∙ r.2)

-- the answer r' is that from underneath, or the window's own fault
abbrev pub Renamed : {A : Type 0} → Result A MediumFault → ℕ → Result A MediumFault → Type 0
Renamed r k r' = MatchResult r (λ x. r' ≡ Ok x) (λ _. IsErrAnd r' (λ e. e ≡ Lost k))

-- a fetch within the window
pub fetched : (from len : ℕ) (cs : List Cell) (k : ℕ) (r r' : Result ℕ MediumFault) → k < length (window from len cs) → Fetched cs (from + k) r → Renamed r k r' → Fetched (window from len cs) k r'
fetched from len cs k (Ok b) (Ok b') h f e = let t : b' ≡ b = cc in (h, at from len cs k h ∙ f.1 ∙ ap byte (sym t))
fetched from len cs k (Ok b) (Err d) h f e = cc
fetched from len cs k (Err d) (Ok b) h f e = absurd e
fetched from len cs k (Err d) (Err d') h f e = rw e (refused from len cs k d h f)

pub written : (from len : ℕ) (cs : List Cell) (k : ℕ) (c : Cell) → k < length (window from len cs) → window from len (set cs (from + k) c) ≡ set (window from len cs) k c
written from len cs k c h =
    let e = size from len cs in
    let l : k < len = omega arith in
    ap (take len) (drop-set-add from cs k c) ∙ take-set-lt len (drop from cs) k c l

-- a put within the window
pub put_in : (from len : ℕ) (cs ds : List Cell) (k b : ℕ) (r r' : Result (Unit {0}) MediumFault) → k < length (window from len cs) → Put cs (from + k) b ds r → Renamed r k r' → Put (window from len cs) k b (window from len ds) r'
put_in from len cs ds k b (Ok u) (Ok v) h p e =
    (h, (λ z. p.1 (sym (at from len cs k h) ∙ z)), ap (window from len) p.2 ∙ written from len cs k (byte b) h)
put_in from len cs ds k b (Ok u) (Err d) h p e = cc
put_in from len cs ds k b (Err d) (Ok v) h p e = absurd e
put_in from len cs ds k b (Err d) (Err d') h p e = rw e (refused from len cs k d h p.0, ap (window from len) p.1)

-- and underneath
pub replaced : (cs ds : List Cell) (k m b : ℕ) (r r' : Result (Unit {0}) MediumFault) → Put cs m b ds r → Renamed r k r' → Replaced cs m (byte b) ds r'
replaced cs ds k m b (Ok u) (Ok v) p e = p.2
replaced cs ds k m b (Ok u) (Err d) p e = cc
replaced cs ds k m b (Err d) (Ok v) p e = absurd e
replaced cs ds k m b (Err d) (Err d') p e = p.1

-- what lies before and behind the window is as it was
pub before : (from len : ℕ) (cs ds : List Cell) (k b : ℕ) (r : Result (Unit {0}) MediumFault) → Replaced cs (from + k) (byte b) ds r → take from ds ≡ take from cs
before from len cs ds k b (Ok u) e = ap (take from) e ∙ take-set-le from cs (from + k) (byte b) (omega arith)
before from len cs ds k b (Err d) e = ap (take from) e

pub behind : (from len : ℕ) (cs ds : List Cell) (k b : ℕ) (r : Result (Unit {0}) MediumFault) → k < length (window from len cs) → Replaced cs (from + k) (byte b) ds r → drop (from + len) ds ≡ drop (from + len) cs
behind from len cs ds k b (Ok u) h e =
    let s = size from len cs in
    ap (drop (from + len)) e ∙ drop-set-lt (from + len) cs (from + k) (byte b) (omega arith)
behind from len cs ds k b (Err d) h e = ap (drop (from + len)) e
