-- Bytes as cells: the flat medium.
use Rattle.std.proofs.Common.{◌≡◌, ℕ, ◌<◌, min, ◌≢◌, List, [], ◌∷◌, ◌++◌, length, get_or, take, drop, set, Ok, Err, Result, sym, refl, ap, ◌∙◌, ap₂, arith, length-take}
use lib.ListN.{length-map}
use lib.Seq.{take-set-lt}
use Rattle.std.proofs.lemmas.List.{get_or-map, map-set, get_or-take, drop-set-lt, take-append-drop}
use Rattle.medium.specs.Cells.{Cell, byte, lost, held, flat_cells}
use Rattle.medium.specs.Access.{Put, Replaced}
use Rattle.medium.specs.declared.failure.MediumFault.{MediumFault}

pub size : (bs : List ℕ) → length (flat_cells bs) ≡ min 1048576 (length bs)
size bs = simp (length-map, length-take)

-- the cell at a place below the size
pub at : (bs : List ℕ) (k : ℕ) → k < length (flat_cells bs) → get_or (flat_cells bs) k lost ≡ byte (get_or bs k 0)
at bs k h =
    let e = size bs in
    let l : k < 1048576 = omega arith in
    let l2 : k < length (take 1048576 bs) = rw length-take (omega arith) in
    get_or-map byte (take 1048576 bs) k 0 lost l2 ∙ ap byte (get_or-take 1048576 bs k 0 l)

pub byte_not_lost : (c : Cell) (b : ℕ) → c ≡ byte b → c ≢ lost
byte_not_lost c b p q = cc

pub written : (bs : List ℕ) (k b : ℕ) → k < length (flat_cells bs) → flat_cells (set bs k b) ≡ set (flat_cells bs) k (byte b)
written bs k b h =
    let e = size bs in
    let l : k < 1048576 = omega arith in
    ap held (take-set-lt 1048576 bs k b l) ∙ map-set byte (take 1048576 bs) k b

-- the bytes past the last cell are as they were
pub beyond : (bs : List ℕ) (k b : ℕ) → k < length (flat_cells bs) → drop 1048576 (set bs k b) ≡ drop 1048576 bs
beyond bs k b h =
    let e = size bs in
    drop-set-lt 1048576 bs k b (omega arith)

pub held_same : (xs ys : List ℕ) → held xs ≡ held ys → xs ≡ ys
held_same [] [] e = refl
held_same [] (y ∷ ys) e = cc
held_same (x ∷ xs) [] e = cc
held_same (x ∷ xs) (y ∷ ys) e =
    let h : x ≡ y = cc in
    let t : held xs ≡ held ys = cc in
    ap₂ ◌∷◌ h (held_same xs ys t)

-- the bytes are known by the cells that they show and by what lies past these
pub same_bytes : (xs ys : List ℕ) → flat_cells xs ≡ flat_cells ys → drop 1048576 xs ≡ drop 1048576 ys → xs ≡ ys
same_bytes xs ys f b =
    sym (take-append-drop 1048576 xs) ∙ ap₂ ◌++◌ (held_same (take 1048576 xs) (take 1048576 ys) f) b ∙ take-append-drop 1048576 ys

-- what the bytes are that show the cells after a put
pub after-put : (bs bs' : List ℕ) (k b : ℕ) (r : Result (Unit {0}) MediumFault) → Put (flat_cells bs) k b (flat_cells bs') r → drop 1048576 bs' ≡ drop 1048576 bs → Replaced bs k b bs' r
after-put bs bs' k b (Ok u) p e = same_bytes bs' (set bs k b) (p.2 ∙ sym (written bs k b p.0)) (e ∙ sym (beyond bs k b p.0))
after-put bs bs' k b (Err f) p e = same_bytes bs' bs p.1 e
