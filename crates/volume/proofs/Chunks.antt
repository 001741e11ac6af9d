-- The blocks of some bytes, one by one.
use Rattle.std.proofs.Common.{◌≡◌, ℕ, zero, suc, ◌*◌, ◌<◌, ◌≤◌, List, ◌∷◌, length, Some, None, Option, Bor, get_or, take, drop, w32, sym, refl, ap, subst, ◌∙◌, arith}
use Rattle.std.specs.Int.{from_be_bytes}
use Rattle.std.specs.Option.{MatchOption, IsSomeAnd}
use Rattle.std.specs.Simd.{first_chunks}
use Rattle.std.specs.Slice.{IsItemAt}
use Rattle.std.proofs.lemmas.List.{drop-drop, take-take}
use Rattle.volume.specs.Blocks.{BlockAt, blocks, check_of}
use Rattle.volume.specs.declared.block.Block.{Block}
use Rattle.volume.proofs.Sealing.{stored_last}

pub nth : (k c : ℕ) (bs d : List ℕ) → k < c → get_or (first_chunks 512 c bs) k d ≡ take 512 (drop (512 * k) bs)
nth k zero bs d h = absurd (omega arith)
nth zero (suc c) bs d h = refl
nth (suc k) (suc c) bs d h =
    nth k c (drop 512 bs) d (omega arith) ∙ ap (take 512) (drop-drop (512 * k) 512 bs ∙ ap (λ j. drop j bs) (omega arith))

pub front : (m c : ℕ) (bs : List ℕ) → m ≤ c → take m (first_chunks 512 c bs) ≡ first_chunks 512 m bs
front zero c bs h = refl
front (suc m) zero bs h = absurd (omega arith)
front (suc m) (suc c) bs h = ap (λ cs. take 512 bs ∷ cs) (front m c (drop 512 bs) (omega arith))

-- what a block says of itself is what is said of its place
pub found : (bs : List ℕ) (k : ℕ) (cs : List (List ℕ)) (o : Option (Bor (List ℕ))) (r : Option Block) → cs ≡ first_chunks 512 (blocks bs) bs → length cs ≡ blocks bs → IsItemAt cs k o → MatchOption o (r ≡ None) (λ x. IsSomeAnd r (λ b. (b.stored ≡ from_be_bytes w32 (drop 508 x.now)) × (b.due ≡ check_of (take 508 x.now)))) → BlockAt bs k r
found bs k cs None r e l g h = subst (BlockAt bs k) (sym h) (omega (arith, g.3))
found bs k cs (Some x) None e l g h = absurd h
found bs k cs (Some x) (Some b) e l g h =
    let i = g.3.0 in
    let q : x.now ≡ take 512 (drop (512 * k) bs) = g.1 ∙ ap (λ cs. get_or cs k x.now) e ∙ nth k (blocks bs) bs x.now (omega arith) in
    (omega arith, h.0 ∙ stored_last bs k (drop 508 x.now) (ap (drop 508) q), h.1 ∙ ap check_of (ap (take 508) q ∙ take-take 508 512 (drop (512 * k) bs) (omega arith)))
