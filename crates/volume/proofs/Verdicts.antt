-- What is found of the checks.
use Rattle.std.proofs.Common.{◌≡◌, ℕ, zero, suc, ◌+◌, ◌*◌, ◌/◌, ◌%◌, ◌<◌, Bool, false, cond, eqb, ltb, ◌==◌, Some, None, Option, List, [], ◌∷◌, map, length, get_or, sym, refl, ap, ◌∙◌, ap₂, subst, zero-add, arith}
use Rattle.std.specs.List.{range_with_len}
use Rattle.std.specs.Array.{IsFromFnResult, IsFromFnResultFrom}
use Rattle.std.specs.Fn.{Called}
use Rattle.std.specs.Option.{MatchOption}
use Rattle.volume.specs.declared.block.Block.{Block}
use denote.Param.Members.{Mut}
use Rattle.std.proofs.lemmas.List.FromFn.{length-map-range_with_len, get_or-map-range_with_len, fill_by_all}
use Rattle.std.proofs.lemmas.Bool.{lt-ltb, le-ltb}
use Rattle.medium.specs.Cells.{byte, lost}
use Rattle.volume.specs.Blocks.{BlockAt, blocks, cell_of, readable, sound_at, verdicts, volume_cells}
use Rattle.volume.specs.Seen.{seen, seen_at}
use Rattle.volume.proofs.Volumes.{within}

pub at : (f : List Bool) (bs : List ℕ) (k : ℕ) → f ≡ verdicts bs → k < blocks bs → get_or f k false ≡ sound_at bs k
unfolding verdicts
at f bs k e h =
    ap (λ f. get_or f k false) e
    ∙ get_or-map-range_with_len (readable bs) 0 2048 k k false (omega arith) (zero-add k)
    ∙ ap (λ b. cond b (sound_at bs k) false) (lt-ltb k (blocks bs) h)

-- with flags that are true of its bytes a volume shows the cells that it has
pub shown : (f : List Bool) (bs : List ℕ) → f ≡ verdicts bs → seen f bs ≡ volume_cells bs
unfolding seen volume_cells
shown f bs e =
    fill_by_all (cell_of bs) (seen f bs) (508 * blocks bs) lost (length-map-range_with_len (seen_at f bs) 0 (508 * blocks bs))
    (λ p h. get_or-map-range_with_len (seen_at f bs) 0 (508 * blocks bs) p p lost h (zero-add p)
    ∙ ap (λ b. cond b (byte (get_or bs (512 * (p / 508) + p % 508) 0)) lost) (at f bs (p / 508) e (within (length bs) p h).0))

-- whether a block counts and is sound, by its two checks
pub judged : (bs : List ℕ) (k : ℕ) (o : Option Block) (r : Bool) → BlockAt bs k o → MatchOption o (r ≡ false) (λ b. r ≡ (b.stored == b.due)) → r ≡ readable bs k
unfolding sound_at
judged bs k None r h e = e ∙ sym (ap (λ t. cond t (sound_at bs k) false) (le-ltb k (blocks bs) h))
judged bs k (Some b) r h e = e ∙ ap₂ eqb h.1 h.2 ∙ sym (ap (λ t. cond t (sound_at bs k) false) (lt-ltb k (blocks bs) h.0))

-- flags that calls gave one by one
given : {F : Type 0} (g : Mut F (ℕ × Unit {0}) Bool) (f : F) (p : ℕ → Bool) → ((k : ℕ) (b : Bool) (f' : F) → Called g f (k, tt) b f' → (b ≡ p k) × (f' ≡ f)) → (bs : List Bool) (i n : ℕ) → IsFromFnResultFrom g f bs i n → (j k : ℕ) → j < n → i + j ≡ k → get_or bs k false ≡ p k
given g f p h bs i zero c j k l e = absurd (omega arith)
given g f p h bs i (suc n) (f', b, at, call, rest) zero k l e =
    let q : i ≡ k = omega arith in
    subst (λ k. get_or bs k false ≡ p k) q (at.1 false ∙ (h i b f' call).0)
given g f p h bs i (suc n) (f', b, at, call, rest) (suc j) k l e =
    given g f p h bs (i + 1) n (subst (λ f. IsFromFnResultFrom g f bs (i + 1) n) (h i b f' call).1 rest) j k (omega arith) (omega arith)

pub all : {F : Type 0} (g : Mut F (ℕ × Unit {0}) Bool) (f : F) (bs : List ℕ) (flags : List Bool) → ((k : ℕ) (b : Bool) (f' : F) → Called g f (k, tt) b f' → (b ≡ readable bs k) × (f' ≡ f)) → IsFromFnResult g f flags 2048 → flags ≡ verdicts bs
unfolding verdicts
all g f bs flags h r =
    fill_by_all (readable bs) flags 2048 false r.long (λ k l. given g f (readable bs) h flags 0 2048 r.each k k l (zero-add k))

alike : (f g : ℕ → Bool) (ns : List ℕ) → ((n : ℕ) → f n ≡ g n) → map f ns ≡ map g ns
alike f g [] e = refl
alike f g (n ∷ ns) e = ap₂ ◌∷◌ (e n) (alike f g ns e)

-- blocks that are as many and as sound as they were have the same verdicts
pub same : (bs cs : List ℕ) → blocks cs ≡ blocks bs → ((k : ℕ) → sound_at cs k ≡ sound_at bs k) → verdicts cs ≡ verdicts bs
unfolding verdicts
same bs cs e s = alike (readable cs) (readable bs) (range_with_len 0 2048) (λ k. ap₂ (λ n b. cond (ltb k n) b false) e (s k))
