-- The cells of a volume are as readable as its blocks are sound.
use Rattle.std.proofs.Common.{◌≡◌, ℕ, zero, suc, ◌+◌, ◌*◌, ◌/◌, ◌%◌, ◌<◌, ◌≤◌, Bool, true, false, cond, List, [], ◌∷◌, ◌++◌, map, count_by, get_or, sym, refl, ap, ◌∙◌, ap₂, add-zero, zero-add, add-one, suc-add, arith}
use Rattle.std.proofs.lemmas.List.{map-append}
use Rattle.std.proofs.lemmas.List.Sums.{sum_by-append}
use Rattle.std.specs.List.{range_with_len}
use Rattle.std.proofs.lemmas.Bool.{lt-ltb}
use Rattle.medium.specs.Cells.{Cell, byte, lost}
use Rattle.volume.specs.Blocks.{blocks, cell_of, readable as blockReadable, sound_at, volume_cells}
use Rattle.survey.specs.Tally.{readable, sound_among}

pub at_most : (bs : List ℕ) (n : ℕ) → sound_among bs n ≤ n
at_most bs zero = omega arith
at_most bs (suc n) = let i = at_most bs n in one (sound_at bs n) i
  where
    one : (b : Bool) → sound_among bs n ≤ n → sound_among bs n + cond b 1 0 ≤ suc n
    one true h = omega arith
    one false h = omega arith

-- a run of cells within block k
run : (bs : List ℕ) (k p n : ℕ) → 508 * k ≤ p → p + n ≤ 508 * k + 508 → readable (map (cell_of bs) (range_with_len p n)) ≡ cond (sound_at bs k) n 0
run bs k p zero l h = zeros (sound_at bs k)
  where
    zeros : (b : Bool) → ◌≡◌ {A = ℕ} 0 (cond b 0 0)
    zeros true = refl
    zeros false = refl
run bs k p (suc n) l h =
    let q : p / 508 ≡ k = omega arith in
    let r = run bs k (p + 1) n (omega arith) (omega arith) in
    ap (λ (j : ℕ). readable (cond (sound_at bs j) (byte (get_or bs (512 * (p / 508) + p % 508) 0)) lost ∷ map (cell_of bs) (range_with_len (p + 1) n))) q
    ∙ first (sound_at bs k) (get_or bs (512 * (p / 508) + p % 508) 0) (map (cell_of bs) (range_with_len (p + 1) n)) r
  where
    first : (b : Bool) (x : ℕ) (cs : List Cell) → readable cs ≡ cond b n 0 → readable (cond b (byte x) lost ∷ cs) ≡ cond b (suc n) 0
    first true x cs e = omega arith
    first false x cs e = e

counting_append : (a m n : ℕ) → range_with_len a (m + n) ≡ range_with_len a m ++ range_with_len (a + m) n
counting_append a zero n = rw (zero-add n) (rw (add-zero a) refl)
counting_append a (suc m) n =
    ap (range_with_len a) (suc-add m n)
    ∙ ap (λ ns. a ∷ ns) (counting_append (a + 1) m n ∙ ap (λ j. range_with_len (a + 1) m ++ range_with_len j n) (omega arith))

-- the blocks that can be read, counted one by one
pub counted : (bs : List ℕ) → count_by (blockReadable bs) (range_with_len 0 (blocks bs)) ≡ sound_among bs (blocks bs)
counted bs = below (blocks bs) (omega arith)
  where
    one : (k : ℕ) → k < blocks bs → blockReadable bs k ≡ sound_at bs k
    one k h = ap (λ t. cond t (sound_at bs k) false) (lt-ltb k (blocks bs) h)

    below : (n : ℕ) → n ≤ blocks bs → count_by (blockReadable bs) (range_with_len 0 n) ≡ sound_among bs n
    below zero h = refl
    below (suc n) h =
        let r = ap (range_with_len 0) (sym (add-one n)) ∙ counting_append 0 n 1 ∙ ap (λ j. range_with_len 0 n ++ (j ∷ [])) (zero-add n) in
        let f : ℕ → ℕ = λ k. cond (blockReadable bs k) 1 0 in
        let a = sum_by-append f (range_with_len 0 n) (n ∷ []) in
        let b = below n (omega arith) in
        let o : ◌≡◌ {A = ℕ} (cond (blockReadable bs n) 1 0) (cond (sound_at bs n) 1 0) = ap (λ t. cond t 1 0) (one n h) in
        ap (count_by (blockReadable bs)) r ∙ a ∙ omega arith

readable-append : (cs ds : List Cell) → readable (cs ++ ds) ≡ readable cs + readable ds
readable-append [] ds = sym (zero-add (readable ds))
readable-append (byte b ∷ cs) ds = let i = readable-append cs ds in omega arith
readable-append (lost ∷ cs) ds = readable-append cs ds

blockwise : (bs : List ℕ) (n : ℕ) → readable (map (cell_of bs) (range_with_len 0 (508 * n))) ≡ 508 * sound_among bs n
blockwise bs zero = refl
blockwise bs (suc n) =
    ap (λ j. readable (map (cell_of bs) (range_with_len 0 j))) (by_one n)
    ∙ ap (λ ps. readable (map (cell_of bs) ps)) (counting_append 0 (508 * n) 508)
    ∙ ap readable (map-append (cell_of bs) (range_with_len 0 (508 * n)) (range_with_len (0 + 508 * n) 508))
    ∙ readable-append (map (cell_of bs) (range_with_len 0 (508 * n))) (map (cell_of bs) (range_with_len (0 + 508 * n) 508))
    ∙ ap₂ (λ x y. x + y) (blockwise bs n) (run bs n (0 + 508 * n) 508 (omega arith) (omega arith))
    ∙ joined (sound_at bs n)
  where
    by_one : (m : ℕ) → 508 * suc m ≡ 508 * m + 508
    by_one m = omega arith

    joined : (b : Bool) → 508 * sound_among bs n + cond b 508 0 ≡ 508 * (sound_among bs n + cond b 1 0)
    joined true = omega arith
    joined false = omega arith

pub cells : (bs : List ℕ) → readable (volume_cells bs) ≡ 508 * sound_among bs (blocks bs)
unfolding volume_cells
cells bs = blockwise bs (blocks bs)
