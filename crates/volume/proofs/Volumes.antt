-- The cells of a volume, place by place.
use Rattle.std.proofs.Common.{◌≡◌, ℕ, ◌+◌, ◌*◌, ◌/◌, ◌%◌, ◌<◌, ◌≤◌, min, true, false, cond, List, length, get_or, sym, ap, ◌∙◌, zero-add, arith}
use Rattle.std.proofs.lemmas.List.FromFn.{length-map-range_with_len, get_or-map-range_with_len}
use Rattle.medium.specs.Cells.{byte, lost}
use Rattle.volume.specs.Blocks.{blocks, cell_of, sound_at, volume_cells}

pub size : (bs : List ℕ) → length (volume_cells bs) ≡ 508 * blocks bs
unfolding volume_cells
size bs = length-map-range_with_len (cell_of bs) 0 (508 * blocks bs)

pub at : (bs : List ℕ) (p : ℕ) → p < 508 * blocks bs → get_or (volume_cells bs) p lost ≡ cell_of bs p
unfolding volume_cells
at bs p h = get_or-map-range_with_len (cell_of bs) 0 (508 * blocks bs) p p lost h (zero-add p)

-- the block of a place counts, and lies within the bytes
pub within : (n p : ℕ) → p < 508 * min 2048 (n / 512) → (p / 508 < min 2048 (n / 512)) × (p / 508 < 2048) × (512 * (p / 508) + 512 ≤ n)
within n p h = (omega arith, omega arith, omega arith)

pub whole : (bs : List ℕ) (p k : ℕ) → k ≡ p / 508 → p < 508 * blocks bs → sound_at bs k ≡ true → get_or (volume_cells bs) p lost ≡ byte (get_or bs (512 * k + p % 508) 0)
whole bs p k e h t =
    at bs p h ∙ ap (λ j. cond (sound_at bs j) (byte (get_or bs (512 * j + p % 508) 0)) lost) (sym e)
    ∙ ap (λ b. cond b (byte (get_or bs (512 * k + p % 508) 0)) lost) t

pub broken : (bs : List ℕ) (p : ℕ) → p < 508 * blocks bs → sound_at bs (p / 508) ≡ false → get_or (volume_cells bs) p lost ≡ lost
broken bs p h t = at bs p h ∙ ap (λ b. cond b (byte (get_or bs (512 * (p / 508) + p % 508) 0)) lost) t
