-- What a reel volume is.
use Rattle.std.specs.Prelude.{◌≡◌, ℕ, ◌+◌, ◌*◌, ◌/◌, ◌%◌, ◌<◌, ◌≤◌, min, Bool, false, cond, List, [], ◌∷◌, map, length, take, drop, Some, None, Option, ◌==◌, nat_lt, slice_index}
use Rattle.std.specs.List.{range_with_len}
use Rattle.medium.specs.Cells.{Cell, byte, lost}
use Rattle.volume.specs.declared.block.Block.{Block}

-- the sum of (i + 1) times byte i, over bytes that are numbered from n on
abbrev pub weighed : ℕ → List ℕ → ℕ
weighed n [] = 0
weighed n (x ∷ xs) = (n + 1) * x + weighed (n + 1) xs

-- the check of a block's data
abbrev pub check_of : List ℕ → ℕ
check_of xs = 1 + weighed 0 xs

-- the data of block k
abbrev pub data_at : List ℕ → ℕ → List ℕ
data_at bs k = take 508 (drop (512 * k) bs)

-- the check that block k has, most significant byte first
abbrev pub stored_at : List ℕ → ℕ → ℕ
stored_at bs k =
    slice_index bs (512 * k + 508) * 16777216 + slice_index bs (512 * k + 508 + 1) * 65536 + slice_index bs (512 * k + 508 + 2) * 256 + slice_index bs (512 * k + 508 + 3)

unfoldable pub sound_at : List ℕ → ℕ → Bool
sound_at bs k = stored_at bs k == check_of (data_at bs k)

-- how many blocks count: whole ones, and no more than 2,048
abbrev pub blocks : List ℕ → ℕ
blocks bs = min 2048 (length bs / 512)

-- block k counts and is sound
abbrev pub readable : List ℕ → ℕ → Bool
readable bs k = cond (nat_lt k (blocks bs)) (sound_at bs k) false

-- the two checks of block k, where it counts
abbrev pub BlockAt : List ℕ → ℕ → Option Block → Type 0
BlockAt bs k None = blocks bs ≤ k
BlockAt bs k (Some b) = (k < blocks bs) × (b.stored ≡ stored_at bs k) × (b.due ≡ check_of (data_at bs k))

-- what an examination of all the checks finds, block by block
unfoldable pub verdicts : List ℕ → List Bool
verdicts bs = map (readable bs) (range_with_len 0 2048)

-- data byte i of block k is cell 508 k + i
abbrev pub cell_of : List ℕ → ℕ → Cell
cell_of bs p = cond (sound_at bs (p / 508)) (byte (slice_index bs (512 * (p / 508) + p % 508))) lost

unfoldable pub volume_cells : List ℕ → List Cell
volume_cells bs = map (cell_of bs) (range_with_len 0 (508 * blocks bs))
