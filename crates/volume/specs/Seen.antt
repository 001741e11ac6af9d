-- What a volume shows by flags that say which blocks are sound, whatever flags they are.
use Rattle.std.specs.Prelude.{ℕ, ◌+◌, ◌*◌, ◌/◌, ◌%◌, Bool, false, cond, List, map, slice_index, slice_index_or}
use Rattle.std.specs.List.{range_with_len}
use Rattle.medium.specs.Cells.{Cell, byte, lost}
use Rattle.volume.specs.Blocks.{blocks}

-- the cells, where `sound` says which blocks are. With the verdicts on the bytes it is `volume_cells`
abbrev pub seen_at : List Bool → List ℕ → ℕ → Cell
seen_at sound bs p = cond (slice_index_or sound (p / 508) false) (byte (slice_index bs (512 * (p / 508) + p % 508))) lost

unfoldable pub seen : List Bool → List ℕ → List Cell
seen sound bs = map (seen_at sound bs) (range_with_len 0 (508 * blocks bs))
