-- What a medium is made of.
use Rattle.std.specs.Prelude.{ℕ, List, map, take, drop}

-- what stands at a place: a byte, or nothing that can be read any more
pub data Cell : Type 0 where
  byte : ℕ → Cell
  lost : Cell

-- bytes as cells, none of them lost
abbrev pub held : List ℕ → List Cell
held bs = map byte bs

-- bytes as they lie, as cells: as many as a medium has, and the rest of the bytes are none
abbrev pub flat_cells : List ℕ → List Cell
flat_cells bs = held (take 1048576 bs)

-- the cells from a place on, at most so many
abbrev pub window : ℕ → ℕ → List Cell → List Cell
window from len cs = take len (drop from cs)
