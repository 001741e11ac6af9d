-- How much of a volume can be read.
use Rattle.std.specs.Prelude.{ℕ, zero, suc, ◌+◌, cond, List, [], ◌∷◌}
use Rattle.medium.specs.Cells.{Cell, byte, lost}
use Rattle.volume.specs.Blocks.{sound_at}

-- the cells that are not lost
abbrev pub readable : List Cell → ℕ
readable [] = 0
readable (byte b ∷ cs) = 1 + readable cs
readable (lost ∷ cs) = readable cs

-- the sound ones of the first n blocks
abbrev pub sound_among : List ℕ → ℕ → ℕ
sound_among bs zero = 0
sound_among bs (suc n) = sound_among bs n + cond (sound_at bs n) 1 0
