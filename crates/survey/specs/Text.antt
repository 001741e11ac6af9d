-- The text of a survey.
use Rattle.std.specs.Prelude.{ℕ, zero, suc, ◌-◌, ◌*◌, cond, List, [], ◌∷◌, ◌++◌, length, codes, decimal, ◌==◌}
use Rattle.volume.specs.Blocks.{blocks, check_of, data_at, stored_at, volume_cells}
use Rattle.survey.specs.Tally.{readable, sound_among}

-- a word, a number and the end of the line, before what follows
abbrev pub line : List ℕ → ℕ → List ℕ → List ℕ
line word n rest = word ++ (decimal n ++ (10 ∷ rest))

abbrev pub figures : ℕ → ℕ → ℕ → ℕ → ℕ → List ℕ
figures all sound broken cells outside =
    line (codes "blocks: ") all
    (line (codes "sound: ") sound
    (line (codes "lost: ") broken (line (codes "readable cells: ") cells (line (codes "bytes in no block: ") outside []))))

abbrev pub head_text : List ℕ → List ℕ
head_text bs =
    figures (blocks bs) (sound_among bs (blocks bs)) (blocks bs - sound_among bs (blocks bs)) (readable (volume_cells bs))
    (length bs - 512 * blocks bs)

-- the line of a block with these two checks, if it is lost
abbrev pub line_of : ℕ → ℕ → ℕ → List ℕ
line_of k stored due =
    cond (stored == due) []
    (codes "block " ++ (decimal k ++ (codes " is lost: its check is " ++ (decimal stored ++ (codes " and should be " ++ (decimal due ++ (10 ∷ [])))))))

abbrev pub block_line : List ℕ → ℕ → List ℕ
block_line bs k = line_of k (stored_at bs k) (check_of (data_at bs k))

-- the lines of the lost ones of the first n blocks
abbrev pub lost_lines : List ℕ → ℕ → List ℕ
lost_lines bs zero = []
lost_lines bs (suc n) = lost_lines bs n ++ block_line bs n

abbrev pub text_of_survey : List ℕ → List ℕ
text_of_survey bs = head_text bs ++ lost_lines bs (blocks bs)
