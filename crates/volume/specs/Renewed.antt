-- What an accepted put makes of the bytes.
use Rattle.std.specs.Prelude.{ℕ, ◌+◌, ◌*◌, ◌/◌, ◌%◌, List, slice_set}
use Rattle.volume.specs.Blocks.{check_of, data_at}

-- n in the four check bytes of block k, most significant byte first
abbrev pub checked : List ℕ → ℕ → ℕ → List ℕ
checked bs k n =
    slice_set (slice_set (slice_set (slice_set bs (512 * k + 508) (n / 16777216 % 256)) (512 * k + 508 + 1) (n / 65536 % 256)) (512 * k + 508 + 2) (n / 256 % 256)) (512 * k + 508 + 3) (n % 256)

-- the bytes with the check of block k as it should be
unfoldable pub sealed : List ℕ → ℕ → List ℕ
sealed bs k = checked bs k (check_of (data_at bs k))

-- b as data byte i of block k, and the block's check renewed
abbrev pub renewed : List ℕ → ℕ → ℕ → ℕ → List ℕ
renewed bs k i b = sealed (slice_set bs (512 * k + i) b) k
