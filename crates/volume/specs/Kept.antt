-- What a put leaves alone besides the cells of a volume. It is said of the parts that matter, whatever has them, and so of volumes.
use Rattle.std.specs.Prelude.{◌≡◌, ℕ, ◌/◌, Bool, false, List, length, slice_index, slice_index_or}
use Rattle.volume.specs.Blocks.{verdicts}
use Rattle.volume.specs.declared.reel.Volume.{Volume}

-- what no put alters: the loan (by the name that the logic gives it), which blocks are sound, that this is true of the bytes,
-- how many bytes there are, and each byte that belongs to no sound block
pub record VolumePartsKept (loan : ℕ) (sound : List Bool) (bs : List ℕ) (loan' : ℕ) (sound' : List Bool) (bs' : List ℕ) : Type 0 where
  pub lent : loan' ≡ loan
  pub judged : sound' ≡ sound
  pub truthful : sound ≡ verdicts bs → sound' ≡ verdicts bs'
  pub size : length bs' ≡ length bs
  pub unread : (q : ℕ) → slice_index_or sound (q / 512) false ≡ false → slice_index bs' q ≡ slice_index bs q

abbrev pub VolumeKept : Volume → Volume → Type 0
VolumeKept v w = VolumePartsKept v.bytes.ghost_name v.sound v.bytes.now w.bytes.ghost_name w.sound w.bytes.now
