-- What an accepted put makes of a volume.
use Rattle.std.proofs.Common.{◌≡◌, ℕ, ◌+◌, ◌*◌, ◌/◌, ◌%◌, ◌<◌, ◌≤◌, true, false, List, length, get_or, set, sym, refl, ap, ◌∙◌, subst, arith}
use Rattle.medium.specs.Cells.{byte}
use Rattle.volume.specs.Blocks.{blocks, sound_at, volume_cells, check_of, data_at, verdicts}
use Rattle.volume.specs.Renewed.{renewed}
use Rattle.volume.proofs.Volumes as vol
use Rattle.volume.proofs.Sealing as seal
use Rattle.volume.proofs.Verdicts as verd

pub record Accepted (bs bs' : List ℕ) (p b : ℕ) : Type 0 where
  pub cells : volume_cells bs' ≡ set (volume_cells bs) p (byte b)
  pub judged : verdicts bs' ≡ verdicts bs
  pub size : length bs' ≡ length bs
  pub unread : (q : ℕ) → get_or (verdicts bs) (q / 512) false ≡ false → get_or bs' q 0 ≡ get_or bs q 0

in_block : (bs : List ℕ) (p b : ℕ) → p < 508 * blocks bs → sound_at bs (p / 508) ≡ true → check_of (data_at (set bs (512 * (p / 508) + p % 508) b) (p / 508)) < 4294967296 → Accepted bs (renewed bs (p / 508) (p % 508) b) p b
in_block bs p b h t small =
    record {
      cells = seal.put_cells bs p b h t small;
      judged = verd.same bs (renewed bs (p / 508) (p % 508) b) (seal.same_blocks bs (p / 508) (p % 508) b) (seal.sound_after bs (p / 508) (p % 508) b hi w.2 t small);
      size = seal.renewed-length bs (p / 508) (p % 508) b;
      unread = λ q u. seal.another bs (p / 508) (p % 508) b q hi (λ e. let s : get_or (verdicts bs) (q / 512) false ≡ true = rw e (verd.at (verdicts bs) bs (p / 508) refl w.0 ∙ t) in cc);
    }
  where
    hi : p % 508 < 508
    hi = omega arith

    w : (p / 508 < blocks bs) × (p / 508 < 2048) × (512 * (p / 508) + 512 ≤ length bs)
    w = vol.within (length bs) p h

-- the same with the block's number and the bytes as the code has them
pub accepted : (bs bs' : List ℕ) (p k b : ℕ) → k ≡ p / 508 → p < 508 * blocks bs → sound_at bs k ≡ true → bs' ≡ renewed bs k (p % 508) b → check_of (data_at (set bs (512 * k + p % 508) b) k) < 4294967296 → Accepted bs bs' p b
accepted bs bs' p k b e h t r small =
    subst (λ xs. Accepted bs xs p b) (sym (r ∙ ap (λ j. renewed bs j (p % 508) b) e))
    (in_block bs p b h (subst (λ j. sound_at bs j ≡ true) e t)
    (subst (λ j. check_of (data_at (set bs (512 * j + p % 508) b) j) < 4294967296) e small))
