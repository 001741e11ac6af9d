-- That a volume has not too many cells, by whatever flags, and that what a put leaves alone is kept over calls in a row, as it is by
-- whatever has such parts. Ghost members cite these proofs, and may cite nothing of proofs/.
use Rattle.std.proofs.Common.{ℕ, ◌*◌, ◌≤◌, Bool, List, map, length, refl, ◌∙◌, arith}
use Rattle.std.specs.List.{range_with_len}
use Rattle.std.proofs.lemmas.List.FromFn.{length-map-range_with_len}
use Rattle.medium.specs.Cells.{Cell}
use Rattle.medium.specs.Frames.{Frame}
use Rattle.volume.specs.Blocks.{blocks, cell_of, volume_cells}
use Rattle.volume.specs.Seen.{seen, seen_at}
use Rattle.volume.specs.Kept.{VolumeKept, VolumePartsKept}

-- whatever the cells are
bounded : (cell : ℕ → Cell) (bs : List ℕ) → length (map cell (range_with_len 0 (508 * blocks bs))) ≤ 1048576
bounded cell bs = rw length-map-range_with_len (omega arith)

pub seen_bounded : (sound : List Bool) (bs : List ℕ) → length (seen sound bs) ≤ 1048576
unfolding seen
seen_bounded sound bs = bounded (seen_at sound bs) bs

pub volume_bounded : (bs : List ℕ) → length (volume_cells bs) ≤ 1048576
unfolding volume_cells
volume_bounded bs = bounded (cell_of bs) bs

pub volume_parts_frame : {S : Type 0} (loan : S → ℕ) (sound : S → List Bool) (bytes : S → List ℕ) → Frame (λ s t. VolumePartsKept (loan s) (sound s) (bytes s) (loan t) (sound t) (bytes t))
volume_parts_frame loan sound bytes =
    record {
      same = λ s. record { lent = refl; judged = refl; truthful = λ e. e; size = refl; unread = λ q h. refl };
      onward = λ s t u p q. record {
        lent = q.lent ∙ p.lent;
        judged = q.judged ∙ p.judged;
        truthful = λ e. q.truthful (p.truthful e);
        size = q.size ∙ p.size;
        unread = λ i h. q.unread i (rw p.judged h) ∙ p.unread i h;
      };
    }

pub volume_frame : Frame VolumeKept
volume_frame = volume_parts_frame (λ v. v.bytes.ghost_name) (λ v. v.sound) (λ v. v.bytes.now)
