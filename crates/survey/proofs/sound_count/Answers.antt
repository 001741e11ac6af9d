use Rattle.std.proofs.Common.{◌*◌, count_by, ap, ◌∙◌}
use Rattle.std.specs.List.{range_with_len}
use Rattle.volume.specs.Blocks.{readable}
use Rattle.survey.proofs.Counts.{cells, counted}
use Rattle.survey.proofs.sound_count.Goals as goal

pub returns : goal.returns
returns c =
    let bs = c.args.bytes.now in
    let s = c.count_below.ensures ∙ ap (λ n. count_by (readable bs) (range_with_len 0 n)) c.block_count.ensures ∙ counted bs in
    record { sound = s; cells = cells bs ∙ ap (λ x. 508 * x) (cc) }
