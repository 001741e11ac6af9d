use Rattle.std.proofs.Common.{◌≡◌, ℕ, ◌-◌, ◌*◌, length, ◌∙◌}
use Rattle.std.proofs.lemmas.Result.{IfOk-weaker}
use Rattle.survey.specs.Text.{figures}
use Rattle.survey.proofs.head.Goals as goal

same : (all sound all' sound' cells size : ℕ) → all ≡ all' → sound ≡ sound' → cells ≡ 508 * sound → figures all sound (all - sound) (508 * sound) (size - 512 * all) ≡ figures all' sound' (all' - sound') cells (size - 512 * all')
same all sound all' sound' cells size p q r = cc

pub returns : goal.returns
returns c =
    IfOk-weaker c.format.result _ _
    (λ s e. e ∙ same c.block_count-blocks.result c.sound_count-sound.result _ _ _ (length c.args.bytes.now) c.block_count-blocks.ensures c.sound_count-sound.ensures.sound c.sound_count-sound.ensures.cells)
    c.format.ensures.ok
