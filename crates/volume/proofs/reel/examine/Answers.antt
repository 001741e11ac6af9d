use Rattle.std.proofs.Common.{rules}
use Rattle.volume.proofs.Verdicts.{all}
use Rattle.volume.proofs.reel.examine.Goals as goal

pub returns : goal.returns
returns c = all _ _ c.args.bytes.now _ (λ k b f h. search rules) c.from_fn.ensures.items
