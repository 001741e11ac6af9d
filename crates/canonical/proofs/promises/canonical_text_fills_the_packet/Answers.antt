use Rattle.canonical.proofs.Filling.{fills}
use Rattle.canonical.proofs.promises.canonical_text_fills_the_packet.Goals as goal

pub returns : goal.returns
returns c enc unit laws t l = fills enc unit laws t l
