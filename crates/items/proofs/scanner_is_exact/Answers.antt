use Rattle.items.proofs.Takes.{complete}
use Rattle.items.proofs.Widths.{shorter}
use Rattle.items.proofs.Sound.{sound}
use Rattle.items.proofs.scanner_is_exact.Goals as goal

pub returns : goal.returns
returns c = record { sound = sound; complete = complete; shorter = shorter }
