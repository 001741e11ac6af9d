-- Each turn goes on by at least one byte.
use Rattle.std.proofs.Common.{length}
use Rattle.utf_vectors.proofs.show_stepped.Given as goal

abbrev pub decreases-loop-rest : goal.decreases-loop-rest
decreases-loop-rest g l = length l.rest
